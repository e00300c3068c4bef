-- `isis_index::rsvp_te_slot` meets its contract: by the rule its own slot, filled up, the general set's, or legacy's. Assumes nothing.
use mathlib.Core.Path.{◌∙◌, sym, subst}
use Rattle.grids.specs.Slots.{IsSet}
use Rattle.isis_index.proofs.Settling.{old-given}
use Rattle.isis_index.proofs.RsvpTe.{own-slot, own-named, general-slot, old-slot, given_to}
use borrow.Author.Rules.{rules}
use Rattle.isis_index.proofs.rsvp_te_slot.Goals as goal

pub add_all_old-requires : goal.add_all_old-requires
add_all_old-requires c = let a = c.args in
    let i = own-named a.side.names a.side.legacy a.own.now _ _ c.is_named_with_l-l.ensures c.is_named-n.ensures _ c.rsvp_te_rule.ensures c.in-NamingFirst.is in
    (c.requires.0, c.requires.1, subst (IsSet a.sets.now) (sym c.from-s.ensures) (c.requires.2 i))

pub returns-in-NamingFirst : goal.returns-in-NamingFirst
returns-in-NamingFirst c = let a = c.args in
    let i = own-slot a.side.names a.side.legacy a.own.now _ _ c.is_named_with_l-l.ensures c.is_named-n.ensures _ c.rsvp_te_rule.ensures c.in-NamingFirst.is in
    let r = c.add_all_old.ensures in let w = c.from-s.ensures in
    (w ∙ i.0, r.0, given_to (w ∙ i.1) r.1)

pub returns-in-General : goal.returns-in-General
returns-in-General c = let a = c.args in
    let i = general-slot a.side.names a.side.legacy a.own.now _ _ c.is_named_with_l-l.ensures c.is_named-n.ensures _ c.rsvp_te_rule.ensures c.in-General.is in
    (i.0, c.requires.0, given_to i.1 (old-given a.sets.now))

pub returns-in_default : goal.returns-in_default
returns-in_default c = let a = c.args in
    let i = old-slot a.side.names a.side.legacy a.own.now _ _ c.is_named_with_l-l.ensures c.is_named-n.ensures _ c.rsvp_te_rule.ensures (search rules) in
    (i.0, c.requires.0, given_to i.1 (old-given a.sets.now))
