-- By the rule.
use Rattle.srlg_classes.specs.Owned.{class_at}
use Rattle.srlg_classes.proofs.Rsvp.{no_own, own-one, general-one, legacy-one}
use borrow.Author.Rules.{rules}
use Rattle.srlg_classes.proofs.rsvp_class.Goals as goal

pub returns-then-c-eq0 : goal.returns-then-c-eq0
unfolding class_at
returns-then-c-eq0 c = let a = c.args in
    no_own a.side.names a.side.legacy a.own.now a.first _ _ c.is_named_with_l-l.ensures c.is_named-n.ensures _ c.rsvp_te_rule.ensures
    c.in-NamingFirst.is _ c.from-c.ensures c.if-c-eq0.true

pub returns-else-c-eq0 : goal.returns-else-c-eq0
unfolding class_at
returns-else-c-eq0 c = let a = c.args in
    own-one a.side.names a.side.legacy a.own.now a.first _ _ c.is_named_with_l-l.ensures c.is_named-n.ensures _ c.rsvp_te_rule.ensures
    c.in-NamingFirst.is _ c.from-c.ensures c.if-c-eq0.false

pub returns-in-General : goal.returns-in-General
returns-in-General c = let a = c.args in
    general-one a.side.names a.side.legacy a.own.now a.first _ _ c.is_named_with_l-l.ensures c.is_named-n.ensures _ c.rsvp_te_rule.ensures
    c.in-General.is

pub returns-in_default : goal.returns-in_default
returns-in_default c = let a = c.args in
    legacy-one a.side.names a.side.legacy a.own.now a.first _ _ c.is_named_with_l-l.ensures c.is_named-n.ensures _ c.rsvp_te_rule.ensures
    (search rules)
