-- Refused as the link is, or whom either side names, without RSVP-TE.
use Rattle.isis_link.proofs.Laws.{of-link, lists, standard-in, user-in, told_names}
use Rattle.answering.proofs.Entries.{named-refused}
use Rattle.replies.specs.Told.{told_checked}
use Rattle.replies.proofs.Laws.{passed_on}
use Rattle.isis.specs.Link.{link_source}
use mathlib.Core.Path.{sym, ap, ◌∙◌}
use borrow.Author.Rules.{rules}
use Rattle.isis_link.proofs.named.Goals as goal

pub returns-in_err-sides : goal.returns-in_err-sides
returns-in_err-sides c = let a = c.args in
    rw (passed_on _ _ c.from_residual.ensures.1)
    (named-refused (link_source a.a.now a.b.now a.c.now) _
    (of-link a.a.now a.b.now a.c.now _ (sym (ap told_checked c.in_err-sides.was) ∙ c.check_sides.ensures.told)))

pub returns : goal.returns
returns c = let a = c.args in
    let k = c.check_sides.ensures in
    let e = c.in_ok-sides.was in
    let t = told_names _ _ _ _ k.names _ e in let j = c.both-m.ensures in
    lists a.a.now a.b.now a.c.now _ _ (sym (ap told_checked e) ∙ k.told) (search rules) (search rules)
    (standard-in _ _ _ _ _ _ t.in_a.0 t.in_b.0 j _ c.turned_set-who.ensures _ c.without.ensures)
    (user-in _ _ _ _ _ _ t.in_a.0 t.in_b.0 j _ c.turned_set-who.ensures)
