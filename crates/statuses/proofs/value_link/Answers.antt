-- Nothing where it is refused or SRLG; else where it stands in run A.
use borrow.Author.Tests.{ne_eqb}
use Rattle.replies.proofs.Laws.{err-else}
use Rattle.statuses.proofs.EntryLaws.{place-refused, place-srlg, place-first}
use Rattle.isis_link.proofs.Checks.{asked-refused, asked-passed, asked-with, asked-in-a}
use Rattle.isis.specs.Link.{link_source}
use Rattle.replies.specs.Told.{subject_of}
use Rattle.statuses.proofs.value_link.Goals as goal

pub returns-in_default : goal.returns-in_default
returns-in_default c =
    let a = c.args in let p = err-else _ c.in_default.not-Ok in
    place-refused (link_source a.a.now a.b.now a.c.now) (subject_of a.whom) a.code _ _ c.nothing.ensures (asked-refused _ _ _ _ _ _ c.check_asked.ensures _ p.1)

pub returns-then-code-eq1096 : goal.returns-then-code-eq1096
returns-then-code-eq1096 c =
    let a = c.args in
    place-srlg (link_source a.a.now a.b.now a.c.now) (subject_of a.whom) a.code _ c.nothing-then-code-eq1096.ensures
    (asked-passed _ _ _ _ _ _ c.check_asked.ensures _ c.in-Ok.is) c.if-code-eq1096.true

pub find_row-requires : goal.find_row-requires
find_row-requires c = asked-in-a _ _ _ _ _ _ (asked-with _ _ _ _ _ _ c.check_asked.ensures _ c.in-Ok.is) (ne_eqb _ 1096 c.if-code-eq1096.false)

pub returns : goal.returns
unfolding link_source
returns c =
    let a = c.args in
    place-first (link_source a.a.now a.b.now a.c.now) (subject_of a.whom) a.code _
    (asked-passed _ _ _ _ _ _ c.check_asked.ensures _ c.in-Ok.is) c.if-code-eq1096.false
    (c.place_row.ensures _ (c.find_row.ensures a.b.now a.c.now))
