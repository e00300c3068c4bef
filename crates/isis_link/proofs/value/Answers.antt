-- Nothing where it is refused or SRLG, else the part that was found.
use Rattle.replies.proofs.Laws.{err-else}
use Rattle.isis_link.proofs.Laws.{source-bytes}
use Rattle.isis_link.proofs.Checks.{asked-refused, asked-passed, asked-with, asked-in-a}
use Rattle.answering.proofs.Entries.{value-refused, value-srlg, value-part}
use Rattle.isis.specs.Link.{link_source}
use Rattle.replies.specs.Told.{subject_of}
use borrow.Author.Tests.{ne_eqb}
use Rattle.isis_link.proofs.value.Goals as goal

pub returns-in_default : goal.returns-in_default
returns-in_default c =
    let a = c.args in let p = err-else _ c.in_default.not-Ok in
    value-refused (link_source a.a.now a.b.now a.c.now) (subject_of a.whom) a.code _ (asked-refused _ _ _ _ _ _ c.check_asked.ensures _ p.1)

pub returns-then-code-eq1096 : goal.returns-then-code-eq1096
returns-then-code-eq1096 c = let a = c.args in
    value-srlg (link_source a.a.now a.b.now a.c.now) (subject_of a.whom) a.code
    (asked-passed _ _ _ _ _ _ c.check_asked.ensures _ c.in-Ok.is)
    c.if-code-eq1096.true

pub part_of-requires : goal.part_of-requires
part_of-requires c = asked-in-a _ _ _ _ _ _ (asked-with _ _ _ _ _ _ c.check_asked.ensures _ c.in-Ok.is) (ne_eqb _ 1096 c.if-code-eq1096.false)

pub returns : goal.returns
returns c = let a = c.args in
    value-part (link_source a.a.now a.b.now a.c.now) (subject_of a.whom) a.code _
    (asked-passed _ _ _ _ _ _ c.check_asked.ensures _ c.in-Ok.is) c.if-code-eq1096.false
    (source-bytes a.a.now a.b.now a.c.now _ _ (c.part_of.ensures a.b.now a.c.now))
