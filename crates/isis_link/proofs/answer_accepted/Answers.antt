-- SRLGs of side B, every other kind of side A.
use Rattle.isis_link.proofs.Laws.{passed, srlg-of-link}
use Rattle.isis_link.proofs.Checks.{asked-in-a}
use Rattle.answering.proofs.Entries.{answer-srlg, answer-other}
use Rattle.isis.specs.Link.{link_source}
use Rattle.replies.specs.Told.{subject_of}
use Rattle.linkstate.specs.Replies.{run_a, place}
use borrow.Author.Tests.{ne_eqb}
use Rattle.isis_link.proofs.answer_accepted.Goals as goal

pub answer_srlg-requires : goal.answer_srlg-requires
answer_srlg-requires c = let p = c.requires in (passed _ _ _ p.link, p.low, p.sides.in_b)

pub returns-then-code-eq1096 : goal.returns-then-code-eq1096
returns-then-code-eq1096 c = let a = c.args in
    answer-srlg (link_source a.a.now a.b.now a.c.now) (subject_of a.whom) _ (place run_a) _ _ c.if-code-eq1096.true
    (srlg-of-link a.a.now a.b.now a.c.now (subject_of a.whom) _ _ c.answer_srlg.ensures)

pub answer_value-requires : goal.answer_value-requires
answer_value-requires c = asked-in-a _ _ _ _ _ _ c.requires (ne_eqb _ 1096 c.if-code-eq1096.false)

pub returns : goal.returns
returns c = let a = c.args in
    answer-other (link_source a.a.now a.b.now a.c.now) (subject_of a.whom) _ (place run_a) _ _ c.if-code-eq1096.false
    (c.answer_value.ensures a.b.now a.c.now)
