-- Refused before the answer, or answered.
use Rattle.replies.proofs.Laws.{passed_on}
use Rattle.isis_link.proofs.Checks.{asked-refused, asked-passed, asked-with}
use Rattle.isis_link.proofs.Laws.{answered}
use Rattle.answering.proofs.Entries.{ask-refused}
use Rattle.isis.specs.Link.{link_source}
use Rattle.replies.specs.Told.{subject_of}
use Rattle.isis_link.proofs.ask.Goals as goal

pub answer_accepted-requires : goal.answer_accepted-requires
answer_accepted-requires c = asked-with _ _ _ _ _ _ c.check_asked.ensures _ c.in_ok-sides.was

pub returns-in_err-sides : goal.returns-in_err-sides
returns-in_err-sides c = let a = c.args in
    rw (passed_on _ _ c.from_residual.ensures.1)
    (ask-refused (link_source a.a.now a.b.now a.c.now) (subject_of a.whom) a.code _ _
    (asked-refused _ _ _ _ _ _ c.check_asked.ensures _ c.in_err-sides.was))

pub returns : goal.returns
returns c = let a = c.args in
    answered a.a.now a.b.now a.c.now (subject_of a.whom) a.code _ _
    (asked-passed _ _ _ _ _ _ c.check_asked.ensures _ c.in_ok-sides.was)
    c.answer_accepted.ensures
