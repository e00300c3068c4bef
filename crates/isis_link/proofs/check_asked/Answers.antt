-- Refused by the question, or as the link is checked.
use Rattle.isis_link.proofs.Checks.{refused-first, as-link}
use Rattle.replies.proofs.Laws.{passed_on}
use Rattle.replies.specs.Told.{subject_of, told_checked}
use mathlib.Core.Path.{sym, ap, ◌∙◌}
use Rattle.isis_link.proofs.check_asked.Goals as goal

pub returns-in_err-check_question : goal.returns-in_err-check_question
returns-in_err-check_question c = let q = c.args in
    rw (passed_on _ _ c.from_residual.ensures.1)
    (refused-first q.a.now q.b.now q.c.now (subject_of q.whom) q.code _
    (sym (ap told_checked c.in_err-check_question.was) ∙ c.check_question.ensures))

pub returns : goal.returns
returns c = let q = c.args in
    as-link q.a.now q.b.now q.c.now (subject_of q.whom) q.code _
    (sym (ap told_checked c.in_ok-check_question.was) ∙ c.check_question.ensures) c.check_sides.ensures
