-- Refused by the question, or as the run is.
use Rattle.answering.proofs.Entries.{by-question, by-verdict}
use Rattle.replies.proofs.Laws.{passed_on}
use Rattle.replies.specs.Told.{told_checked}
use Rattle.linkstate.specs.BgpLs.{run_source}
use mathlib.Core.Path.{sym, ap, ◌∙◌}
use Rattle.bgpls_reader.proofs.check_asked.Goals as goal

pub returns-in_err-check_question-clause-verdict : goal.returns-in_err-check_question-clause-verdict
returns-in_err-check_question-clause-verdict c = ap told_checked (passed_on _ _ c.from_residual.ensures.1) ∙ sym (by-question _ _ _ _ c.in_err-check_question.ensures)

pub returns-clause-verdict : goal.returns-clause-verdict
unfolding run_source
returns-clause-verdict c = c.accept.ensures.verdict ∙ by-verdict _ _ _ c.in_ok-check_question.ensures
