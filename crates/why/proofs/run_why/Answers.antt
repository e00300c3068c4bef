-- Refused before the answer, or told.
use mathlib.Core.Path.{sym, ap, ◌∙◌}
use Rattle.bgpls_reader.proofs.Laws.{granted}
use Rattle.linkstate.specs.BgpLs.{run_source}
use Rattle.linkstate.specs.RunWhy.{run_why}
use Rattle.replies.specs.Told.{subject_of, told_why}
use Rattle.replies.proofs.Laws.{passed_on}
use Rattle.why.specs.Runs.{run_answer}
use Rattle.why.proofs.Rules.{why-refused, why-told}
use Rattle.why.proofs.run_why.Goals as goal

pub returns-in_err-run : goal.returns-in_err-run
unfolding run_source run_why run_answer
returns-in_err-run c =
    let a = c.args in
    ap told_why (passed_on _ _ c.from_residual.ensures.1)
    ∙ why-refused (run_source a.r.now) (subject_of a.whom) a.code (run_answer a.r.now (subject_of a.whom) a.code) _ (sym c.in_err-run.ensures.verdict)

pub why_of_run-requires : goal.why_of_run-requires
why_of_run-requires c = let g = granted _ _ _ (sym c.in_ok-run.ensures.verdict) in (g.1, g.2)

pub returns : goal.returns
unfolding run_source run_why run_answer
returns c =
    let a = c.args in
    why-told (run_source a.r.now) (subject_of a.whom) a.code (run_answer a.r.now (subject_of a.whom) a.code) _ (sym c.in_ok-run.ensures.verdict)
    (rw c.in_ok-run.ensures.bytes at c.why_of_run.ensures)
