-- Refused, or answered.
use Rattle.bgpls_reader.proofs.Laws.{granted, answered}
use Rattle.answering.proofs.Entries.{ask-refused}
use Rattle.replies.proofs.Laws.{passed_on}
use Rattle.replies.specs.Told.{told_asked}
use mathlib.Core.Path.{sym, ap, ◌∙◌}
use Rattle.bgpls_reader.proofs.ask.Goals as goal

pub returns-in_err-run : goal.returns-in_err-run
returns-in_err-run c = ap (λ x. told_asked x c.args.list.now) (passed_on _ _ c.from_residual.ensures.1)
    ∙ ask-refused _ _ _ _ _ (sym c.in_err-run.ensures.verdict)

pub answer_accepted-requires : goal.answer_accepted-requires
answer_accepted-requires c = let g = granted _ _ _ (sym c.in_ok-run.ensures.verdict) in (g.1, g.2)

pub returns : goal.returns
returns c = answered _ _ _ (sym c.in_ok-run.ensures.verdict) _ _ (rw c.in_ok-run.ensures.bytes at c.answer_accepted.ensures)
