-- Refused as the run is, or what its 1122s name.
use Rattle.bgpls_reader.proofs.Laws.{of-run, lists}
use Rattle.answering.proofs.Entries.{named-refused}
use Rattle.replies.proofs.Laws.{passed_on}
use Rattle.replies.specs.Told.{told_named}
use mathlib.Core.Path.{ap, ◌∙◌}
use Rattle.bgpls_reader.proofs.named.Goals as goal

pub returns-in_err-run : goal.returns-in_err-run
returns-in_err-run c = ap told_named (passed_on _ _ c.from_residual.ensures.1) ∙ named-refused _ _ (of-run _ _ c.in_err-run.ensures.verdict)

pub returns : goal.returns
returns c = let m = rw c.in_ok-run.ensures.bytes at c.named_masks-standard.ensures in
    lists _ _ _ (of-run _ _ c.in_ok-run.ensures.verdict) m.standard m.user
