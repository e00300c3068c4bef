-- A code is one of the fourteen exactly if its rule's kind is.
use mathlib.Core.Path.{◌∙◌}
use Rattle.answering.proofs.Laws.{known-by-kind}
use Rattle.answering.proofs.is_code.Goals as goal

pub returns : goal.returns
returns c = c.is_known.ensures ∙ known-by-kind _ _ c.classify_code-kind.ensures
