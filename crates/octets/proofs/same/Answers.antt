-- Equality of slices is that of the definition.
use mathlib.Core.Path.{◌∙◌}
use Rattle.octets.proofs.Laws.{same-pointwise}
use Rattle.octets.proofs.same.Goals as goal

pub returns : goal.returns
returns c = c.eq.ensures ∙ same-pointwise _ _
