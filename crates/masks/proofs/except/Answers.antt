-- Mask by mask.
use mathlib.Core.Path.{◌≡◌}
use mathlib.Core.Bool.{◌&&◌, not}
use Rattle.masks.proofs.Sets.{place-by}
use Rattle.masks.proofs.except.Goals as goal

pub returns : goal.returns
returns c = place-by (λ r a b. r ≡ a && not b) _ _ _ c.without.ensures c.without-2.ensures
