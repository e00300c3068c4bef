-- Mask by mask.
use mathlib.Core.Path.{◌≡◌}
use mathlib.Core.Bool.{◌||◌}
use Rattle.masks.proofs.Sets.{place-by}
use Rattle.masks.proofs.join.Goals as goal

pub returns : goal.returns
returns c = place-by (λ r a b. r ≡ a || b) _ _ _ c.joined.ensures c.joined-2.ensures
