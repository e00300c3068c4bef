-- Set by set.
use mathlib.Core.Path.{◌≡◌}
use mathlib.Core.Bool.{◌||◌}
use Rattle.masks.proofs.Sets.{set-by}
use Rattle.rules.proofs.Names.both.Goals as goal

pub returns : goal.returns
returns c = record { named = set-by (λ r a b. r ≡ a || b) _ _ _ c.join-named.ensures; flagged = set-by (λ r a b. r ≡ a || b) _ _ _ c.join-flagged.ensures }
