-- `isis_export::link_of` meets its contract. Assumes nothing.
use mathlib.Core.Path.{◌≡◌, refl}
use mathlib.Core.Bool.{◌||◌}
use Rattle.masks.proofs.Sets.{set-by}
use Rattle.isis_export.proofs.link_of.Goals as goal

pub returns : goal.returns
returns c = record { of = (refl, refl, refl, refl); both = set-by (λ r a b. r ≡ a || b) _ _ _ c.join-who.ensures }
