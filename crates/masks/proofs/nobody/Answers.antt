-- No mask has a bit.
use mathlib.Core.Path.{refl}
use Rattle.masks.proofs.Sets.{place_none}
use Rattle.masks.proofs.nobody.Goals as goal

pub returns : goal.returns
returns c = place_none _ refl refl
