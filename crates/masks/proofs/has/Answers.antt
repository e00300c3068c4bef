-- `masks::has` meets its contract.
-- Assumes nothing.
use mathlib.Core.Path.{refl}
use Rattle.linkstate.specs.Masks.{in_number}
use Rattle.masks.proofs.has.Goals as goal

pub returns : goal.returns
unfolding in_number
returns c = refl
