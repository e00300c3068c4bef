-- `repeats::may_have_stood` meets its contract.
use mathlib.Core.Path.{refl}
use Rattle.linkstate.specs.Masks.{in_number}
use Rattle.repeats.proofs.may_have_stood.Goals as goal

pub returns : goal.returns
unfolding in_number
returns c = refl
