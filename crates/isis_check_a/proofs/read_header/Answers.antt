-- The three numbers are the definitions' own; a remainder by 128 is below 128.
use mathlib.Core.Path.{refl}
use native.Mathlib.Omega.{arith}
use Rattle.isis.specs.MaskHeader.{l_flag, sabm_length, udabm_length}
use Rattle.isis_check_a.proofs.read_header.Goals as goal

pub returns : goal.returns
unfolding l_flag sabm_length udabm_length
returns c = (refl, omega arith, omega arith)
