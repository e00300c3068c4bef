-- By the two length bytes.
use native.Mathlib.Omega.{arith}
use Rattle.isis_grids.proofs.Taken.{general-not, general-if}
use Rattle.isis_grids.proofs.is_general.Goals as goal

pub returns-then-v-ne0 : goal.returns-then-v-ne0
returns-then-v-ne0 c = general-not _ c.requires (λ e. omega (arith, e))

pub returns : goal.returns
returns c = general-if _ c.requires (omega arith)
