use Prim.Native.Nat.{ℕ, ◌+◌}
use mathlib.Core.Path.{ap₂}
use native.Mathlib.Omega.{arith}
use Rattle.export_bytes.specs.Sizes.{asla_size}
use Rattle.export_bytes.proofs.Asla.size.Goals as goal

pub returns : goal.returns
unfolding asla_size
returns c = (ap₂ (λ (x y : ℕ). x + y) c.front_size.ensures.0 c.set_size.ensures.0, omega (arith, c.front_size.ensures.1, c.set_size.ensures.1))
