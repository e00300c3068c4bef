use Prim.Native.Nat.{ℕ, ◌+◌}
use mathlib.Core.Path.{ap₂}
use Rattle.export_bytes.specs.Sizes.{whole_size}
use Rattle.export_bytes.proofs.measure.Goals as goal

pub returns : goal.returns
unfolding whole_size
returns c = ap₂ (λ (x y : ℕ). x + y) (ap₂ (λ (x y : ℕ). x + y) c.link_size-link.ensures.0 c.set_size-own.ensures.0) c.aslas_size-aslas.ensures.0
