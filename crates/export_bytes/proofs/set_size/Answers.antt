use Prim.Native.Nat.{ℕ, ◌+◌}
use mathlib.Core.Path.{ap}
use mathlib.Core.List.{[]}
use lib.ListN.{get_or}
use native.Mathlib.Omega.{arith}
use Rattle.export_bytes.specs.Sizes.{set_size}
use Rattle.export_bytes.proofs.set_size.Goals as goal

pub returns : goal.returns
unfolding set_size
returns c = let n = get_or (get_or c.args.sets.rows.now c.args.s []) 11 0 in (ap (λ (y : ℕ). n + y) c.size.ensures.0, omega (arith, c.size.ensures.1))
