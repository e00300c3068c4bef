-- Kind by kind.
use Prim.Native.Nat.{◌*◌, ◌≤◌}
use mathlib.Core.Path.{◌≡◌}
use Rattle.export_bytes.specs.Sizes.{link_size}
use Rattle.export_bytes.proofs.link_size.Given as goal

abbrev pub invariant-loop-k : goal.invariant-loop-k
invariant-loop-k l = (l.total ≡ link_size l.sets l.k) × (l.total ≤ l.k * 65540)
