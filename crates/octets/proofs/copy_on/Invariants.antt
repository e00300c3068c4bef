use Prim.Native.Nat.{ℕ, ◌≤◌, ◌<◌}
use mathlib.Core.Path.{◌≡◌}
use lib.ListN.{length, get_or}
use lib.Seq.{paste}
use Rattle.linkstate.specs.Bytes.{bytes_at}
use Rattle.octets.proofs.copy_on.Given as goal

abbrev pub invariant-loop-i : goal.invariant-loop-i
invariant-loop-i l = (l.i ≤ l.n) × (length l.out ≡ length l.initial.out) × (l.out ≡ paste l.initial.out l.to (bytes_at l.initial.out l.from l.n) l.i) × ((j : ℕ) → j < l.to → get_or l.out j 0 ≡ get_or l.initial.out j 0)
