-- What has joined is the table of all below the next.
use Prim.Native.Nat.{ℕ}
use mathlib.Core.Path.{◌≡◌}
use mathlib.Core.Bool.{Bool}
use lib.ListN.{length}
use Rattle.set_groups.specs.Table.{Placed, Begun, Ahead}
use Rattle.set_groups.proofs.join_mask.Given as goal

abbrev pub invariant-loop-t : goal.invariant-loop-t
invariant-loop-t l =
    (length l.groups ≡ length l.initial.groups)
    × ((p : ℕ → Bool) (from : ℕ) → Placed l.sets.rows.now l.own p → Begun l.sets.run.now l.sets.rows.now l.own p from l.entries l.initial.groups l.initial.buckets → Ahead p l.base from l.bits
    → ((n : ℕ) × Begun l.sets.run.now l.sets.rows.now l.own p n l.count l.groups l.buckets × Ahead p l.base n l.t-iterator.0))
