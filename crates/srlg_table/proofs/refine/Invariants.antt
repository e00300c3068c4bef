-- `srlg_table::refine` meets its contract: the blocks before k have source i. Assumes nothing.
use Prim.Native.Nat.{◌≤◌}
use mathlib.Core.Path.{◌≡◌}
use lib.ListN.{length}
use Rattle.srlg_table.proofs.Refines.{Refining}
use Rattle.srlg_table.proofs.refine.Given as goal

abbrev pub invariant-loop-k : goal.invariant-loop-k
invariant-loop-k l = (length l.blocks ≡ length l.initial.blocks) × (l.n ≤ length l.blocks)
    × Refining l.rows l.i l.standard l.user l.blocks l.count l.n l.k l.s l.u
