-- `srlg_table::blocks_of` meets its contract: the blocks by the sources below i. Assumes nothing.
use Prim.Native.Nat.{◌≤◌, ◌<◌}
use mathlib.Core.Path.{◌≡◌}
use lib.ListN.{length}
use Rattle.srlg_table.specs.Blocks.{Blocks}
use Rattle.srlg_table.proofs.blocks_of.Given as goal

abbrev pub invariant-loop-i : goal.invariant-loop-i
invariant-loop-i l = (1 < l.i) × (l.i ≤ l.sources) × (length l.blocks ≡ length l.initial.blocks) × Blocks l.rows l.standard l.user l.blocks l.n l.i
