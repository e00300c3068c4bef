-- `srlg_table::find` meets its contract: a search along the chain of the mark's bucket. Assumes nothing.
use Prim.Native.Nat.{ℕ}
use Rattle.srlg_table.specs.Tables.{Table}
use Rattle.srlg_table.proofs.Tabling.{Searching}
use Rattle.srlg_table.proofs.find.Given as goal

abbrev pub invariant-loop-i : goal.invariant-loop-i
invariant-loop-i l = ((count : ℕ) → Table l.rows l.used.sources l.used.words l.classes l.heads l.buckets count → Searching l.rows l.used.words l.x l.classes
    l.heads l.buckets l.mark count l.i)

abbrev pub decreases-loop-i : goal.decreases-loop-i
decreases-loop-i l = l.i
