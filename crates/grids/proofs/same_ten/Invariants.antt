-- While all that were passed are the same, the cells are if those left are.
use lib.ListN.{take}
use Rattle.std.specs.Slice.Iter.{iter_rest}
use Rattle.std.specs.Iterator.Adapters.{zip_first, zip_second}
use Rattle.grids.proofs.Laws.{Passed}
use Rattle.grids.proofs.same_ten.Given as goal

abbrev pub invariant-loop-a : goal.invariant-loop-a
invariant-loop-a l = Passed (take 10 l.x) (take 10 l.y) l.same (iter_rest (zip_first l.a-iterator)) (iter_rest (zip_second l.a-iterator))
