-- `isis_index::add_all_old` meets its contract, kind by kind. Assumes nothing.
use Rattle.isis_index.proofs.Settling.{Copying}
use Rattle.isis_index.proofs.add_all_old.Given as goal

abbrev pub invariant-loop-k : goal.invariant-loop-k
invariant-loop-k l = Copying l.a l.initial.sets l.sets l.s l.k
