-- `srlg_sources::join_row` meets its contract: the first i words are joined. Assumes nothing.
use Prim.Native.Nat.{◌≤◌}
use Rattle.srlg_sources.proofs.Joins.{Joined}
use Rattle.srlg_sources.proofs.join_row.Given as goal

abbrev pub invariant-loop-i : goal.invariant-loop-i
invariant-loop-i l = (l.i ≤ l.words) × Joined l.initial.x l.row l.x l.i
