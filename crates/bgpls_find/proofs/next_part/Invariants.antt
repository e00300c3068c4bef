-- No 1122 that was passed is the set's.
use Rattle.bgpls_find.proofs.Turns.{AtPlace}
use Rattle.frames.specs.Left.{whole_left}
use Rattle.bgpls_find.proofs.next_part.Given as goal

abbrev pub invariant-loop-at : goal.invariant-loop-at
invariant-loop-at l = AtPlace l.set l.r l.from (whole_left l.at-iterator)
