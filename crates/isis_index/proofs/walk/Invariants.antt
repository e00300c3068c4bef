-- A turn takes the element that the iterator gives.
use Rattle.frames.specs.Left.{whole_left}
use Rattle.isis_index.proofs.Walking.{AtPlace}
use Rattle.isis_index.proofs.walk.Given as goal

abbrev pub invariant-loop-e : goal.invariant-loop-e
invariant-loop-e l = AtPlace l.a l.own l.initial.sets l.sets l.have (whole_left l.e-iterator)
