-- A turn takes the attribute that the iterator gives.
use Rattle.frames.specs.Left.{whole_left}
use Rattle.isis_index.specs.Index.{TookFor, heard}
use Rattle.isis_index.proofs.Lists.{AtPlace}
use Rattle.isis_index.proofs.named_list.Given as goal

abbrev pub invariant-loop-at : goal.invariant-loop-at
invariant-loop-at l = AtPlace l.a l.from l.end (whole_left l.at-iterator) (TookFor l.a l.own l.initial.sets l.initial.have l.sets l.have (heard l.who))
