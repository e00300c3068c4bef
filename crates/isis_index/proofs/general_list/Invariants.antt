-- A turn takes the attribute that the iterator gives.
use Rattle.frames.specs.Left.{whole_left}
use Rattle.isis_index.specs.Index.{Took, heard_by_all}
use Rattle.isis_index.proofs.Lists.{AtPlace}
use Rattle.isis_index.proofs.general_list.Given as goal

abbrev pub invariant-loop-at : goal.invariant-loop-at
invariant-loop-at l = AtPlace l.a l.from l.end (whole_left l.at-iterator) (Took l.a l.initial.sets l.sets heard_by_all)
