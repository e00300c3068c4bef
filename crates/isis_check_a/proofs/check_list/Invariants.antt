use Rattle.frames.specs.Left.{elements_left}
use Rattle.isis_check_a.proofs.Laws.{Listed}
use Rattle.isis_check_a.proofs.check_list.Given as goal

abbrev pub invariant-loop-e : goal.invariant-loop-e
invariant-loop-e l = Listed l.s l.from l.seen (elements_left l.e-iterator)
