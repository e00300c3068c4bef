-- What is left decides, and the types that stood are remembered.
use Rattle.frames.specs.Left.{elements_left}
use Rattle.bgpls_check.proofs.Laws.{Listed}
use Rattle.bgpls_check.proofs.check_inner.Given as goal

abbrev pub invariant-loop-e : goal.invariant-loop-e
invariant-loop-e l = Listed l.base l.s l.seen (elements_left l.e-iterator)
