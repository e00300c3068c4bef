use mathlib.Core.Path.{◌≡◌}
use Prim.Native.Nat.{◌+◌}
use Rattle.linkstate.specs.Elements.{elements}
use Rattle.frames.specs.Left.{elements_left}
use Rattle.isis_check.specs.Identifiers.{tally_of}
use Rattle.isis_check.proofs.tally_identifiers.Given as goal

abbrev pub invariant-loop-e : goal.invariant-loop-e
invariant-loop-e l = l.tally + tally_of (elements_left l.e-iterator) ≡ tally_of (elements 1 0 l.s)
