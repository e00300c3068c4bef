use mathlib.Core.Path.{◌≡◌}
use Prim.Native.Nat.{◌+◌}
use Rattle.linkstate.specs.Elements.{faults}
use Rattle.linkstate.specs.Replies.{run_b}
use Rattle.frames.specs.Left.{elements_left}
use Rattle.isis.specs.RunB.{check_identifier}
use Rattle.isis_check.specs.Identifiers.{tally_of, identifiers_in}
use Rattle.isis_check.proofs.read_identifiers.Given as goal

abbrev pub invariant-loop-e : goal.invariant-loop-e
invariant-loop-e l =
    let all = identifiers_in l.s l.from in
    (faults run_b check_identifier (elements_left l.e-iterator) ≡ faults run_b check_identifier all) × (l.tally + tally_of (elements_left l.e-iterator) ≡ tally_of all)
