use Prim.Native.Nat.{ℕ}
use Rattle.linkstate.specs.Elements.{elements}
use Rattle.linkstate.specs.Replies.{run_a}
use Rattle.frames.specs.Left.{elements_left}
use Rattle.frames.specs.Uncut.{left}
use mathlib.Core.Path.{◌≡◌}
use Rattle.isis.specs.RunA.{check_a, asla_advertisements}
use Rattle.isis_check_a.proofs.Naming.{Walked}
use Rattle.isis_check_a.proofs.Legacy.{Met}
use Rattle.isis_check_a.proofs.check_a.Given as goal

abbrev pub invariant-loop-e : goal.invariant-loop-e
invariant-loop-e l =
    let all = elements 1 0 l.a in
    ((at : ℕ) × (elements_left l.e-iterator ≡ left 1 0 l.a at)) × Walked run_a check_a asla_advertisements all (elements_left l.e-iterator) l.names
    × Met all (elements_left l.e-iterator) l.legacy
