use mathlib.Core.Path.{◌≡◌}
use Prim.Native.Nat.{ℕ}
use Rattle.linkstate.specs.Elements.{elements}
use Rattle.linkstate.specs.Replies.{run_b}
use Rattle.frames.specs.Left.{elements_left}
use Rattle.frames.specs.Uncut.{left}
use Rattle.isis.specs.RunB.{check_b, srlg_advertisements}
use Rattle.isis_check_a.proofs.Naming.{Walked}
use Rattle.isis_check.proofs.check_b.Given as goal

abbrev pub invariant-loop-e : goal.invariant-loop-e
invariant-loop-e l =
    ((at : ℕ) × (elements_left l.e-iterator ≡ left 1 0 l.b at)) × Walked run_b check_b srlg_advertisements (elements 1 0 l.b) (elements_left l.e-iterator) l.names
