-- What is left finds what the whole does.
use mathlib.Core.Path.{◌≡◌}
use Rattle.linkstate.specs.Elements.{elements}
use Rattle.frames.specs.Left.{elements_left}
use Rattle.advertisements.specs.Tests.{such_in}
use Rattle.advertisements.specs.Walks.{first_with}
use Rattle.advertisements.proofs.first_in.Given as goal

abbrev pub invariant-loop-e : goal.invariant-loop-e
invariant-loop-e g l =
    first_with l.run (such_in l.run l.test l.kind) (elements_left l.e-iterator)
    ≡ first_with l.run (such_in l.run l.test l.kind) (elements g.W.Width.BYTES 0 l.s)
