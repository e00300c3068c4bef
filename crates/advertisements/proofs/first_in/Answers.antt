-- What is left finds what the whole does.
use mathlib.Core.Path.{sym, ◌∙◌}
use Rattle.frames.proofs.Walks.{gave-whole, gave-cut, cut-last}
use Rattle.advertisements.proofs.Tests.{such-cut}
use Rattle.advertisements.proofs.Walks.{found-none, found_here, found-later, found-cut}
use Rattle.advertisements.proofs.first_in.Goals as goal

pub returns-in_default : goal.returns-in_default
returns-in_default g c =
    let e = gave-cut c.in_default.field-0 c.in_default.is c.in-Some.ensures.steps in
    found-cut _ _ c.loop-e.invariant e (cut-last g.W.Width.BYTES g.met.W.Width.some _ _ _ e) (such-cut c.args.run c.args.test c.args.kind _)

pub returns-then-is_such : goal.returns-then-is_such
returns-then-is_such g c =
    found_here _ _ c.loop-e.invariant (gave-whole c.in-Ok.e c.in-Ok.is c.in-Some.ensures.steps) (sym c.is_such.ensures ∙ c.if-is_such.true)

pub loop-e-preserved : goal.loop-e-preserved
loop-e-preserved g c =
    found-later _ _ c.loop-e.invariant (gave-whole c.in-Ok.e c.in-Ok.is c.in-Some.ensures.steps) (sym c.is_such.ensures ∙ c.if-is_such.false)

pub returns : goal.returns
returns g c = found-none _ _ c.loop-e.invariant c.in-None.ensures.steps.0
