use mathlib.Core.Path.{refl}
use native.Mathlib.Omega.{arith}
use Rattle.set_table.proofs.Assigns.{assigning-end, assigning-as, room-left, turned-low}
use Rattle.set_table.proofs.assign_bits.Goals as goal

pub overflow_cast-own : goal.overflow_cast-own
overflow_cast-own c = let i = c.loop-t.invariant in omega (arith, room-left i c.in-Some.ensures.steps c.requires.2, i.is.same, c.requires.3)

pub bounds-own-base : goal.bounds-own-base
bounds-own-base c = let b = c.in-Some.ensures.steps.inside in omega (arith, c.turned_place-p.ensures.0, turned-low _ b, c.requires.0)

pub bounds-sets-k : goal.bounds-sets-k
bounds-sets-k c = room-left c.loop-t.invariant c.in-Some.ensures.steps c.requires.2

pub loop-t-preserved : goal.loop-t-preserved
loop-t-preserved c = assigning-as c.loop-t.invariant c.in-Some.ensures.steps c.turned_place-p.result c.turned_place-p.ensures.0 c.requires.0 c.requires.2 _ refl

pub returns : goal.returns
returns c = assigning-end c.loop-t.invariant c.in-None.ensures.steps.0
