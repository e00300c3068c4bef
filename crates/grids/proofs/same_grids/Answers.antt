use mathlib.Core.Path.{sym, ◌∙◌}
use native.Mathlib.Omega.{arith}
use Rattle.grids.proofs.Laws.{grids-end, grids-next, grids-differ}
use Rattle.grids.proofs.same_grids.Goals as goal

pub returns-then-not-same_value : goal.returns-then-not-same_value
returns-then-not-same_value g c = sym (grids-differ _ _ _ _ (omega arith) _ c.same_value.ensures c.if-not-same_value.true) ∙ c.loop-k.invariant.1

pub loop-k-preserved : goal.loop-k-preserved
loop-k-preserved g c = (omega arith, sym (grids-next _ _ _ _ (omega arith) _ c.same_value.ensures c.if-not-same_value.false) ∙ c.loop-k.invariant.1)

pub returns : goal.returns
returns g c = grids-end _ _ _ _ (omega arith) ∙ c.loop-k.invariant.1
