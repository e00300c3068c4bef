use Rattle.srlg_classes.specs.Owned.{slot_at}
use Rattle.srlg_classes.proofs.Gives.{giving-next, giving-end}
use Rattle.srlg_classes.proofs.give.Goals as goal

pub loop-t-preserved : goal.loop-t-preserved
unfolding slot_at
loop-t-preserved c = giving-next _ _ _ _ _ _ _ _ c.requires.0 c.in-Some.ensures.steps c.loop-t.invariant

pub returns : goal.returns
returns c = giving-end _ _ _ _ _ _ c.in-None.ensures.steps.0 c.loop-t.invariant
