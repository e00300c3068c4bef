use Rattle.set_table.proofs.Owns.{giving-next, gave-none}
use Rattle.set_table.proofs.give_slot.Goals as goal

pub loop-t-preserved : goal.loop-t-preserved
loop-t-preserved c = giving-next c.loop-t.invariant c.requires.0 c.in-Some.ensures.steps

pub returns : goal.returns
returns c = let l = c.loop-t in l.invariant.gives l.own (gave-none c.args.base _ _ l.invariant.owned c.in-None.ensures.steps.0)
