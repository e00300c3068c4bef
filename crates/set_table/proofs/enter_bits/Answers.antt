use Rattle.set_table.proofs.Bits.{filling-end, filling-room, filling-next}
use Rattle.set_table.proofs.enter_bits.Goals as goal

pub enter-requires : goal.enter-requires
enter-requires c = let p = c.requires.3 in filling-room c.loop-t.invariant c.requires.1 p.0 p.1 p.2 p.3 p.4 c.in-Some.ensures.steps _ c.from-s.ensures

pub loop-t-preserved : goal.loop-t-preserved
loop-t-preserved c = let p = c.requires.3 in filling-next c.loop-t.invariant c.requires.1 p.0 p.1 p.2 p.3 p.4 c.in-Some.ensures.steps _ c.from-s.ensures _ c.enter.ensures

pub returns : goal.returns
returns c = let l = c.loop-t in (filling-end l.invariant c.in-None.ensures.steps.0, l.invariant.tables)
