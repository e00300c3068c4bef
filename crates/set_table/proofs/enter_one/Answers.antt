-- A free cell takes the value.
use Rattle.set_table.specs.Tables.{cell_of}
use Rattle.set_table.proofs.Tables.{kept-given, entered-room, entered-is}
use Rattle.set_table.proofs.enter_one.Goals as goal

pub enter-requires : goal.enter-requires
enter-requires c = let a = c.args in
    (c.requires.1.inside, c.requires.2, entered-room a.run.now a.sets.now c.requires.0 a.s a.k a.place a.n 0 _ c.requires.1 c.requires.2 c.requires.3 c.if-sets-s-eq0.true c.filing_of-e.ensures.size)

pub returns-then-sets-s-eq0 : goal.returns-then-sets-s-eq0
returns-then-sets-s-eq0 c = let a = c.args in
    let e = c.filing_of-e.ensures in
    entered-is a.run.now a.sets.now c.requires.0 a.s a.k a.place a.n _ _ c.requires.1 c.requires.2 c.requires.3 c.if-sets-s-eq0.true _ e.cell e.mark e.size _ c.enter.ensures

pub returns-else-sets-s-eq0 : goal.returns-else-sets-s-eq0
returns-else-sets-s-eq0 c = let a = c.args in (c.requires.0, kept-given a.sets.now a.s a.k (cell_of a.place a.n) c.if-sets-s-eq0.false)
