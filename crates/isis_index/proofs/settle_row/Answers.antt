-- `isis_index::settle_row` meets its contract: 1089, and where RSVP-TE has no L the other two. Assumes nothing.
use Rattle.isis_index.proofs.Settling.{settled-l, settled_plain}
use Rattle.isis_index.proofs.settle_row.Goals as goal

pub returns-then-l : goal.returns-then-l
returns-then-l c = let a = c.args in settled-l a.row.now _ c.first_of.ensures a.l c.if-l.true

pub returns : goal.returns
returns c = let a = c.args in
    settled_plain a.row.now _ c.first_of.ensures a.l c.if-l.false _ _ c.first_of-2.ensures c.first_of-3.ensures
