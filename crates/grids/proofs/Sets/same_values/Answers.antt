-- By the rows of the two slots.
use mathlib.Core.Path.{sym}
use Rattle.grids.proofs.Laws.{row-slot}
use Rattle.grids.proofs.Sets.same_values.Goals as goal

pub same_grids-requires : goal.same_grids-requires
same_grids-requires c = let a = c.args in
    let p = c.requires in
    rw (row-slot a.self.rows.now a.s, row-slot a.self.rows.now a.t) (p.fits.0, p.fits.1, p.alike)

pub returns : goal.returns
returns c = let a = c.args in rw (sym (row-slot a.self.rows.now a.s), sym (row-slot a.self.rows.now a.t)) c.same_grids.ensures
