-- The value of the row that the classifier tells.
use mathlib.Core.List.{[]}
use lib.ListN.{get_or}
use native.Mathlib.Omega.{arith}
use Rattle.tlv_bytes.proofs.Laws.{same-room, same_write}
use Rattle.grids.specs.Grids.{grid_value}
use Rattle.grids.proofs.Laws.{ten}
use Rattle.set_bytes.proofs.Laws.{of-grid, not-grid, grid-kind, kind-tlv}
use Rattle.set_bytes.proofs.write_kind.Goals as goal

pub returns-in_default : goal.returns-in_default
returns-in_default g c = absurd (not-grid _ c.args.c c.classify_code-rule.ensures c.in_default.not-Application c.requires.1)

pub write_cell-requires : goal.write_cell-requires
write_cell-requires g c = let a = c.args in
    let rows = g.G.Grid.rows a.g.now in
    let q = of-grid _ a.c c.classify_code-rule.ensures _ c.in-Application.is c.requires.1 in
    let is = grid-kind a.run.now rows a.c _ q.below q.at in (
      omega (arith, q.below, ten),
      c.requires.0 c.in-Application.k,
      same-room (kind-tlv a.run.now (get_or rows c.in-Application.k []) _ (grid_value a.run.now rows) a.c is q.code) a.out.now a.at c.requires.2,
    )

pub returns : goal.returns
returns g c = let a = c.args in
    let rows = g.G.Grid.rows a.g.now in
    let q = of-grid _ a.c c.classify_code-rule.ensures _ c.in-Application.is c.requires.1 in
    let is = grid-kind a.run.now rows a.c _ q.below q.at in
    same_write (kind-tlv a.run.now (get_or rows c.in-Application.k []) _ (grid_value a.run.now rows) a.c is q.code) a.out.now a.at c.write_cell.ensures
