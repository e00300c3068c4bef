-- The rows passed are the same, and those left decide.
use Prim.Native.Nat.{◌≤◌}
use mathlib.Core.Path.{◌≡◌}
use mathlib.Core.List.{map}
use Rattle.linkstate.specs.Lists.{same_rows}
use Rattle.kinds.specs.Rules.{grid_codes}
use Rattle.grids.specs.Grids.{grid_value}
use Rattle.grids.proofs.Laws.{From}
use Rattle.grids.proofs.same_grids.Given as goal

abbrev pub invariant-loop-k : goal.invariant-loop-k
invariant-loop-k g l = let x = g.G.Grid.rows l.g in
    let y = g.H.Grid.rows l.h in
    (l.k ≤ 10) × (From l.run x y l.k ≡ same_rows (map (grid_value l.run x) grid_codes) (map (grid_value l.run y) grid_codes))
