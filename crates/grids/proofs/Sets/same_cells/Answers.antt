-- Slots with the same cells have the same grid.
use Rattle.grids.proofs.Laws.{cells-grid}
use Rattle.grids.proofs.Sets.same_cells.Goals as goal

pub returns : goal.returns
returns c = λ e. cells-grid _ _ _ (c.same_ten.ensures e)
