-- The cell of the kind.
use mathlib.Core.Path.{sym, ◌∙◌, ap}
use Rattle.grids.specs.Grids.{row_read}
use Rattle.grids.proofs.Laws.{row_at}
use Rattle.grids.proofs.ArrayU3212Grid.value.Goals as goal

pub returns : goal.returns
returns c = c.value_in.ensures.value ∙ sym (ap row_read (row_at c.args.self.now c.args.k c.requires))
