-- `srlg_table::fold` meets its contract. Assumes nothing.
use mathlib.Core.Path.{refl}
use Rattle.srlg_table.specs.Marks.{folded}
use Rattle.srlg_table.proofs.fold.Goals as goal

pub returns : goal.returns
unfolding folded
returns c = refl
