-- `isis_index::settle` meets its contract. Assumes nothing.
use mathlib.Core.Path.{ap}
use lib.ListN.{set}
use Rattle.isis_index.proofs.settle.Goals as goal

pub returns : goal.returns
returns c = ap (set c.args.sets.now 2) c.settle_row.ensures
