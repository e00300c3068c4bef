-- `srlg_table::new_class` meets its contract: no bit is set, or the stores are made. Assumes nothing.
use mathlib.Core.Path.{refl}
use Rattle.srlg_table.specs.Tables.{another}
use Rattle.srlg_table.proofs.new_class.Goals as goal

pub returns : goal.returns
returns c = rw c.from.ensures (another c.count_of-n.result c.count_of-n.ensures c.if-n-eq0.false refl refl refl refl)
