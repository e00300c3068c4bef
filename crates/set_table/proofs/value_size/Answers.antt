-- `set_table::value_size` meets its contract. Assumes nothing.
use Rattle.set_table.proofs.Marks.{size-three, size-plain}
use Rattle.set_table.proofs.value_size.Goals as goal

pub returns-then-n-eq3 : goal.returns-then-n-eq3
returns-then-n-eq3 c = size-three _ c.if-n-eq3.true

pub returns : goal.returns
returns c = size-plain _ c.if-n-eq3.false
