-- `isis_index::first_of` meets its contract. Assumes nothing.
use mathlib.Core.Path.{sym}
use Rattle.set_table.proofs.Tables.{first-free, first_taken}
use Rattle.isis_index.proofs.first_of.Goals as goal

pub returns-then-x-eq0 : goal.returns-then-x-eq0
returns-then-x-eq0 c = let a = c.args in sym (first-free a.x a.y 0 c.if-x-eq0.true)

pub returns : goal.returns
returns c = let a = c.args in sym (first_taken a.x a.y 0 c.if-x-eq0.false)
