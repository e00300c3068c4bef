-- `srlg_table::with_class` meets its contract. Assumes nothing.
use native.Mathlib.Numerals.{add-one}
use borrow.Author.Tests.{eq-eqb, ne_eqb}
use Rattle.srlg_table.specs.Tables.{with_class}
use Rattle.srlg_table.proofs.with_class.Goals as goal

pub returns-then-c-count : goal.returns-then-c-count
unfolding with_class
returns-then-c-count c = rw (eq-eqb _ _ c.if-c-count.true) (add-one c.args.count)

pub returns : goal.returns
unfolding with_class
returns c = rw (ne_eqb _ _ c.if-c-count.false)
