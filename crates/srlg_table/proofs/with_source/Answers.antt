-- `srlg_table::with_source` meets its contract: source i is in the low or in the high word. Assumes nothing.
use native.Mathlib.Omega.{arith}
use Rattle.srlg_table.proofs.Splits.{part_low, part-high}
use Rattle.srlg_table.proofs.with_source.Goals as goal

pub returns-then-i-lt64 : goal.returns-then-i-lt64
returns-then-i-lt64 c = let a = c.args in part_low a.b.now a.x a.y a.i (omega arith)

pub returns : goal.returns
returns c = let a = c.args in part-high a.b.now a.x a.y a.i (omega arith) (omega arith)
