-- The bits of one mask, then those of the other.
use native.Mathlib.Omega.{arith}
use borrow.Author.Tests.{leb-true}
use Rattle.set_table.proofs.Assigns.{many-pair}
use Rattle.export_tables.proofs.Counts.{many-ones}
use Rattle.export_tables.proofs.at_most.Goals as goal

pub returns : goal.returns
returns c e =
    let w = c.args.who in
    omega (arith, leb-true _ _ e, many-ones 64 w.standard (omega arith), many-ones 64 w.user (omega arith), many-pair w)
