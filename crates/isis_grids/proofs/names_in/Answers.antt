-- The bit in the mask that has it.
use native.Mathlib.Omega.{arith}
use Rattle.isis_grids.proofs.Taken.{masks-fit, named-standard, named-user, named-retired}
use Rattle.isis_grids.proofs.names_in.Goals as goal

pub bit_at-requires : goal.bit_at-requires
bit_at-requires c = omega (arith, (masks-fit _ c.requires).2)

pub returns-then-n-lt64 : goal.returns-then-n-lt64
returns-then-n-lt64 c = named-standard _ c.requires _ c.if-n-lt64.true _ (rw c.from-standard.ensures at c.bit_at.ensures)

pub returns-then-n-ge96 : goal.returns-then-n-ge96
returns-then-n-ge96 c = named-retired _ c.requires _ (omega arith)

pub bit_at-requires-2 : goal.bit_at-requires-2
bit_at-requires-2 c = omega (arith, (masks-fit _ c.requires).2)

pub returns : goal.returns
returns c = named-user _ c.requires _ (omega arith) (omega arith) _ (rw (c.from-standard.ensures, c.from-user.ensures) at c.bit_at-2.ensures)
