-- `masks::mask_number` meets its contract.
-- Assumes nothing.
use native.Mathlib.Omega.{arith}
use Rattle.masks.proofs.Steps.{read-mask}
use Rattle.masks.proofs.mask_number.Goals as goal

pub returns : goal.returns
returns c = read-mask _ _ _ (λ i. omega (arith, c.type_inv.s i)) (omega arith) c.little_endian.ensures c.turned.ensures
