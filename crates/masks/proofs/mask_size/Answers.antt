-- From the last bit.
use native.Mathlib.Omega.{arith}
use Rattle.masks.proofs.Steps.{size_none, size_low, size-high}
use Rattle.masks.proofs.mask_size.Goals as goal

pub returns-then-n-lt32 : goal.returns-then-n-lt32
returns-then-n-lt32 c = (size_low _ _ c.last_bit.ensures _ c.in-Some.is (omega arith), omega arith)

pub returns-in-None : goal.returns-in-None
returns-in-None c = (size_none _ _ c.last_bit.ensures c.in-None.is, omega arith)

pub returns-else-n-lt32 : goal.returns-else-n-lt32
returns-else-n-lt32 c = (size-high _ _ c.last_bit.ensures _ c.in-Some.is (omega arith), omega arith)
