-- Beyond the mask, or the bit of its byte.
use native.Mathlib.Omega.{arith}
use Rattle.masks.proofs.Laws.{part-beyond, part-bit}
use Rattle.masks.proofs.bit_at.Goals as goal

pub returns-then-len-i : goal.returns-then-len-i
returns-then-len-i c = part-beyond _ _ _ _ c.requires (omega arith)

pub returns : goal.returns
returns c = part-bit _ _ _ _ c.requires (omega arith)
