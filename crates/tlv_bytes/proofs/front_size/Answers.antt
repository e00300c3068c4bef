-- `tlv_bytes::front_size` meets its contract. Assumes nothing.
use native.Mathlib.Omega.{arith}
use Rattle.tlv_bytes.proofs.AslaLaws.{size_is}
use Rattle.tlv_bytes.proofs.front_size.Goals as goal

pub returns : goal.returns
returns c = let a = c.args in let e = size_is a.m in (omega (arith, c.mask_size.ensures.0, c.mask_size-2.ensures.0), omega (arith, c.mask_size.ensures.1, c.mask_size-2.ensures.1))
