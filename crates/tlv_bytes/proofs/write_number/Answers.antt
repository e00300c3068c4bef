-- The head, then the number.
use mathlib.Core.Path.{sym}
use native.Mathlib.Omega.{arith}
use Rattle.octets.proofs.Laws.{length-four}
use Rattle.tlv_bytes.proofs.Laws.{length-number, tlv-written}
use Rattle.tlv_bytes.proofs.write_number.Goals as goal

pub write_head-requires : goal.write_head-requires
write_head-requires c = let a = c.args in omega (arith, length-number a.code a.x)

pub write32-requires : goal.write32-requires
write32-requires c = let a = c.args in omega (arith, length-number a.code a.x, c.write_head.auto.out)

pub returns : goal.returns
returns c = tlv-written _ _ _ _ _ _ _ c.write_head.ensures c.write32.ensures (sym (length-four c.args.x)) c.requires _ (omega arith)
