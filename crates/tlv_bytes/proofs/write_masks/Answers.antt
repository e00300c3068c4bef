-- One mask, then the other.
use native.Mathlib.Omega.{arith}
use Rattle.linkstate.specs.Masks.{mask}
use Rattle.masks.specs.Sets.{in_sent}
use Rattle.tlv_bytes.proofs.Laws.{behind-write}
use Rattle.tlv_bytes.proofs.AslaLaws.{mask-wrote, length-masks}
use Rattle.tlv_bytes.proofs.write_masks.Goals as goal

pub returns : goal.returns
returns c = let a = c.args in
    let one = c.write_mask-next in
    behind-write a.out.now a.at (mask (in_sent a.m.standard)) (mask (in_sent a.m.user)) (omega (arith, length-masks a.m, c.requires)) one.auto.out (mask-wrote a.m.standard a.out.now a.at one.ensures) (mask-wrote a.m.user _ _ c.write_mask.ensures)
