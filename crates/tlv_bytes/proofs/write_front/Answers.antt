-- The head, then the masks.
use mathlib.Core.Path.{refl}
use native.Mathlib.Omega.{arith}
use Rattle.tlv_bytes.proofs.AslaLaws.{size_is, front-written}
use Rattle.tlv_bytes.proofs.write_front.Goals as goal

pub write_asla_head-requires : goal.write_asla_head-requires
write_asla_head-requires c = let a = c.args in
    let m = c.mask_size-s.ensures in
    let n = c.mask_size-u.ensures in
    (m.1, n.1, omega (arith, m.1, n.1, c.requires.0), omega (arith, c.requires.1, size_is a.m))

pub write_masks-requires : goal.write_masks-requires
write_masks-requires c = let a = c.args in
    omega (arith, c.requires.1, size_is a.m, c.write_asla_head.auto.out)

pub returns : goal.returns
returns c = let a = c.args in
    let h = c.write_asla_head in
    front-written a.m a.size a.out.now a.at c.requires.1 _ _ _ c.mask_size-s.ensures.0 c.mask_size-u.ensures.0 refl _ h.ensures h.auto.out c.write_masks.ensures
