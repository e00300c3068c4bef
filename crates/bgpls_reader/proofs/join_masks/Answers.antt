-- The masks by the header.
use native.Mathlib.Omega.{arith}
use Rattle.bgpls_find.proofs.Laws.{header-size}
use Rattle.bgpls_reader.proofs.NamedLaws.{standard-small, user-small, masks-read}
use Rattle.bgpls_reader.proofs.join_masks.Goals as goal

pub with_masks-requires : goal.with_masks-requires
with_masks-requires c = let v = c.args.v.now in
    let h = c.read_asla_header-h.ensures in
    let a = standard-small v c.requires.1 in
    let b = user-small v c.requires.1 in
    (omega (arith, h.0), omega (arith, h.1), omega (arith, header-size _ _ _ h.0 h.1, c.requires.2), omega (arith, c.requires.3))

pub returns : goal.returns
returns c = let h = c.read_asla_header-h.ensures in masks-read _ _ _ _ _ h.0 h.1 c.with_masks.ensures
