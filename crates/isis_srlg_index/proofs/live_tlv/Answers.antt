-- `isis_srlg_index::live_tlv` meets its contract. Assumes nothing.
use Prim.Native.Nat.{◌+◌}
use mathlib.Core.Path.{ap}
use native.Mathlib.Omega.{arith}
use Rattle.isis_check_a.specs.declared.Header.{Header}
use Rattle.isis_check.proofs.SrlgLaws.{length-byte}
use Rattle.isis_srlg_index.proofs.Said.{header-sizes, general-header, sent-names}
use Rattle.isis_srlg_index.proofs.live_tlv.Goals as goal

pub with_masks-who-requires : goal.with_masks-who-requires
with_masks-who-requires c =
    let (a, b, e) = header-sizes c.args.v.now c.args.h c.requires.header c.requires.masks in
    (a, b, omega (arith, c.requires.inside), omega (arith, c.requires.size))

pub overflow_add-length_byte : goal.overflow_add-length_byte
overflow_add-length_byte c = let (a, b, e) = header-sizes c.args.v.now c.args.h c.requires.header c.requires.masks in omega arith

pub overflow_add-length_byte-2 : goal.overflow_add-length_byte-2
overflow_add-length_byte-2 c = let (a, b, e) = header-sizes c.args.v.now c.args.h c.requires.header c.requires.masks in omega arith

pub bounds-v-length_byte : goal.bounds-v-length_byte
bounds-v-length_byte c = let (a, b, e) = header-sizes c.args.v.now c.args.h c.requires.header c.requires.masks in omega (arith, c.requires.inside)

pub overflow_add-result : goal.overflow_add-result
overflow_add-result c = let (a, b, e) = header-sizes c.args.v.now c.args.h c.requires.header c.requires.masks in omega arith

pub overflow_add-result-2 : goal.overflow_add-result-2
overflow_add-result-2 c = let (a, b, e) = header-sizes c.args.v.now c.args.h c.requires.header c.requires.masks in omega arith

pub overflow_add-result-3 : goal.overflow_add-result-3
overflow_add-result-3 c = let (a, b, e) = header-sizes c.args.v.now c.args.h c.requires.header c.requires.masks in
    omega (arith, c.type_inv.v (2 + c.args.h.standard + c.args.h.user))

pub returns : goal.returns
returns c = let v = c.args.v.now in
    let h = c.args.h in
    let (a, b, e) = header-sizes c.args.v.now c.args.h c.requires.header c.requires.masks in
    record {
      named =
          sent-names v (omega (arith, c.requires.inside)) _ _ h.standard h.user c.nobody.ensures c.with_masks-who.ensures
          (ap (λ (x : Header). x.standard) c.requires.header) (ap (λ (x : Header). x.user) c.requires.header);
      general = general-header v h c.requires.header;
      start = omega (arith, length-byte v (2 + h.standard + h.user) e);
    }
