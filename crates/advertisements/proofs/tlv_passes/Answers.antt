-- Another type, too short, ignored, no room for the masks, or what they and the list say.
use mathlib.Core.Path.{refl, sym, ◌∙◌}
use native.Mathlib.Omega.{arith}
use Rattle.advertisements.proofs.Tests.{tlv-other, tlv-short, tlv-past, tlv-ignored, tlv-is, mask-length-short, and-taken, and_left}
use Rattle.linkstate.specs.BgpLs.{is_mask_length}
use Rattle.linkstate.proofs.ListLaws.{and_l, and_r}
use Rattle.advertisements.proofs.tlv_passes.Goals as goal

pub returns-then-e-ne1122 : goal.returns-then-e-ne1122
returns-then-e-ne1122 c = tlv-other _ _ _ _ _ (λ e. omega arith)

pub returns-then-v-lt4 : goal.returns-then-v-lt4
returns-then-v-lt4 c = tlv-short _ _ _ _ _ c.if-v-lt4.true

pub returns-then-not-not_ignored : goal.returns-then-not-not_ignored
returns-then-not-not_ignored c = let h = c.read_asla_header-h in
    tlv-ignored _ _ _ _ _ _ _ h.ensures.0 h.ensures.1 _ c.not_ignored.ensures (c.if-not-not_ignored.true)

pub returns-then-v-end : goal.returns-then-v-end
returns-then-v-end c = let h = c.read_asla_header-h in tlv-past _ _ _ _ _ _ _ h.ensures.0 h.ensures.1 (omega arith)

pub passes-requires : goal.passes-requires
passes-requires c = let h = c.read_asla_header-h in
    let m = sym c.not_ignored.ensures ∙ c.if-not-not_ignored.false
    in
    let s = mask-length-short h.result.standard (and_l (is_mask_length h.result.standard) (is_mask_length h.result.user) m) in
    let u = mask-length-short h.result.user (and_r (is_mask_length h.result.standard) (is_mask_length h.result.user) m) in
    (omega arith, omega arith)

pub returns-then-passes : goal.returns-then-passes
returns-then-passes c = let h = c.read_asla_header-h in
    and-taken _ _ _ c.if-passes.true
    (tlv-is _ _ _ _ _ _ _ h.ensures.0 h.ensures.1 _ c.not_ignored.ensures (omega arith) (c.if-not-not_ignored.false)
    (omega arith) _ _ c.passes.ensures c.tlv_carries.ensures)

pub returns-else-passes : goal.returns-else-passes
returns-else-passes c = let h = c.read_asla_header-h in
    and_left _ _ _ c.if-passes.false
    (tlv-is _ _ _ _ _ _ _ h.ensures.0 h.ensures.1 _ c.not_ignored.ensures (omega arith) (c.if-not-not_ignored.false) (omega arith) _ _ c.passes.ensures refl)
