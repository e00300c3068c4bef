-- `isis_srlg_index::read_tlv` meets its contract: another type, with L, or not live, and it has no number. Assumes nothing.
use Prim.Native.Nat.{ℕ, ◌≤◌}
use mathlib.Core.Path.{◌≡◌, refl, sym, ◌∙◌}
use mathlib.Core.Bool.{false}
use mathlib.Core.List.{List}
use lib.ListN.{length}
use native.Mathlib.Omega.{arith}
use Rattle.isis.specs.RunB.{after_neighbour}
use Rattle.isis_check_a.specs.declared.Header.{Header}
use Rattle.isis_check_a.specs.Headers.{header_of, too_long as masks_long}
use Rattle.isis_check_a.proofs.Laws.{header-l, header-too-long}
use Rattle.isis_check.proofs.SrlgLaws.{behind}
use Rattle.isis_tlvs_238.specs.Selected.{Listed}
use Rattle.isis_tlvs_238.proofs.Tlvs.{whole as tlv-whole, other-words, after_is, behind-listed}
use Rattle.isis_srlg_index.proofs.Identified.{behind-long, behind-few, too_long}
use Rattle.isis_srlg_index.specs.Sources.{Passed, Readable}
use Rattle.isis_srlg_index.proofs.Said.{dead-words, unread-words, says-live}
use Rattle.isis_srlg_index.proofs.read_tlv.Goals as goal

-- a 238 that passed its checks, and where it is live its masks and identifiers lie within it
whole : (t : ℕ) (value : List ℕ) → Passed t value → t ≡ 238 → (9 ≤ length value) × Listed (after_neighbour value)
whole t value (at, ok) e = tlv-whole at _ _ ok e

-- its header, where its masks can be read
readable : (t : ℕ) (value : List ℕ) → Passed t value → t ≡ 238 → length value ≤ 2048 → (h : Header) → h ≡ header_of (behind value)
    → masks_long h ≡ false → Readable (behind value) h
readable t value p e few h is short =
    let m = sym (header-too-long _ _ is) ∙ short in
    record { header = is; masks = m; inside = (behind-listed _ (whole t value p e)).listed m; size = omega (arith, few, behind-few value) }

pub returns-then-t-ne238 : goal.returns-then-t-ne238
returns-then-t-ne238 c = λ at. other-words at _ _ (λ e. omega arith)

pub slice_bounds-v-count : goal.slice_bounds-v-count
slice_bounds-v-count c = omega (arith, (whole _ _ c.requires.0 c.if-t-ne238.false).0)

pub slice_bounds-v-start : goal.slice_bounds-v-start
slice_bounds-v-start c = omega (arith, (whole _ _ c.requires.0 c.if-t-ne238.false).0)

pub read_header-h-requires : goal.read_header-h-requires
read_header-h-requires c = (behind-listed _ (whole _ _ c.requires.0 c.if-t-ne238.false)).fixed

pub returns-then-unread : goal.returns-then-unread
returns-then-unread c =
    let nine = (whole _ _ c.requires.0 c.if-t-ne238.false).0 in
    λ at. unread-words at _ _ _ (omega arith) (after_is _ nine) (sym (header-l _ _ c.read_header-h.ensures.0) ∙ c.if-unread.true)

pub returns-then-mask_too_long : goal.returns-then-mask_too_long
returns-then-mask_too_long c =
    let nine = (whole _ _ c.requires.0 c.if-t-ne238.false).0 in
    let m = sym (header-too-long _ _ c.read_header-h.ensures.0) ∙ sym c.mask_too_long.ensures ∙ c.if-mask_too_long.true in
    λ at. dead-words at _ _ _ false (omega arith) (after_is _ nine) (too_long at _ m) refl

pub tells_link-requires : goal.tells_link-requires
tells_link-requires c =
    let h = c.read_header-h.ensures.0 in (
      readable _ _ c.requires.0 c.if-t-ne238.false c.requires.1 _ h (sym c.mask_too_long.ensures ∙ c.if-mask_too_long.false),
      sym (header-l _ _ h) ∙ c.if-unread.false,
    )

pub returns-then-not-tells_link : goal.returns-then-not-tells_link
returns-then-not-tells_link c =
    let nine = (whole _ _ c.requires.0 c.if-t-ne238.false).0 in
    λ at. dead-words at _ _ _ _ (omega arith) (after_is _ nine) (c.tells_link.ensures at) c.if-not-tells_link.true

pub live_tlv-requires : goal.live_tlv-requires
live_tlv-requires c =
    let h = c.read_header-h.ensures.0 in
    readable _ _ c.requires.0 c.if-t-ne238.false c.requires.1 _ h (sym c.mask_too_long.ensures ∙ c.if-mask_too_long.false)

pub returns : goal.returns
returns c =
    let h = c.read_header-h.ensures.0 in
    let r = readable _ _ c.requires.0 c.if-t-ne238.false c.requires.1 _ h (sym c.mask_too_long.ensures ∙ c.if-mask_too_long.false) in
    let nine = (whole _ _ c.requires.0 c.if-t-ne238.false).0 in
    let told = c.tells_link.ensures in
    let live = c.if-not-tells_link.false in
    let (o, ok) = c.requires.0 in
    let long = behind-long o _ _ ok (omega arith) nine (sym (told o) ∙ live) in
    λ at.
    says-live at _ _ _ (omega arith) (after_is _ nine) _ (told at) live (sym (header-l _ _ h) ∙ c.if-unread.false) _ r.inside long (omega arith)
    c.live_tlv.ensures
