-- Each way out is one reason to be ignored; else the tally says.
use mathlib.Core.Logic.{⊎_elim}
use mathlib.Core.Bool.{false}
use mathlib.Core.Path.{◌≡◌, sym, ap, ◌∙◌}
use Prim.Native.Nat.{ℕ, ◌+◌, ◌-◌, ◌≤◌, ◌<◌}
use native.Mathlib.Omega.{arith}
use lib.ListN.{length, take, drop, get_or}
use Rattle.isis.specs.RunB.{identifier_bytes}
use Rattle.isis.specs.MaskHeader.{mask_too_long, header_length}
use Rattle.std.specs.Prelude.{Ok}
use Rattle.replies.proofs.Laws.{none-else, err-else}
use Rattle.isis_check_a.proofs.Laws.{header-nobody, masks-say}
use Rattle.isis_check.proofs.SrlgLaws.{least-of, part-within, part-short, length-byte, live-short, live-too-long, live-nobody, live-says}
use Rattle.isis_check.proofs.live_srlg.Goals as goal
use Rattle.isis_check.proofs.live_srlg.Goals.{After-min-end, In-Some}

-- where the length byte of the identifier list stands
framed : (c : In-Some) → let v = c.args.v.now in
    (mask_too_long v ≡ false) × (c.in-Some.length_byte ≡ header_length v) × (c.in-Some.length_byte < length v)
framed c = let s = masks-say _ _ _ c.read_header-h.ensures.0 _ (sym c.masks_within.ensures ∙ c.in-Ok.is ∙ ap Ok c.in-Some.is) in (s.0, s.1, omega (arith, s.2))

-- the part that is walked: it lies in v, is the identifier list, and is short
within : (c : After-min-end) → let v = c.args.v.now in
    let list = c.in-Some.length_byte + 1 in
    let s = take (c.min-end.result - list) (drop list v) in
    (list ≤ c.min-end.result) × (s ≡ take (identifier_bytes v) (drop (header_length v + 1) v)) × (length s < 256)
within c = let v = c.args.v.now in
    let s = masks-say _ _ _ c.read_header-h.ensures.0 _ (sym c.masks_within.ensures ∙ c.in-Ok.is ∙ ap Ok c.in-Some.is) in
    let b = c.in-Some.length_byte in
    let n = get_or v b 0 in
    let small = c.type_inv.v b in
    let e = least-of c.min-end.result (b + 1 + n) (length v) (rw (← c.from.ensures) c.min-end.ensures) in (
      ⊎_elim (λ i. omega (arith, i, s.2)) (λ i. omega (arith, i, s.2)) e.2,
      part-within v (b + 1) n _ (omega (arith, s.2)) e.0 e.1 e.2
          ∙ ap (λ (m : ℕ). take m (drop (b + 1) v)) (length-byte v _ s.1)
          ∙ ap (λ (m : ℕ). take (identifier_bytes v) (drop (m + 1) v)) s.1,
      part-short v (b + 1) _ n e.0 e.1 (omega (arith, small)),
    )

pub returns-then-v-lt2 : goal.returns-then-v-lt2
unfolding header_length
returns-then-v-lt2 c = λ at. live-short _ at (omega arith)

pub returns-then-l_for_nobody : goal.returns-then-l_for_nobody
returns-then-l_for_nobody c = λ at. live-nobody _ at (sym (header-nobody _ _ c.read_header-h.ensures.0) ∙ sym c.l_for_nobody.ensures ∙ c.if-l_for_nobody.true)

pub returns-in_default : goal.returns-in_default
returns-in_default c =
    let p = err-else _ c.in_default.not-Ok in
    let s = masks-say _ _ _ c.read_header-h.ensures.0 _ (sym c.masks_within.ensures ∙ p.1) in
    λ at. live-short _ at (omega (arith, s.1))

pub returns-in_default-masks : goal.returns-in_default-masks
returns-in_default-masks c = λ at.
    live-too-long _ at (masks-say _ _ _ c.read_header-h.ensures.0 _ (sym c.masks_within.ensures ∙ c.in-Ok.is ∙ ap Ok (none-else _ c.in_default-masks.not-Some)))

pub overflow_add-list : goal.overflow_add-list
overflow_add-list c = omega (arith, (framed (goal.at.overflow_add-list c).In-Some).2)

pub bounds-v-length_byte : goal.bounds-v-length_byte
bounds-v-length_byte c = omega (arith, (framed (goal.at.bounds-v-length_byte c).In-Some).2)

pub overflow_add-list-2 : goal.overflow_add-list-2
overflow_add-list-2 c = omega (arith, (framed (goal.at.overflow_add-list-2 c).In-Some).2, c.type_inv.v c.in-Some.length_byte)

pub slice_bounds-identifies_link-count : goal.slice_bounds-identifies_link-count
slice_bounds-identifies_link-count c = omega (arith, (within (goal.at.slice_bounds-identifies_link-count c).After-min-end).0)

pub slice_bounds-identifies_link-start : goal.slice_bounds-identifies_link-start
slice_bounds-identifies_link-start c = omega (arith, (within (goal.at.slice_bounds-identifies_link-start c).After-min-end).0)

pub identifies_link-requires : goal.identifies_link-requires
identifies_link-requires c = (within (goal.at.identifies_link-requires c).After-min-end).2

pub returns : goal.returns
returns c = λ at.
    live-says _ at _ _ (framed (goal.at.returns c).In-Some).0 (sym (header-nobody _ _ c.read_header-h.ensures.0) ∙ sym c.l_for_nobody.ensures ∙ c.if-l_for_nobody.false)
    (within (goal.at.returns c).After-min-end).1 c.identifies_link.ensures
