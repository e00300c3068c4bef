-- An ASLA of an accepted run: who hears its list, by its header and its two masks as sent. Assumes nothing.
use mathlib.Core.Path.{◌≡◌, refl, sym, ap, ap₂, ◌∙◌, subst}
use mathlib.Core.Bool.{Bool, true, false, cond, ◌&&◌, ◌||◌, not}
use mathlib.Core.List.{List, []}
use Prim.Native.Nat.{ℕ, ◌+◌, ◌-◌, ◌^◌, ◌≤◌, ◌<◌}
use native.Mathlib.Omega.{arith}
use borrow.Author.Tests.{eqb-true, eq-eqb, ltb-false}
use lib.Dec.{eqb, ltb}
use lib.ListN.{length, take, drop, get_or, length-take, length-drop}
use Rattle.linkstate.specs.Lists.{any, each}
use Rattle.linkstate.specs.Bytes.{bytes_at}
use Rattle.linkstate.specs.Masks.{in_masks, others}
use Rattle.linkstate.proofs.Retired.{in-nobody}
use Rattle.linkstate.specs.Replies.{accepted, run_a}
use Rattle.linkstate.specs.Elements.{elements, faults}
use Rattle.linkstate.specs.Attributes.{Attribute}
use Rattle.linkstate.specs.Sides.{Advertisement, names, general, rsvp_te_alone}
use Rattle.linkstate.proofs.ListLaws.{or_l, or_r}
use Rattle.linkstate.proofs.ElementLaws.{part-place}
use Rattle.octets.proofs.Laws.{part-is, length-bytes_at}
use Rattle.masks.specs.Sets.{turned_place}
use Rattle.masks.proofs.Laws.{bit-beyond}
use Rattle.isis.specs.MaskHeader.{l_flag, sabm_length, udabm_length, header_length, mask_too_long, l_for_nobody, advertisement}
use Rattle.isis.specs.RunA.{check_attribute, check_asla, attributes_of, list_elements, live_asla, asla_advertisements}
use Rattle.isis_check_a.specs.declared.Header.{Header}
use Rattle.isis_check_a.specs.Headers.{header_of, too_long}
use Rattle.isis_check_a.proofs.Laws.{header-l, header-too-long, header-bytes, sub-tlv-asla}
use Rattle.isis_grids.specs.declared.Which.{Which}
use Rattle.isis_grids.specs.declared.Which.TheVariants.{Naming, General, RsvpTeAlone, WithoutL}
use Rattle.isis_grids.specs.Selected.{selects, selected, Headed}
use Rattle.isis_grids.proofs.Aslas.{headed, list-ok, list-behind, selected-flagged, selected-too-long, selected-read}
use Rattle.masks.specs.declared.Applications.{Applications}
use Rattle.masks.specs.Applications.{in_set, at_place}
use Rattle.masks.proofs.Sets.{place_set, masks-alone}
use Rattle.isis_index.specs.Index.{Source, live, heard_by_all, heard, here_in, part_of, Here, Told}
use Rattle.isis_index.proofs.Pairs.{alone-is}

-- ---- the tests of an advertisement without L, by its masks

module _ (v : List ℕ) (plain : l_flag v ≡ false) where
  abbrev ad : Advertisement
  ad = advertisement v []

  without-l : not ad.L ≡ true
  unfolding advertisement
  without-l = ap not plain

  -- Both masks are empty.
  module _ (zs : sabm_length v ≡ 0) (zu : udabm_length v ≡ 0) where
    empty-masks : (n : ℕ) → names n ad ≡ false
    unfolding names advertisement
    empty-masks n = rw (zs, zu) (in-nobody [] [] n (bit-beyond [] n (omega arith)) (bit-beyond [] (n - 64) (omega arith)))

    pub for-all : (w : Which) → selects w ad ≡ heard_by_all (live w)
    unfolding selects heard_by_all general rsvp_te_alone advertisement
    for-all (Naming n) = empty-masks n
    for-all General = rw (zs, zu)
    for-all RsvpTeAlone = ap (λ (b : Bool). b && not (any (λ a. names a ad) others)) (empty-masks 0)
    for-all WithoutL = without-l

  -- Not both are, and they stand in the value.
  module _ (some : sabm_length v + udabm_length v ≡ 0 → ⊥) (inside : header_length v ≤ length v) (who : Applications) (small : who.standard < 2 ^ 64) (low : who.user < 2 ^ 64)
      (is : (n : ℕ) → in_set who n ≡ in_masks ad.standard_mask ad.user_mask n) where
    pub sent-names : (n : ℕ) → at_place who (turned_place n) ≡ names n ad
    unfolding names
    sent-names n = place_set who n ∙ is n

    mask-lengths : (length ad.standard_mask ≡ sabm_length v) × (length ad.user_mask ≡ udabm_length v)
    unfolding advertisement header_length
    mask-lengths =
        (omega (arith, length-take (sabm_length v) (drop 2 v), length-drop 2 v), omega (arith, length-take (udabm_length v) (drop (2 + sabm_length v) v), length-drop (2 + sabm_length v) v))

    pub for-named : (w : Which) → selects w ad ≡ heard who (live w)
    unfolding selects heard general
    for-named (Naming n) = sym (sent-names n)
    for-named General = go (eqb (length ad.standard_mask) 0) refl (eqb (length ad.user_mask) 0) refl
      where
        go : (x : Bool) → eqb (length ad.standard_mask) 0 ≡ x → (y : Bool) → eqb (length ad.user_mask) 0 ≡ y → x && y ≡ false
        go true e true f = absurd (some (omega (arith, mask-lengths.0, mask-lengths.1, eqb-true (length ad.standard_mask) 0 e, eqb-true (length ad.user_mask) 0 f)))
        go true e false f = refl
        go false e y f = refl
    for-named RsvpTeAlone = alone-is who small low ad sent-names
    for-named WithoutL = without-l

-- ---- the ASLA at a position of run A

module _ {a : List ℕ} {at end : ℕ} (y : Here a at end) (asla : get_or a at 0 ≡ 16) where
  abbrev size : ℕ
  size = get_or a (at + 1) 0

  abbrev value : List ℕ
  value = bytes_at a (at + 2) size

  room : at + 2 + size ≤ length a
  room = let i = y.inside in omega (arith, y.ends)

  asla-ok : check_asla at value ≡ accepted
  asla-ok = sub-tlv-asla at (get_or a at 0) value asla ∙ y.passed

  has-header : Headed value
  has-header = headed at value asla-ok

  value-size : length value ≡ size
  value-size = length-bytes_at a (at + 2) size room

  part-value : part_of a (at + 2) end ≡ value
  part-value = ap (λ (i : ℕ). take (i - (at + 2)) (drop (at + 2) a)) y.ends ∙ part-is a (at + 2) size

  pub header-there : 2 ≤ length (part_of a (at + 2) end)
  header-there = subst (λ (l : List ℕ). 2 ≤ length l) (sym part-value) has-header.0

  module _ (h : Header) (e : h ≡ header_of (part_of a (at + 2) end)) where
    is-header : h ≡ header_of value
    is-header = e ∙ ap header_of part-value

    pub unread-l : h.l ≡ true → (w : Which) → selected w (here_in a at) ≡ []
    unread-l l w = selected-flagged w at (get_or a at 0) value asla (sym (header-l h value is-header) ∙ l)

    module _ (l : h.l ≡ false) where
      plain : l_flag value ≡ false
      plain = sym (header-l h value is-header) ∙ l

      pub unread-long : too_long h ≡ true → (w : Which) → selected w (here_in a at) ≡ []
      unread-long m w = selected-too-long w at (get_or a at 0) value asla plain (sym (header-too-long h value is-header) ∙ m)

      module _ (m : too_long h ≡ false) where
        short : mask_too_long value ≡ false
        short = sym (header-too-long h value is-header) ∙ m

        standard-is : h.standard ≡ sabm_length value
        standard-is = ap (λ (x : Header). x.standard) is-header

        user-is : h.user ≡ udabm_length value
        user-is = ap (λ (x : Header). x.user) is-header

        pub masks-there : (h.standard ≤ 8) × (h.user ≤ 8) × (at + 2 + 2 + h.standard + h.user ≤ end)
        masks-there = (
          ltb-false 8 h.standard (or_l (ltb 8 h.standard) (ltb 8 h.user) m),
          ltb-false 8 h.user (or_r (ltb 8 h.standard) (ltb 8 h.user) m),
          omega (arith, has-header.1 short, value-size, header-bytes h value is-header, y.ends),
        )

        -- Its list, for those who hear it.
        module _ (from : ℕ) (here : from ≡ at + 2 + 2 + h.standard + h.user) (f : Source → Bool) (tests : (w : Which) → selects w (advertisement value []) ≡ f (live w)) where
          from_is : from ≡ at + 2 + header_length value
          from_is = omega (arith, here, header-bytes h value is-header)

          list-is : part_of a from end ≡ drop (header_length value) value
          list-is =
              ap₂ (λ (i j : ℕ). take (i - j) (drop j a)) y.ends from_is
              ∙ list-behind a at (header_length value) (omega (arith, has-header.1 short, value-size)) room

          pub list-told : Told a at end from f
          unfolding list_elements
          list-told = record {
            listed = record {
              order = omega (arith, here, masks-there.2);
              inside = y.inside;
              small = y.small;
              passed = ap₂ (λ (i : ℕ) (s : List ℕ). faults run_a check_attribute (elements 1 i s)) from_is list-is ∙ list-ok at value asla-ok short plain;
            };
            gives = λ w.
                selected-read w at (get_or a at 0) value asla plain short
                ∙ ap₂ (λ (b : Bool) (ts : List Attribute). cond b ts []) (tests w) (sym (ap₂ (λ (i : ℕ) (s : List ℕ). each attributes_of (elements 1 i s)) from_is list-is));
          }

        pub told-all : (from : ℕ) → from ≡ at + 2 + 2 + h.standard + h.user → from ≡ at + 2 + 2 → Told a at end from heard_by_all
        told-all from i j = list-told from i heard_by_all (for-all value plain (omega (arith, standard-is, i, j)) (omega (arith, user-is, i, j)))

        -- As the code reads the masks.
        module _ (nobody who : Applications) (small : who.standard < 2 ^ 64) (low : who.user < 2 ^ 64) (some : h.standard + h.user ≡ 0 → ⊥)
            (none : (p : ℕ) → at_place nobody p ≡ false)
            (is : (n : ℕ) → in_set who n ≡ in_set nobody n || in_masks (take h.standard (drop (at + 2 + 2) a)) (take h.user (drop (at + 2 + 2 + h.standard) a)) n) where
          stands : bytes_at a (at + 2) (length value) ≡ value
          stands = ap (bytes_at a (at + 2)) value-size

          mask_at : (i k : ℕ) → i + k ≤ length value → take k (drop (at + 2 + i) a) ≡ take k (drop i value)
          unfolding bytes_at
          mask_at i k r = part-place a (at + 2) i k value stands r

          standard-mask : take h.standard (drop (at + 2 + 2) a) ≡ (advertisement value []).standard_mask
          unfolding advertisement
          standard-mask = mask_at 2 h.standard (omega (arith, masks-there.2, value-size, y.ends)) ∙ ap (λ (k : ℕ). take k (drop 2 value)) standard-is

          user-mask : take h.user (drop (at + 2 + 2 + h.standard) a) ≡ (advertisement value []).user_mask
          unfolding advertisement
          user-mask =
              let p : at + 2 + 2 + h.standard ≡ at + 2 + (2 + h.standard) = omega arith in
              ap (λ (i : ℕ). take h.user (drop i a)) p
              ∙ mask_at (2 + h.standard) h.user (omega (arith, masks-there.2, value-size, y.ends))
              ∙ ap₂ (λ (k i : ℕ). take k (drop (2 + i) value)) user-is standard-is

          sent : (n : ℕ) → in_set who n ≡ in_masks (advertisement value []).standard_mask (advertisement value []).user_mask n
          sent n = masks-alone _ _ nobody who none is n ∙ ap₂ (λ (x y : List ℕ). in_masks x y n) standard-mask user-mask

          some_bytes : sabm_length value + udabm_length value ≡ 0 → ⊥
          some_bytes z = some (omega (arith, standard-is, user-is))

          pub told_named : (from : ℕ) → from ≡ at + 2 + 2 + h.standard + h.user → Told a at end from (heard who)
          told_named from i = list-told from i (heard who) (for-named value plain some_bytes (has-header.1 short) who small low sent)

          pub named_here : (n : ℕ) → at_place who (turned_place n) ≡ any (names n) (asla_advertisements (here_in a at))
          unfolding asla_advertisements live_asla l_for_nobody any names advertisement
          named_here n =
              sent-names value plain some_bytes (has-header.1 short) who small low sent n
              ∙ (rw (eq-eqb (get_or a at 0) 16 asla, short, plain) (or-false (names n (advertisement value []))))
            where
              or-false : (b : Bool) → b ≡ b || false
              or-false true = refl
              or-false false = refl
