-- An ASLA by the bytes of its value: whether its masks are read, whom they name, and where its list begins.
use mathlib.Core.Path.{◌≡◌, refl, sym, ap, ap₂, ◌∙◌}
use mathlib.Core.Bool.{Bool, true, false, cond, ◌&&◌, ◌||◌, not}
use mathlib.Core.List.{List, []}
use Prim.Native.Nat.{ℕ, ◌+◌, ◌-◌, ◌%◌, ◌≤◌, ◌<◌}
use native.Mathlib.Omega.{arith}
use native.Mathlib.Nat.{add-sub_cancel_left}
use borrow.Author.Tests.{lt-ltb, le-ltb, lt-leb, leb-true, leb-false, ltb-true, ltb-false, ne_eqb, eqb-true}
use lib.Dec.{eqb, ltb, leb}
use lib.ListN.{length, take, drop, get_or, length-drop, length-take}
use lib.Seq.{length-take-le}
use Rattle.linkstate.specs.Lists.{any}
use Rattle.linkstate.specs.Masks.{bit, in_masks, others}
use Rattle.linkstate.proofs.Retired.{in-standard, in-user, in-retired}
use Rattle.linkstate.specs.Sides.{names, general, rsvp_te_alone}
use Rattle.linkstate.proofs.ListLaws.{or_l, or_r}
use Rattle.isis.specs.MaskHeader.{l_flag, sabm_length, udabm_length, header_length, mask_too_long, advertisement}
use Rattle.isis_grids.specs.declared.Which.{Which}
use Rattle.isis_grids.specs.declared.Which.TheVariants.{Naming, General, RsvpTeAlone, WithoutL}
use Rattle.isis_grids.specs.Selected.{selects, list_from, is_taken, Headed, Read}

-- ---- the two length bytes

module _ (v : List ℕ) where
  -- a first byte above 8 has L, or a mask too long
  pub unread-first : 8 < get_or v 0 0 → false ≡ not (l_flag v) && not (mask_too_long v)
  unfolding l_flag mask_too_long sabm_length
  unread-first h = go (leb 128 (get_or v 0 0)) refl
    where
      go : (b : Bool) → leb 128 (get_or v 0 0) ≡ b → false ≡ not b && not (ltb 8 (get_or v 0 0 % 128) || ltb 8 (udabm_length v))
      go true e = refl
      go false e = let k : 8 < get_or v 0 0 % 128 = omega (arith, lower e) in rw (lt-ltb 8 (get_or v 0 0 % 128) k)
        where
          lower : leb 128 (get_or v 0 0) ≡ false → get_or v 0 0 < 128
          lower f = leb-false 128 (get_or v 0 0) f

  module _ (h : get_or v 0 0 ≤ 8) where
    pub no_flag : l_flag v ≡ false
    unfolding l_flag
    no_flag = lt-leb 128 (get_or v 0 0) (omega arith)

    pub standard-bytes : sabm_length v ≡ get_or v 0 0
    unfolding sabm_length
    standard-bytes = omega arith

    pub user-bytes : udabm_length v ≡ get_or v 1 0 % 128
    unfolding udabm_length
    user-bytes = refl

    pub read-second : leb (get_or v 1 0 % 128) 8 ≡ not (l_flag v) && not (mask_too_long v)
    unfolding mask_too_long
    read-second = rw (no_flag, standard-bytes, user-bytes, le-ltb 8 (get_or v 0 0) h) (go (leb (get_or v 1 0 % 128) 8) refl)
      where
        go : (b : Bool) → leb (get_or v 1 0 % 128) 8 ≡ b → b ≡ not (ltb 8 (get_or v 1 0 % 128))
        go true e = sym (ap not (le-ltb 8 (get_or v 1 0 % 128) (leb-true (get_or v 1 0 % 128) 8 e)))
        go false e = sym (ap not (lt-ltb 8 (get_or v 1 0 % 128) (leb-false (get_or v 1 0 % 128) 8 e)))

-- what the answer says
pub read-says : (l m b : Bool) → b ≡ not l && not m → b ≡ true → (l ≡ false) × (m ≡ false)
read-says true m b e f = absurd (let z : ◌≡◌ {A = ℕ} 0 1 = cc in omega arith)
read-says false true b e f = absurd (let z : ◌≡◌ {A = ℕ} 0 1 = cc in omega arith)
read-says false false b e f = (refl, refl)

-- ---- an ASLA whose masks are read

module _ (v : List ℕ) (w : Read v) where
  abbrev standard : ℕ
  standard = get_or v 0 0

  abbrev user : ℕ
  user = get_or v 1 0 % 128

  read_first : standard ≤ 8
  unfolding l_flag mask_too_long sabm_length
  read_first =
      let x : standard < 128 = leb-false 128 standard w.plain in
      omega (arith, ltb-false 8 (standard % 128) (or_l (ltb 8 (standard % 128)) (ltb 8 (udabm_length v)) w.short))

  read-user : user ≤ 8
  unfolding mask_too_long udabm_length
  read-user = ltb-false 8 user (or_r (ltb 8 (sabm_length v)) (ltb 8 user) w.short)

  pub header_is : header_length v ≡ 2 + standard + user
  unfolding header_length
  header_is = rw (standard-bytes v read_first, user-bytes v read_first)

  pub masks-fit : (standard ≤ 8) × (user ≤ 8) × (2 + standard + user ≤ length v)
  masks-fit = (read_first, read-user, omega (arith, header_is, w.headed.1 w.short))

  standard-is : take standard (drop 2 v) ≡ (advertisement v []).standard_mask
  unfolding advertisement
  standard-is = ap (λ (k : ℕ). take k (drop 2 v)) (sym (standard-bytes v read_first))

  user-is : take user (drop (2 + standard) v) ≡ (advertisement v []).user_mask
  unfolding advertisement
  user-is = ap₂ (λ (k i : ℕ). take k (drop (2 + i) v)) (sym (user-bytes v read_first)) (sym (standard-bytes v read_first))

  module _ (n : ℕ) where
    pub named-standard : n < 64 → (r : Bool) → r ≡ bit (take standard (drop 2 v)) n → r ≡ names n (advertisement v [])
    unfolding names
    named-standard h r e = e ∙ ap (λ (l : List ℕ). bit l n) standard-is ∙ sym (in-standard _ _ n h)

    pub named-user : 64 ≤ n → n < 96 → (r : Bool) → r ≡ bit (take user (drop (2 + standard) v)) (n - 64) → r ≡ names n (advertisement v [])
    unfolding names
    named-user h l r e = e ∙ ap (λ (m : List ℕ). bit m (n - 64)) user-is ∙ sym (in-user _ _ n h l)

    pub named-retired : 96 ≤ n → false ≡ names n (advertisement v [])
    unfolding names
    named-retired h = sym (in-retired _ _ n h)

  -- RSVP-TE alone, by the numbers of the masks as the code lends them
  part-lent : (i k : ℕ) → take (i + k - i) (drop i v) ≡ take k (drop i v)
  part-lent i k = ap (λ (j : ℕ). take j (drop i v)) (add-sub_cancel_left i k)

  pub lent-short : (length (take (2 + standard - 2) (drop 2 v)) ≤ 8) × (length (take (2 + standard + user - (2 + standard)) (drop (2 + standard) v)) ≤ 8)
  lent-short = (
    omega (arith, length-take (2 + standard - 2) (drop 2 v), read_first),
    omega (arith, length-take (2 + standard + user - (2 + standard)) (drop (2 + standard) v), read-user),
  )

  pub not_first : (r : Bool) → r ≡ names 0 (advertisement v []) → r ≡ false → false ≡ rsvp_te_alone (advertisement v [])
  unfolding rsvp_te_alone
  not_first r e f = rw (sym e ∙ f)

  pub alone-lent : (r : Bool)
      → r ≡ in_masks (take (2 + standard - 2) (drop 2 v)) (take (2 + standard + user - (2 + standard)) (drop (2 + standard) v)) 0
      && not (any (in_masks (take (2 + standard - 2) (drop 2 v)) (take (2 + standard + user - (2 + standard)) (drop (2 + standard) v))) others)
      → r ≡ rsvp_te_alone (advertisement v [])
  unfolding rsvp_te_alone names
  alone-lent r e =
      e
      ∙ ap₂ (λ (x y : List ℕ). in_masks x y 0 && not (any (in_masks x y) others)) (part-lent 2 standard ∙ standard-is) (part-lent (2 + standard) user ∙ user-is)

-- ---- whether it is selected

module _ (v : List ℕ) (w : Headed v) (which : Which) where
  pub taken_not : (b : Bool) → b ≡ not (l_flag v) && not (mask_too_long v) → b ≡ false → false ≡ is_taken which v
  unfolding is_taken
  taken_not b e f = go (l_flag v) (mask_too_long v) (sym e ∙ f)
    where
      go : (l m : Bool) → not l && not m ≡ false → false ≡ cond l false (cond m false (selects which (advertisement v [])))
      go true m z = refl
      go false true z = refl
      go false false z = absurd (let y : ◌≡◌ {A = ℕ} 0 1 = cc in omega arith)

  pub taken-if : Read v → (r : Bool) → r ≡ selects which (advertisement v []) → r ≡ is_taken which v
  unfolding is_taken
  taken-if p r e = e ∙ rw (p.plain, p.short)

-- where its list begins
module _ (v : List ℕ) (which : Which) where
  pub list-taken : (b : Bool) → is_taken which v ≡ b → list_from which v ≡ cond b (header_length v) (length v)
  unfolding is_taken list_from
  list-taken b e = go (l_flag v) (mask_too_long v) (selects which (advertisement v [])) e
    where
      go : (l m x : Bool) → cond l false (cond m false x) ≡ b
          → cond l (length v) (cond m (length v) (cond x (header_length v) (length v))) ≡ cond b (header_length v) (length v)
      go true m x f = ap (λ (y : Bool). cond y (header_length v) (length v)) f
      go false true x f = ap (λ (y : Bool). cond y (header_length v) (length v)) f
      go false false x f = ap (λ (y : Bool). cond y (header_length v) (length v)) f

  pub taken-read : Headed v → is_taken which v ≡ true → Read v
  unfolding is_taken
  taken-read w e = let p = go (l_flag v) (mask_too_long v) e in record { headed = w; plain = p.0; short = p.1 }
    where
      go : (l m : Bool) → cond l false (cond m false (selects which (advertisement v []))) ≡ true → (l ≡ false) × (m ≡ false)
      go true m z = absurd (let y : ◌≡◌ {A = ℕ} 0 1 = cc in omega arith)
      go false true z = absurd (let y : ◌≡◌ {A = ℕ} 0 1 = cc in omega arith)
      go false false z = (refl, refl)

-- ---- a general one

mask-long : (v : List ℕ) (n : ℕ) → sabm_length v ≡ 0 → udabm_length v ≡ n → mask_too_long v ≡ ltb 8 n
unfolding mask_too_long
mask-long v n p q = rw (p, q)

module _ (v : List ℕ) (w : Headed v) where
  mask-length : (i k : ℕ) → i + k ≤ length v → length (take k (drop i v)) ≡ k
  mask-length i k h = length-take-le k (drop i v) (omega (arith, length-drop i v))

  module _ (m : mask_too_long v ≡ false) where
    masks-inside : 2 + sabm_length v + udabm_length v ≤ length v
    unfolding header_length
    masks-inside = w.1 m

    general-is : general (advertisement v []) ≡ eqb (sabm_length v) 0 && eqb (udabm_length v) 0
    unfolding general advertisement
    general-is =
        rw (
          mask-length 2 (sabm_length v) (omega (arith, masks-inside)),
          mask-length (2 + sabm_length v) (udabm_length v) (omega (arith, masks-inside)),
        )

  pub general-not : (get_or v 0 0 ≡ 0 → ⊥) → false ≡ is_taken General v
  unfolding is_taken selects l_flag sabm_length
  general-not h = go (leb 128 (get_or v 0 0)) refl (mask_too_long v) refl
    where
      go : (l : Bool) → leb 128 (get_or v 0 0) ≡ l → (m : Bool) → mask_too_long v ≡ m
          → false ≡ cond l false (cond m false (general (advertisement v [])))
      go true e m f = refl
      go false e true f = refl
      go false e false f =
          let x : get_or v 0 0 < 128 = leb-false 128 (get_or v 0 0) e in
          sym (general-is f ∙ ap (λ (b : Bool). b && eqb (udabm_length v) 0) (ne_eqb (sabm_length v) 0 (λ z. h (small x ∙ z))))
        where
          small : get_or v 0 0 < 128 → get_or v 0 0 ≡ sabm_length v
          small x = omega arith

  pub general-if : get_or v 0 0 ≡ 0 → eqb (get_or v 1 0 % 128) 0 ≡ is_taken General v
  unfolding is_taken selects
  general-if h =
      let f = no_flag v (omega arith) in
      rw f (go (mask_too_long v) refl (eqb (get_or v 1 0 % 128) 0) refl)
    where
      zero-standard : sabm_length v ≡ 0
      zero-standard = standard-bytes v (omega arith) ∙ h

      same-user : udabm_length v ≡ get_or v 1 0 % 128
      same-user = user-bytes v (omega arith)

      too_long : mask_too_long v ≡ ltb 8 (get_or v 1 0 % 128)
      too_long = mask-long v (get_or v 1 0 % 128) zero-standard same-user

      go : (m : Bool) → mask_too_long v ≡ m → (b : Bool) → eqb (get_or v 1 0 % 128) 0 ≡ b
          → b ≡ cond m false (general (advertisement v []))
      go true e true f =
          let z : get_or v 1 0 % 128 ≡ 0 = eqb-true (get_or v 1 0 % 128) 0 f in absurd
          (omega (arith, ltb-true 8 (get_or v 1 0 % 128) (sym too_long ∙ e)))
      go true e false f = refl
      go false e b f =
          sym (general-is e ∙ ap₂ (λ (x y : ℕ). eqb x 0 && eqb y 0) zero-standard same-user ∙ f)

-- ---- by which test

module _ (v : List ℕ) (w : Headed v) where
  pub read_at : (b : Bool) → b ≡ not (l_flag v) && not (mask_too_long v) → b ≡ true → Read v
  read_at b e f = let p = read-says (l_flag v) (mask_too_long v) b e f in record { headed = w; plain = p.0; short = p.1 }

  module _ (which : Which) (r : Bool) where
    pub taken-naming : (n : ℕ) → which ≡ Naming n → Read v → r ≡ names n (advertisement v []) → r ≡ is_taken which v
    unfolding selects
    taken-naming n e p h = taken-if v w (Naming n) p r h ∙ ap (λ (x : Which). is_taken x v) (sym e)

    pub taken-alone : which ≡ RsvpTeAlone → Read v → r ≡ rsvp_te_alone (advertisement v []) → r ≡ is_taken which v
    unfolding selects
    taken-alone e p h = taken-if v w RsvpTeAlone p r h ∙ ap (λ (x : Which). is_taken x v) (sym e)

    pub taken-general : which ≡ General → r ≡ is_taken General v → r ≡ is_taken which v
    taken-general e h = h ∙ ap (λ (x : Which). is_taken x v) (sym e)

    pub taken-plain : which ≡ WithoutL → r ≡ not (l_flag v) && not (mask_too_long v) → r ≡ is_taken which v
    unfolding is_taken selects advertisement
    taken-plain e h = h ∙ go (l_flag v) (mask_too_long v) ∙ ap (λ (x : Which). is_taken x v) (sym e)
      where
        go : (l m : Bool) → not l && not m ≡ cond l false (cond m false (not l))
        go true m = refl
        go false true = refl
        go false false = refl
