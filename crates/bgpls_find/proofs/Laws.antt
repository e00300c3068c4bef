-- What one turn of a walk over a run does: to the 1122s of a set that are left, to the attributes, and to what is found.
use mathlib.Core.Path.{◌≡◌, refl, sym, ap, ap₂, ◌∙◌}
use mathlib.Core.Bool.{Bool, true, false, cond, ◌&&◌, not, and-false}
use mathlib.Core.List.{List, [], ◌∷◌, ◌++◌}
use Prim.Native.Nat.{ℕ, ◌+◌, ◌-◌, ◌/◌, ◌≤◌, ◌<◌}
use native.Mathlib.Omega.{arith}
use native.Mathlib.Nat.{add-sub_cancel_left}
use borrow.Author.Tests.{lt-ltb, le-ltb, ltb-false, leb-true, eq-eqb, ne_eqb, eqb-true}
use lib.Dec.{eqb, ltb, leb}
use lib.ListN.{length, take, drop, length-take, length-drop}
use lib.Seq.{length-take-le}
use Rattle.linkstate.specs.Lists.{keep, each}
use Rattle.linkstate.specs.Bytes.{number, bytes_at}
use Rattle.linkstate.specs.Masks.{bit, in_masks}
use Rattle.linkstate.specs.Replies.{Verdict, accepted, fault, run_bgp_ls}
use Rattle.linkstate.specs.Elements.{Element, element, length_of, elements, faults, faults_once}
use Rattle.linkstate.specs.Attributes.{attribute, of_kind}
use Rattle.linkstate.specs.Sides.{Advertisement}
use Rattle.linkstate.specs.BgpLs.{sabm_length, udabm_length, is_mask_length, asla_header, not_ignored, check_asla, check_top, attributes_of, advertisement, advertisements_of, inner_elements}
use Rattle.linkstate.proofs.WalkLaws.{left, left_end, left-whole, type-two, length_two, faults-whole, faults-passed, then-first, then-second, not-accepted}
use Rattle.octets.proofs.Laws.{length-bytes_at}
use Rattle.masks.proofs.Laws.{bit-beyond}
use Rattle.frames.proofs.Laws.{IsWhole}
use Rattle.rivals.proofs.RunLaws.{asla-checked}
use Rattle.linkstate.proofs.ListLaws.{and_l, and_r}
use Rattle.bgpls_find.specs.declared.Set.{Set}
use Rattle.bgpls_find.specs.declared.Set.TheVariants.{Top, Every, General, Naming}
use Rattle.std.specs.Prelude.{Some, None}
use Rattle.bgpls_find.specs.Sets.{chosen_by, ends_before, chosen}
use Rattle.octets.specs.Spans.{found_in}
use Rattle.bgpls_find.specs.Walks.{rest, Passes, aslas_from, standard_mask, user_mask, Sound, IsAsla}

-- ---- the elements that are left

module _ (r : List ℕ) (at : ℕ) where
  rest-left : left 2 0 r at ≡ rest r at
  rest-left = let z : 0 + at ≡ at = omega arith in ap (λ (i : ℕ). elements 2 i (drop at r)) z

  pub rest_end : length r ≤ at → rest r at ≡ []
  rest_end h = sym rest-left ∙ left_end 2 (omega arith) 0 r at h

  pub rest-whole : (t n : ℕ) → IsWhole 2 r at t n → rest r at ≡ element at t (bytes_at r (at + 4) n) ∷ rest r (at + 4 + n)
  rest-whole t n f =
      let z : 0 + at ≡ at = omega arith in
      let y : 0 + (at + 4 + n) ≡ at + 4 + n = omega arith in
      sym rest-left
      ∙ left-whole 2 (omega arith) 0 r at n f.size f.within
      ∙ ap₂ (λ (e : Element) (es : List Element). e ∷ es)
      (ap₂ (λ (i k : ℕ). element i k (bytes_at r (at + 4) n)) z f.type)
      (ap (λ (i : ℕ). elements 2 i (drop (at + 4 + n) r)) y)

-- Where no element is refused, the one that begins is whole: its type and its length are what the code reads there.
module _ (check : ℕ → ℕ → List ℕ → Verdict) (base : ℕ) (s : List ℕ) (at : ℕ) (h : at < length s)
    (p : faults run_bgp_ls check (left 2 base s at) ≡ accepted) where
  fits_in : at + 4 + length_of 2 (drop at s) ≤ length s
  fits_in = faults-whole run_bgp_ls check 2 (omega arith) base s at h p

  pub head-fits : at + 4 ≤ length s
  head-fits = omega (arith, fits_in)

  pub whole_here : (t n : ℕ) → t ≡ number (bytes_at s at 2) → n ≡ number (bytes_at s (at + 2) 2) → IsWhole 2 s at t n
  whole_here t n d e =
      let z = length_two s at ∙ sym e in
      record { type = type-two s at ∙ sym d; size = z; within = omega (arith, fits_in, z) }

  -- and the others are not refused
  pub others-pass : (t n : ℕ) → IsWhole 2 s at t n → faults run_bgp_ls check (left 2 base s (at + 4 + n)) ≡ accepted
  others-pass t n f = (faults-passed run_bgp_ls check 2 (omega arith) base s at n f.size h p).2

pub passes-end : (r : List ℕ) (at : ℕ) → length r ≤ at → Passes r at
unfolding faults
passes-end r at h = ap (faults run_bgp_ls check_top) (rest_end r at h)

-- ---- a 1122 that passed

top-asla : (at t : ℕ) (v : List ℕ) → t ≡ 1122 → check_asla at v ≡ check_top at t v
unfolding check_top
top-asla at t v e = rw (eq-eqb t 1122 e)

pub sound : (at t : ℕ) (v : List ℕ) → check_top at t v ≡ accepted → t ≡ 1122 → Sound v
unfolding check_asla
sound at t v h e = record { fixed = go (ltb (length v) 4) refl checked; masks = λ p. (asla-checked at v p checked).0 }
  where
    checked : check_asla at v ≡ accepted
    checked = top-asla at t v e ∙ h

    go : (b : Bool) → ltb (length v) 4 ≡ b
        → cond b (fault 3 run_bgp_ls at)
        (cond (not (not_ignored v)) accepted
        (cond (ltb (length v) (asla_header v)) (fault 3 run_bgp_ls at)
        (faults_once run_bgp_ls Rattle.linkstate.specs.BgpLs.known_inside Rattle.linkstate.specs.BgpLs.check_inner [] (inner_elements at v))))
        ≡ accepted → 4 ≤ length v
    go true f k = absurd (not-accepted 3 run_bgp_ls at k)
    go false f k = ltb-false (length v) 4 f

-- ---- the masks of a 1122 that has room for them

module _ (v : List ℕ) (s u : ℕ) (e : s ≡ sabm_length v) (f : u ≡ udabm_length v) where
  pub header-live : is_mask_length s && is_mask_length u ≡ not_ignored v
  unfolding not_ignored
  header-live = ap₂ (λ (x y : ℕ). is_mask_length x && is_mask_length y) e f

  pub header-size : 4 + s + u ≡ asla_header v
  unfolding asla_header
  header-size = ap₂ (λ (x y : ℕ). 4 + x + y) e f

  -- They are the code's parts.
  pub standard-part : take (4 + s - 4) (drop 4 v) ≡ standard_mask v
  unfolding standard_mask
  standard-part = rw (add-sub_cancel_left 4 s) (ap (λ (x : ℕ). take x (drop 4 v)) e)

  pub user-part : take (4 + s + u - (4 + s)) (drop (4 + s) v) ≡ user_mask v
  unfolding user_mask
  user-part = rw (add-sub_cancel_left (4 + s) u) (ap₂ (λ (x y : ℕ). take y (drop (4 + x) v)) e f)

  pub names-part : (a : ℕ)
      → in_masks (take (4 + s - 4) (drop 4 v)) (take (4 + s + u - (4 + s)) (drop (4 + s) v)) a ≡ chosen_by (Naming a) (standard_mask v) (user_mask v)
  unfolding chosen_by
  names-part a = ap₂ (λ (x y : List ℕ). in_masks x y a) standard-part user-part

  pub general-lengths : 4 + s + u ≤ length v → (eqb s 0 && eqb u 0) ≡ chosen_by General (standard_mask v) (user_mask v)
  unfolding chosen_by standard_mask user_mask
  general-lengths h =
      ap₂ (λ (x y : ℕ). eqb x 0 && eqb y 0)
      (e ∙ sym (length-take-le (sabm_length v) (drop 4 v) (omega (arith, length-drop 4 v))))
      (f ∙ sym (length-take-le (udabm_length v) (drop (4 + sabm_length v) v) (omega (arith, length-drop (4 + sabm_length v) v))))

-- Whether a mask ends before the bit of an application, standard or user.
module _ (set : Set) (a s u : ℕ) (e : set ≡ Naming a) where
  pub ends-standard : a < 64 → leb s (a / 8) ≡ ends_before set s u
  unfolding ends_before
  ends-standard h = rw (e, lt-ltb a 64 h)

  pub ends-user : 64 ≤ a → leb u ((a - 64) / 8) ≡ ends_before set s u
  unfolding ends_before
  ends-user h = rw (e, le-ltb a 64 h)

-- Where the mask ends before the application's bit, the bit is not set.
pub ends-unnamed : (set : Set) (v : List ℕ) (s u : ℕ) → s ≡ sabm_length v → u ≡ udabm_length v → ends_before set s u ≡ true
    → chosen_by set (standard_mask v) (user_mask v) ≡ false
unfolding ends_before chosen_by in_masks standard_mask user_mask
ends-unnamed Top v s u e f h = refl
ends-unnamed Every v s u e f h = absurd (let z : ◌≡◌ {A = ℕ} 0 1 = cc in omega arith)
ends-unnamed General v s u e f h = absurd (let z : ◌≡◌ {A = ℕ} 0 1 = cc in omega arith)
ends-unnamed (Naming a) v s u e f h = go (ltb a 64) h
  where
    go : (b : Bool) → cond b (leb s (a / 8)) (leb u ((a - 64) / 8)) ≡ true → cond b (bit (standard_mask v) a) (ltb a 96 && bit (user_mask v) (a - 64)) ≡ false
    go true k = bit-beyond (standard_mask v) a (omega (arith, leb-true s (a / 8) k, length-take (sabm_length v) (drop 4 v)))
    go false k =
        ap (λ (b : Bool). ltb a 96 && b)
        (bit-beyond (user_mask v) (a - 64) (omega (arith, leb-true u ((a - 64) / 8) k, length-take (udabm_length v) (drop (4 + sabm_length v) v))))
        ∙ and-false (ltb a 96)

-- ---- whether an element is taken, test by test

module _ (set : Set) (t : ℕ) (v : List ℕ) where
  abbrev pub Taken : Bool
  Taken = eqb t 1122 && not_ignored v && chosen_by set (standard_mask v) (user_mask v)

  pub not-asla : (t ≡ 1122 → ⊥) → false ≡ Taken
  not-asla h = rw (ne_eqb t 1122 h)

  pub not_chosen : chosen_by set (standard_mask v) (user_mask v) ≡ false → false ≡ Taken
  not_chosen h = sym (ap (λ (b : Bool). eqb t 1122 && not_ignored v && b) h ∙ and-false (eqb t 1122 && not_ignored v))

  pub not_live : t ≡ 1122 → not_ignored v ≡ false → false ≡ Taken
  not_live h p = rw (eq-eqb t 1122 h, p)

  pub by-set : t ≡ 1122 → not_ignored v ≡ true → (x : Set) → set ≡ x → chosen_by x (standard_mask v) (user_mask v) ≡ Taken
  by-set h p x e = rw (eq-eqb t 1122 h, p, e)

-- ---- a turn at a whole element

module _ (set : Set) (r : List ℕ) (at : ℕ) where
  pub aslas-end : length r ≤ at → aslas_from set r at ≡ []
  unfolding aslas_from each keep
  aslas-end h = ap (λ (es : List Element). keep (chosen set) (each advertisements_of es)) (rest_end r at h)

  module _ (t n : ℕ) (f : IsWhole 2 r at t n) where
    abbrev value : List ℕ
    value = bytes_at r (at + 4) n

    abbrev taken : List ℕ → Bool
    taken v = Taken set t v

    pub aslas-turn : aslas_from set r at ≡ cond (taken value) (advertisement at value ∷ aslas_from set r (at + 4 + n)) (aslas_from set r (at + 4 + n))
    unfolding aslas_from each keep advertisements_of chosen advertisement standard_mask user_mask
    aslas-turn = ap (λ (es : List Element). keep (chosen set) (each advertisements_of es)) (rest-whole r at t n f) ∙ go (eqb t 1122 && not_ignored value)
      where
        others : List Advertisement
        others = each advertisements_of (rest r (at + 4 + n))

        go : (b : Bool) → keep (chosen set) (cond b (advertisement at value ∷ []) [] ++ others)
            ≡ cond (b && chosen_by set (standard_mask value) (user_mask value)) (advertisement at value ∷ keep (chosen set) others) (keep (chosen set) others)
        go true = refl
        go false = refl

    pub aslas-passed : taken value ≡ false → aslas_from set r (at + 4 + n) ≡ aslas_from set r at
    aslas-passed e = sym (aslas-turn ∙ rw e)

    module _ (p : Passes r at) where
      pub element-passes : check_top at t value ≡ accepted
      unfolding faults
      element-passes = then-first (check_top at t value) (faults run_bgp_ls check_top (rest r (at + 4 + n)))
          (sym (ap (faults run_bgp_ls check_top) (rest-whole r at t n f)) ∙ p)

      pub rest-passes : Passes r (at + 4 + n)
      unfolding faults
      rest-passes = then-second (check_top at t value) (faults run_bgp_ls check_top (rest r (at + 4 + n)))
          (sym (ap (faults run_bgp_ls check_top) (rest-whole r at t n f)) ∙ p)

      -- the next 1122 of the set
      pub is-asla : (from : ℕ) → from ≤ at → aslas_from set r at ≡ aslas_from set r from → taken value ≡ true → IsAsla set r from at n
      is-asla from h e k =
          let both = and_l (eqb t 1122 && not_ignored value) (chosen_by set (standard_mask value) (user_mask value)) k in
          let i = eqb-true t 1122 (and_l (eqb t 1122) (not_ignored value) both) in
          let v = sound at t value element-passes i in
          let l = and_r (eqb t 1122) (not_ignored value) both in
          let m = v.masks l in
          let z = length-bytes_at r (at + 4) n f.within in
          let g = v.fixed in
          record {
            behind = h;
            within = f.within;
            fixed = omega arith;
            live = l;
            masks = omega arith;
            inner = (asla-checked at value l (top-asla at t value i ∙ element-passes)).1;
            passes = rest-passes;
            left = sym e ∙ aslas-turn ∙ rw k;
          }

-- ---- the first of a kind

module _ {es rest : List Element} {o t : ℕ} {v : List ℕ} (e : es ≡ element o t v ∷ rest) (k : ℕ) where
  pub first-here : t ≡ k → Some (record { place = o + 4; len = length v }) ≡ found_in (of_kind k (each attributes_of es))
  unfolding found_in of_kind keep attribute each attributes_of
  first-here i = rw (e, eq-eqb k t (sym i)) refl

  pub first-later : (t ≡ k → ⊥) → found_in (of_kind k (each attributes_of rest)) ≡ found_in (of_kind k (each attributes_of es))
  unfolding of_kind keep attribute each attributes_of
  first-later h = rw (e, ne_eqb k t (λ i. h (sym i))) refl

pub first-end : {es : List Element} (k : ℕ) → es ≡ [] → None ≡ found_in (of_kind k (each attributes_of es))
unfolding found_in of_kind keep each
first-end k e = rw e refl
