-- What is known of an accepted BGP-LS run: each element passed its check, its advertisements are its 1122s that are not ignored,
-- their masks have 0, 4 or 8 bytes, and none has L. Their parts weigh together what the 1122s weigh.
use mathlib.Core.Path.{◌≡◌, refl}
use mathlib.Core.Logic.{◌⊎◌, inl, inr}
use mathlib.Core.Bool.{Bool, true, false, cond, ◌&&◌, not}
use mathlib.Core.List.Memᴰ
use mathlib.Core.List.{List, [], ◌∷◌, ◌++◌, Memᴰ}
use Prim.Native.Nat.{ℕ, ◌+◌, ◌≤◌, zero-le}
use native.Mathlib.Omega.{arith}
use borrow.Author.Tests.{eqb-true, ltb-false}
use lib.Dec.{eqb, ltb}
use lib.ListN.{length, drop, length-drop}
use lib.Seq.{length-take-le}
use Rattle.linkstate.specs.Lists.{each}
use Rattle.linkstate.specs.Limits.{most_in_bgp_ls}
use Rattle.linkstate.specs.Replies.{Run, run_bgp_ls, Verdict, accepted, fault, refused_if}
use Rattle.linkstate.specs.Elements.{Element, element, cut, elements, faults, faults_once}
use Rattle.linkstate.specs.Attributes.{Attribute, attribute}
use Rattle.linkstate.specs.Sides.{Advertisement, names, named, named_with_l, of_live, application_set}
use Rattle.linkstate.specs.Meaning.{Accepted}
use Rattle.linkstate.specs.BgpLs.{sabm_length, udabm_length, asla_header, is_mask_length, not_ignored, inner_elements, check_inner, known_inside, check_asla, check_top, run_verdict, attributes_of, advertisement, advertisements_of, aslas, run_side, run_source}
use Rattle.linkstate.specs.Kinds.{wrong_at_top}
use Rattle.linkstate.proofs.ListLaws.{and_l, and_r, eqb-sym, any-no, each-mem}
use Rattle.linkstate.proofs.WalkLaws.{then-first, then-second, once-faults}
use Rattle.rivals.proofs.Sums.{sum_of, sum_if}
use Rattle.rivals.proofs.Sizes.{not-refused, weight, whole}

-- ---- elements that pass their checks

pub accepted-faults : (r : List ℕ) → Accepted (run_source r) → faults run_bgp_ls check_top (elements 2 0 r) ≡ accepted
unfolding run_source run_verdict
accepted-faults r h = then-second (refused_if (ltb most_in_bgp_ls (length r)) 1) (faults run_bgp_ls check_top (elements 2 0 r)) h

pub faults-mem : (run : Run) (check : ℕ → ℕ → List ℕ → Verdict) (es : List Element) → faults run check es ≡ accepted
    → {at t : ℕ} {v : List ℕ} → Memᴰ (element at t v) es → check at t v ≡ accepted
unfolding faults fault
faults-mem run check [] h i = elim i [ ]
faults-mem run check (cut o ∷ es) h i = not-refused _ h
faults-mem run check (element o u x ∷ es) h {at} {t} {v} i =
    go (Memᴰ.cases_cons i) (λ k. faults-mem run check es (then-second (check o u x) (faults run check es) h) k)
  where
    go : (element at t v ≡ element o u x) ⊎ Memᴰ (element at t v) es → (Memᴰ (element at t v) es → check at t v ≡ accepted) → check at t v ≡ accepted
    go (inl e) f =
        let a : at ≡ o = cc in
        let b : t ≡ u = cc in
        let c : v ≡ x = cc in
        rw (a, b, c) (then-first (check o u x) (faults run check es) h)
    go (inr k) f = f k

-- ---- attributes and advertisements, by their elements

pub attribute-mem : (es : List Element) {t : Attribute} → Memᴰ t (each attributes_of es)
    → (at : ℕ) × (v : List ℕ) × (c : ℕ) × Memᴰ (element at c v) es × (t ≡ attribute 2 at v c v)
unfolding attributes_of
attribute-mem es {t} h = let q = each-mem attributes_of es h in go q.0 q.1 q.2
  where
    go : (e : Element) → Memᴰ e es → Memᴰ t (attributes_of e) → (at : ℕ) × (v : List ℕ) × (c : ℕ) × Memᴰ (element at c v) es × (t ≡ attribute 2 at v c v)
    go (cut at) i k = elim k [ ]
    go (element at c v) i k = (at, v, c, i, Memᴰ.eq_of_singleton k)

pub asla-mem : (es : List Element) {d : Advertisement} → Memᴰ d (each advertisements_of es)
    → (at : ℕ) × (v : List ℕ) × Memᴰ (element at 1122 v) es × (not_ignored v ≡ true) × (d ≡ advertisement at v)
unfolding advertisements_of
asla-mem es {d} h = let q = each-mem advertisements_of es h in go q.0 q.1 q.2
  where
    Found : Type 0
    Found = (at : ℕ) × (v : List ℕ) × Memᴰ (element at 1122 v) es × (not_ignored v ≡ true) × (d ≡ advertisement at v)

    kept : (at t : ℕ) (v : List ℕ) → Memᴰ (element at t v) es → (b : Bool) → eqb t 1122 && not_ignored v ≡ b → Memᴰ d (cond b (advertisement at v ∷ []) []) → Found
    kept at t v i true e k =
        let z : t ≡ 1122 = eqb-true t 1122 (and_l (eqb t 1122) (not_ignored v) e) in
        (at, v, rw z at i, and_r (eqb t 1122) (not_ignored v) e, Memᴰ.eq_of_singleton k)
    kept at t v i false e k = elim k [ ]

    go : (e : Element) → Memᴰ e es → Memᴰ d (advertisements_of e) → Found
    go (cut at) i k = elim k [ ]
    go (element at t v) i k = kept at t v i (eqb t 1122 && not_ignored v) refl k

-- ---- an ASLA that passes its checks

-- Its parts: type, length, mask lengths and reserved bytes; the masks; the inner TLVs.
unfoldable pub asla_weight : Advertisement → ℕ
asla_weight d = 8 + length d.standard_mask + length d.user_mask + sum_of weight d.attributes

-- Of a 1122 that is not ignored: it holds its masks, and its inner elements pass their checks.
pub asla-checked : (at : ℕ) (v : List ℕ) → not_ignored v ≡ true → check_asla at v ≡ accepted
    → (asla_header v ≤ length v) × (faults run_bgp_ls check_inner (inner_elements at v) ≡ accepted)
unfolding check_asla fault
asla-checked at v l h = short (ltb (length v) 4) h
  where
    past : (b : Bool) → ltb (length v) (asla_header v) ≡ b → cond b (fault 3 run_bgp_ls at) (faults_once run_bgp_ls known_inside check_inner [] (inner_elements at v)) ≡ accepted
        → (asla_header v ≤ length v) × (faults run_bgp_ls check_inner (inner_elements at v) ≡ accepted)
    past true e k = not-refused _ k
    past false e k = (ltb-false (length v) (asla_header v) e, once-faults run_bgp_ls known_inside check_inner [] (inner_elements at v) k)

    short : (b : Bool)
        → cond b (fault 3 run_bgp_ls at)
        (cond (not (not_ignored v)) accepted (cond (ltb (length v) (asla_header v)) (fault 3 run_bgp_ls at) (faults_once run_bgp_ls known_inside check_inner [] (inner_elements at v))))
        ≡ accepted → (asla_header v ≤ length v) × (faults run_bgp_ls check_inner (inner_elements at v) ≡ accepted)
    short true k = not-refused _ k
    short false k = past (ltb (length v) (asla_header v)) refl (rw l at k)

module _ (at : ℕ) (v : List ℕ) (h : asla_header v ≤ length v) where
  standard-length : length (advertisement at v).standard_mask ≡ sabm_length v
  unfolding advertisement asla_header
  standard-length = length-take-le (sabm_length v) (drop 4 v) (omega (arith, length-drop 4 v))

  user-length : length (advertisement at v).user_mask ≡ udabm_length v
  unfolding advertisement asla_header
  user-length = length-take-le (udabm_length v) (drop (4 + sabm_length v) v) (omega (arith, length-drop (4 + sabm_length v) v))

  inner-weight : faults run_bgp_ls check_inner (inner_elements at v) ≡ accepted → sum_of weight (advertisement at v).attributes + asla_header v ≡ length v
  unfolding advertisement inner_elements
  inner-weight k = omega (arith, whole run_bgp_ls check_inner (at + 4 + asla_header v) (drop (asla_header v) v) k, length-drop (asla_header v) v)

  asla-weight : faults run_bgp_ls check_inner (inner_elements at v) ≡ accepted → asla_weight (advertisement at v) ≡ 4 + length v
  unfolding asla_weight asla_header
  asla-weight k = omega (arith, standard-length, user-length, inner-weight k)

-- The ASLAs weigh no more than the 1122s.
pub aslas-weight : (es : List Element) → faults run_bgp_ls check_top es ≡ accepted
    → sum_of asla_weight (each advertisements_of es) ≤ sum_if (λ t. eqb 1122 t.code) weight (each attributes_of es)
unfolding faults fault check_top advertisements_of attributes_of attribute weight each sum_of sum_if
aslas-weight [] h = zero-le
aslas-weight (cut at ∷ es) h = not-refused _ h
aslas-weight (element at t v ∷ es) h =
    rw (eqb-sym 1122 t)
    (go (eqb t 1122) (not_ignored v) refl (then-first (check_top at t v) (faults run_bgp_ls check_top es) h) (aslas-weight es (then-second (check_top at t v) (faults run_bgp_ls check_top es) h)))
  where
    others : ℕ
    others = sum_if (λ t. eqb 1122 t.code) weight (each attributes_of es)

    go : (b l : Bool) → not_ignored v ≡ l → cond b (check_asla at v) (cond (wrong_at_top t (length v)) (fault 4 run_bgp_ls at) accepted) ≡ accepted
        → sum_of asla_weight (each advertisements_of es) ≤ others
        → sum_of asla_weight (cond (b && l) (advertisement at v ∷ []) [] ++ each advertisements_of es) ≤ cond b (4 + length v) 0 + others
    go true true e c k = let q = asla-checked at v e c in omega (arith, asla-weight at v q.0 q.1)
    go true false e c k = omega arith
    go false l e c k = omega arith

-- ---- the side of a run

pub masks-fit : (es : List Element) → faults run_bgp_ls check_top es ≡ accepted → {d : Advertisement} → Memᴰ d (each advertisements_of es)
    → (is_mask_length (length d.standard_mask) ≡ true) × (is_mask_length (length d.user_mask) ≡ true)
unfolding check_top not_ignored
masks-fit es h i =
    let q = asla-mem es i in
    let v = q.1 in
    let c = asla-checked q.0 v q.3 (faults-mem run_bgp_ls check_top es h q.2) in
    rw (q.4, standard-length q.0 v c.0, user-length q.0 v c.0)
    (and_l (is_mask_length (sabm_length v)) (is_mask_length (udabm_length v)) q.3, and_r (is_mask_length (sabm_length v)) (is_mask_length (udabm_length v)) q.3)

pub no-L : (r : List ℕ) (a : ℕ) → named_with_l a (run_side r) ≡ false
unfolding named_with_l run_side aslas advertisement
no-L r a = any-no (λ d. d.L && names a d) (each advertisements_of (elements 2 0 r)) (λ d h. let q = asla-mem (elements 2 0 r) h in rw q.4)

-- A named application gets those that name it.
pub named_set : (r : List ℕ) (a : ℕ) → named a (run_side r) ≡ true → application_set a (run_side r) ≡ of_live (names a) (run_side r)
unfolding application_set
named_set r a h = rw (no-L r a, h)
