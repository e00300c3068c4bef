-- The masks of 1122s joined, against the applications that are named.
use mathlib.Core.Path.{◌≡◌, refl, sym, ap, ap₂, ◌∙◌}
use mathlib.Core.Bool.{Bool, true, false, ◌&&◌, ◌||◌, not, and-true, and-false, or-false, or_assoc}
use mathlib.Core.List.{List, [], ◌∷◌}
use Prim.Native.Nat.{ℕ, zero, suc, ◌+◌, ◌-◌, ◌^◌, ◌≤◌, ◌<◌}
use native.Mathlib.Omega.{arith}
use native.Mathlib.Nat.{div-eq_of_lt}
use borrow.Author.Tests.{le-ltb, eqb-true, ne_eqb}
use lib.Dec.{eqb}
use lib.ListN.{length, take, drop}
use Rattle.linkstate.specs.Lists.{keep, each, any, member}
use Rattle.linkstate.specs.Masks.{user, in_masks, as_number, in_number, others}
use Rattle.linkstate.specs.Elements.{Element, element, elements}
use Rattle.linkstate.specs.Sides.{names, named}
use Rattle.linkstate.specs.BgpLs.{sabm_length, udabm_length, is_mask_length, asla_header, not_ignored, advertisement, advertisements_of, aslas, run_side, run_source}
use Rattle.masks.proofs.Laws.{is_number}
use Rattle.linkstate.proofs.ListLaws.{and_l, and_r}
use Rattle.rivals.proofs.KindLaws.{standard-other}
use Rattle.linkstate.proofs.Retired.{none-retired, user-among}
use Rattle.bgpls_find.specs.declared.Set.TheVariants.{Every}
use Rattle.bgpls_find.specs.Sets.{chosen_by}
use Rattle.bgpls_find.proofs.Laws.{Taken}
use Rattle.bgpls_find.specs.Walks.{standard_mask, user_mask, Sound}
use Rattle.masks.specs.declared.Applications.{Applications}
use Rattle.masks.specs.Applications.{in_set, at_place}
use Rattle.masks.proofs.Sets.{place-low, place-high, set-none}

-- ---- one 1122

pub mask-small : (n : ℕ) → is_mask_length n ≡ true → n ≤ 8
unfolding is_mask_length
mask-small n = go (eqb n 0) refl (eqb n 4) refl (eqb n 8) refl
  where
    go : (a : Bool) → eqb n 0 ≡ a → (b : Bool) → eqb n 4 ≡ b → (c : Bool) → eqb n 8 ≡ c → a || b || c ≡ true → n ≤ 8
    go true e b f c g h = omega (arith, eqb-true n 0 e)
    go false e true f c g h = omega (arith, eqb-true n 4 f)
    go false e false f true g h = omega (arith, eqb-true n 8 g)
    go false e false f false g h = absurd (let z : ◌≡◌ {A = ℕ} 0 1 = cc in omega arith)

pub standard-small : (v : List ℕ) → not_ignored v ≡ true → sabm_length v ≤ 8
unfolding not_ignored
standard-small v h = mask-small (sabm_length v) (and_l (is_mask_length (sabm_length v)) (is_mask_length (udabm_length v)) h)

pub user-small : (v : List ℕ) → not_ignored v ≡ true → udabm_length v ≤ 8
unfolding not_ignored
user-small v h = mask-small (udabm_length v) (and_r (is_mask_length (sabm_length v)) (is_mask_length (udabm_length v)) h)

-- The masks as they are read.
pub masks-read : (v : List ℕ) (s u : ℕ) (m j : Applications) → s ≡ sabm_length v → u ≡ udabm_length v
    → ((n : ℕ) → in_set j n ≡ in_set m n || in_masks (take s (drop 4 v)) (take u (drop (4 + s) v)) n)
    → (n : ℕ) → in_set j n ≡ in_set m n || in_masks (standard_mask v) (user_mask v) n
unfolding standard_mask user_mask
masks-read v s u m j e f h n = h n ∙ ap₂ (λ (x y : ℕ). in_set m n || in_masks (take x (drop 4 v)) (take y (drop (4 + x) v)) n) e f

-- ---- with what is left

-- The set holds what is named by the elements before: with what those that are left name, that is all.
abbrev pub Held : Applications → List ℕ → List Element → Type 0
Held m r es = (n : ℕ) → in_set m n || any (names n) (each advertisements_of es) ≡ any (names n) (aslas r)

pub held_start : {es : List Element} (r : List ℕ) (m : Applications) → es ≡ elements 2 0 r → ((p : ℕ) → at_place m p ≡ false) → Held m r es
unfolding aslas
held_start r m e h n = rw (set-none m h n, e)

pub held-end : {es : List Element} (r : List ℕ) (m : Applications) → Held m r es → es ≡ [] → (n : ℕ) → in_set m n ≡ any (names n) (aslas r)
unfolding any each
held-end r m held e n = sym (or-false (in_set m n)) ∙ ap (λ (es : List Element). in_set m n || any (names n) (each advertisements_of es)) (sym e) ∙ held n

-- A 1122's masks, by its value.
masks-name : (at : ℕ) (v : List ℕ) (n : ℕ) → names n (advertisement at v) ≡ in_masks (standard_mask v) (user_mask v) n
unfolding names advertisement standard_mask user_mask
masks-name at v n = refl

every : (t : ℕ) (v : List ℕ) → Taken Every t v ≡ eqb t 1122 && not_ignored v
unfolding chosen_by
every t v = and-true (eqb t 1122 && not_ignored v)

-- A 1122 that is not ignored has room for its masks.
pub record Room (v : List ℕ) : Type 0 where
  pub fixed : 4 ≤ length v
  pub live : not_ignored v ≡ true
  pub masks : asla_header v ≤ length v

pub room : (t : ℕ) (v : List ℕ) → (t ≡ 1122 → Sound v) → Taken Every t v ≡ true → Room v
room t v sound h =
    let k = sym (every t v) ∙ h in
    let s = sound (eqb-true t 1122 (and_l (eqb t 1122) (not_ignored v) k)) in
    let l = and_r (eqb t 1122) (not_ignored v) k in
    record { fixed = s.fixed; live = l; masks = s.masks l }

-- At an element that is no 1122 which is not ignored, and at one that is.
module _ {es rest : List Element} {o t : ℕ} {v : List ℕ} (r : List ℕ) (m : Applications) (held : Held m r es) (e : es ≡ element o t v ∷ rest) where
  pub held-skip : Taken Every t v ≡ false → Held m r rest
  unfolding each advertisements_of
  held-skip h n =
      let k : eqb t 1122 && not_ignored v ≡ false = sym (every t v) ∙ h in
      sym (ap (λ (es : List Element). in_set m n || any (names n) (each advertisements_of es)) e ∙ rw k) ∙ held n

  pub held_next : Taken Every t v ≡ true → (j : Applications) → ((n : ℕ) → in_set j n ≡ in_set m n || in_masks (standard_mask v) (user_mask v) n) → Held j r rest
  unfolding each advertisements_of any
  held_next h j both n =
      let k : eqb t 1122 && not_ignored v ≡ true = sym (every t v) ∙ h in
      ap (λ (z : Bool). z || any (names n) (each advertisements_of rest)) (both n ∙ ap (λ (z : Bool). in_set m n || z) (sym (masks-name o v n)))
      ∙ or_assoc (in_set m n) (names n (advertisement o v)) (any (names n) (each advertisements_of rest))
      ∙ sym (ap (λ (es : List Element). in_set m n || any (names n) (each advertisements_of es)) e ∙ rw k)
      ∙ held n

-- ---- all of them, RSVP-TE apart

rsvp_te-apart : member 0 others ≡ false
unfolding member others Rattle.linkstate.specs.Lists.numbers
rsvp_te-apart = refl

in_one : (n : ℕ) → in_number 1 n ≡ eqb n 0
unfolding in_number
in_one zero = refl
in_one (suc n) = rw (div-eq_of_lt (big n)) (sym (ne_eqb (suc n) 0 (λ e. omega arith)))
  where
    big : (n : ℕ) → 1 < 2 ^ suc n
    big zero = omega arith
    big (suc n) = let h = big n in omega (arith, Prim.Native.Nat.pow.suc 2 (suc n))

module _ (r : List ℕ) (m by : Applications) (held : (n : ℕ) → in_set m n ≡ any (names n) (aslas r)) (turned : (n : ℕ) → at_place by n ≡ in_set m n) where
  pub names-standard : (w : ℕ) → w < 2 ^ 64 → ((n : ℕ) → in_number w n ≡ in_number by.standard n && not (in_number 1 n)) → w ≡ as_number (run_source r).names
  unfolding run_source named run_side
  names-standard w l e =
      is_number w (run_source r).names l (λ k h.
      e k ∙ ap₂ (λ (x y : Bool). x && not y) (sym (place-low by k h) ∙ turned k ∙ held k) (in_one k) ∙ go k h (eqb k 0) refl)
    where
      go : (k : ℕ) → k < 64 → (b : Bool) → eqb k 0 ≡ b → (any (names k) (aslas r) && not b) ≡ (member k others && any (names k) (aslas r))
      go k h true f =
          and-false (any (names k) (aslas r))
          ∙ sym (ap (λ (i : ℕ). member i others && any (names i) (aslas r)) (eqb-true k 0 f) ∙ rw rsvp_te-apart)
      go k h false f = and-true (any (names k) (aslas r)) ∙ rw (standard-other k (le-ltb 63 k (omega arith)) f)

  pub names-user : by.user < 2 ^ 64 → by.user ≡ as_number (λ n. (run_source r).names (user n))
  unfolding run_source named run_side user
  names-user l =
      is_number by.user (λ n. (run_source r).names (64 + n)) l (λ k h.
      sym (place-high by k) ∙ turned (64 + k) ∙ held (64 + k)
      ∙ sym (user-among k (any (names (64 + k)) (aslas r)) (λ l. none-retired (64 + k) (omega arith) (aslas r))))
