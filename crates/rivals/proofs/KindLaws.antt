-- What the table of kinds says of its codes, by computing; and the values at the top of a run, which are the link's bandwidths and the RSVP-TE set.
use mathlib.Core.Path.{◌≡◌, refl, sym, ◌∙◌, subst}
use mathlib.Core.Bool.{Bool, true, false, cond, ◌&&◌, ◌||◌, not, false≢true}
use mathlib.Core.List.{List, ◌∷◌, ◌++◌, map, Memᴰ}
use Prim.Native.Nat.{ℕ, ◌+◌, ◌-◌}
use native.Mathlib.Omega.{arith}
use borrow.Author.Tests.{eqb-true, eqb-false, ltb-false, not-true}
use lib.Dec.{eqb, ltb}
use Rattle.linkstate.specs.Lists.{numbers, keep, all, member}
use Rattle.linkstate.specs.Kinds.{Kind, kinds, codes, link_codes, application_codes, is_applications, is_code, is_link_code, has_code, fits, wrong_at_top, wrong_inside}
use Rattle.linkstate.specs.Masks.{user, others}
use Rattle.linkstate.specs.Meaning.{Meaning, row}
use Rattle.linkstate.specs.Export.{top_value}
use Rattle.linkstate.proofs.Computing.{computing}
use Rattle.linkstate.proofs.ListLaws.{and_l, and_r, all-mem, any-no, any-mem, mem-any, mem-map, keep-mem, map_at, map-ext, member-mem, mem-member, mem-numbers, different}

-- ---- computed

pub codes-different : different (1122 ∷ codes) ≡ true
unfolding computing different
codes-different = refl

pub application-codes-different : different application_codes ≡ true
unfolding computing different
application-codes-different = refl

pub others-different : different (0 ∷ others) ≡ true
unfolding computing different
others-different = refl

-- The codes that are written before the 1122s, and those behind.
unfoldable pub low_codes : List ℕ
low_codes = keep (λ k. ltb k 1122) codes

unfoldable pub high_codes : List ℕ
high_codes = keep (λ k. ltb 1122 k) codes

pub low-high : codes ≡ low_codes ++ high_codes
unfolding computing low_codes high_codes
low-high = refl

owned : all (λ k. cond (is_link_code k) (member k link_codes) (member k application_codes)) codes ≡ true
unfolding computing
owned = refl

links : all (λ k. is_link_code k && member k codes) link_codes ≡ true
unfolding computing
links = refl

applications : all (λ k. not (is_link_code k) && member k codes) application_codes ≡ true
unfolding computing
applications = refl

no-asla : all (λ k. not (eqb k 1122)) codes ≡ true
unfolding computing
no-asla = refl

bytes-at-top : all (λ k. eqb k 1096 || wrong_at_top k 0) codes ≡ true
unfolding computing
bytes-at-top = refl

bytes_inside : all (λ k. eqb k 1096 || is_link_code k || wrong_inside k 0) codes ≡ true
unfolding computing
bytes_inside = refl

-- ---- applications

pub standard-other : (n : ℕ) → ltb 63 n ≡ false → eqb n 0 ≡ false → member n others ≡ true
unfolding others
standard-other n h z =
    let l = ltb-false 63 n h in
    let p : 1 + (n - 1) ≡ n = let q : (n ≡ 0 → ⊥) = eqb-false n 0 z in omega arith in
    mem-member (numbers 1 95) (subst (λ (i : ℕ). Memᴰ i (numbers 1 95)) p (mem-numbers 95 1 (n - 1) (omega arith)))

pub user-other : (n : ℕ) → ltb 31 n ≡ false → member (user n) others ≡ true
unfolding others user
user-other n h =
    let l = ltb-false 31 n h in
    let p : 1 + (63 + n) ≡ 64 + n = omega arith in
    mem-member (numbers 1 95) (subst (λ (i : ℕ). Memᴰ i (numbers 1 95)) p (mem-numbers 95 1 (63 + n) (omega arith)))

-- ---- of a code

pub code-mem : (k : ℕ) → is_code k ≡ true → Memᴰ k codes
unfolding is_code codes has_code
code-mem k h =
    let q = any-mem (has_code k) kinds h in
    let e : k ≡ q.0.code = eqb-true k q.0.code q.2 in
    subst (λ (c : ℕ). Memᴰ c (map (λ q. q.code) kinds)) (sym e) (mem-map (λ q. q.code) kinds q.1)

-- A kind other than SRLG is wrong without bytes.
pub top-bytes : {k : ℕ} → Memᴰ k codes → eqb k 1096 ≡ false → wrong_at_top k 0 ≡ true
top-bytes {k} h n = let e = all-mem (λ k. eqb k 1096 || wrong_at_top k 0) codes bytes-at-top h in rw n at e

pub inside-bytes : {k : ℕ} → Memᴰ k codes → eqb k 1096 ≡ false → is_link_code k ≡ false → wrong_inside k 0 ≡ true
inside-bytes {k} h n l = let e = all-mem (λ k. eqb k 1096 || is_link_code k || wrong_inside k 0) codes bytes_inside h in rw (n, l) at e

pub not-asla : {k : ℕ} → Memᴰ k codes → eqb k 1122 ≡ false
not-asla {k} h = not-true (eqb k 1122) (all-mem (λ k. not (eqb k 1122)) codes no-asla h)

pub low-code : {k : ℕ} → Memᴰ k low_codes → Memᴰ k codes
unfolding low_codes
low-code h = (keep-mem (λ k. ltb k 1122) codes h).1

pub high-code : {k : ℕ} → Memᴰ k high_codes → Memᴰ k codes
unfolding high_codes
high-code h = (keep-mem (λ k. ltb 1122 k) codes h).1

pub application-code : {k : ℕ} → Memᴰ k application_codes → (is_link_code k ≡ false) × Memᴰ k codes
application-code {k} h =
    let e = all-mem (λ k. not (is_link_code k) && member k codes) application_codes applications h in
    (not-true (is_link_code k) (and_l (not (is_link_code k)) (member k codes) e), member-mem k codes (and_r (not (is_link_code k)) (member k codes) e))

pub link-code : {k : ℕ} → Memᴰ k link_codes → (is_link_code k ≡ true) × Memᴰ k codes
link-code {k} h =
    let e = all-mem (λ k. is_link_code k && member k codes) link_codes links h in
    (and_l (is_link_code k) (member k codes) e, member-mem k codes (and_r (is_link_code k) (member k codes) e))

pub link-mem : {k : ℕ} → Memᴰ k codes → is_link_code k ≡ true → Memᴰ k link_codes
link-mem {k} h e = let o = all-mem (λ k. cond (is_link_code k) (member k link_codes) (member k application_codes)) codes owned h in member-mem k link_codes (rw e at o)

pub application-mem : {k : ℕ} → Memᴰ k codes → is_link_code k ≡ false → Memᴰ k application_codes
application-mem {k} h e = let o = all-mem (λ k. cond (is_link_code k) (member k link_codes) (member k application_codes)) codes owned h in member-mem k application_codes (rw e at o)

-- A right length at the top of a run is right inside a 1122.
pub right-inside : (c n : ℕ) → wrong_at_top c n ≡ false → wrong_inside c n ≡ false
unfolding wrong_at_top wrong_inside
right-inside c n h = any-no (λ q. has_code c q && not (fits q.bgpls_size n)) (keep is_applications kinds) (λ q k. fine q (keep-mem is_applications kinds k).1)
  where
    fine : (q : Kind) → Memᴰ q kinds → has_code c q && not (fits q.bgpls_size n) ≡ false
    fine q k = go (has_code c q && not (fits q.bgpls_size n)) refl
      where
        go : (b : Bool) → has_code c q && not (fits q.bgpls_size n) ≡ b → b ≡ false
        go true e = absurd (false≢true (sym h ∙ mem-any (λ q. has_code c q && not (fits q.bgpls_size n)) kinds k e))
        go false e = refl

-- ---- the top of a run

module _ (m : Meaning) (g : ℕ → List ℕ) where
  -- Where the bandwidths and the RSVP-TE set are those of g, so are the values at the top, and the other way round.
  pub top_of : map m.bandwidth link_codes ≡ map g link_codes → row m.rsvp_te ≡ row g → (k : ℕ) → Memᴰ k codes → top_value m k ≡ g k
  unfolding top_value row
  top_of e d k h = go (is_link_code k) refl
    where
      go : (b : Bool) → is_link_code k ≡ b → cond b (m.bandwidth k) (m.rsvp_te k) ≡ g k
      go true i = map_at m.bandwidth g link_codes e (link-mem h i)
      go false i = map_at m.rsvp_te g application_codes d (application-mem h i)

  pub bandwidths-of : ((k : ℕ) → Memᴰ k codes → top_value m k ≡ g k) → map m.bandwidth link_codes ≡ map g link_codes
  unfolding top_value
  bandwidths-of h = map-ext m.bandwidth g link_codes (λ k i. let c = link-code i in let e : cond (is_link_code k) (m.bandwidth k) (m.rsvp_te k) ≡ m.bandwidth k = rw c.0 in sym e ∙ h k c.1)

  pub rsvp_te-of : ((k : ℕ) → Memᴰ k codes → top_value m k ≡ g k) → row m.rsvp_te ≡ row g
  unfolding top_value row
  rsvp_te-of h = map-ext m.rsvp_te g application_codes (λ k i. let c = application-code i in let e : cond (is_link_code k) (m.bandwidth k) (m.rsvp_te k) ≡ m.rsvp_te k = rw c.0 in sym e ∙ h k c.1)
