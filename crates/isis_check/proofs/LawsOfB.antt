-- Link identifiers: the code's classification against the definitions, the tally of types, and what a turn of the walk does to both.
use mathlib.Core.Path.{◌≡◌, refl, sym, ap, ◌∙◌, subst}
use mathlib.Core.Bool.{Bool, true, false, cond, ◌&&◌, ◌||◌, not}
use mathlib.Core.List.{List, [], ◌∷◌, map}
use Prim.Native.Nat.{ℕ, zero, suc, pred, ◌+◌, ◌*◌, ◌/◌, ◌%◌, ◌≤◌, ◌<◌}
use native.Mathlib.Omega.{arith}
use borrow.Author.Tests.{eqb-true, ne_eqb, eq-eqb, lt-ltb, le-ltb}
use lib.Dec.{eqb, ltb, leb}
use lib.ListN.{length, drop, length-drop}
use Rattle.linkstate.specs.Lists.{any, count}
use Rattle.linkstate.specs.Replies.{accepted, fault, run_b}
use Rattle.linkstate.specs.Elements.{Element, element, cut, size_of, elements_after, elements, faults}
use Rattle.linkstate.proofs.ElementLaws.{moved, elements-moved}
use Rattle.std.specs.Prelude.{Option, None, Some}
use Rattle.frames.proofs.Walks.{check-passed, check-refused}
use Rattle.isis.specs.RunB.{identifier, known_identifiers, check_identifier, is_of_type, times, repeats, identifies}
use Rattle.isis_check.specs.declared.Known.{Known}
use Rattle.isis_check.specs.Identifiers.{known_of, tally_of, identified_by, identified_in, once_and_paired, identifiers_in}

-- ---- the five types

at-or : (P : ℕ → Type 0) (k : ℕ) → P k → (t : ℕ) → (eqb t k ≡ false → P t) → P t
at-or P k p t f = go (eqb t k) refl
  where
    go : (b : Bool) → eqb t k ≡ b → P t
    go true e = subst P (sym (eqb-true t k e)) p
    go false e = f e

by-type : (P : ℕ → Type 0) → P 4 → P 6 → P 8 → P 12 → P 13
    → ((t : ℕ) → eqb t 4 ≡ false → eqb t 6 ≡ false → eqb t 8 ≡ false → eqb t 12 ≡ false → eqb t 13 ≡ false → P t) → (t : ℕ) → P t
by-type P p4 p6 p8 p12 p13 other t =
    at-or P 4 p4 t (λ n4. at-or P 6 p6 t (λ n6. at-or P 8 p8 t (λ n8. at-or P 12 p12 t (λ n12. at-or P 13 p13 t (λ n13. other t n4 n6 n8 n12 n13)))))

or-false : (b : Bool) → b ≡ b || false
or-false true = refl
or-false false = refl

-- "identifier length (type 4: 8 bytes; 6, 8: 4; 12, 13: 16)".
unfoldable pub wrong_identifier : ℕ → ℕ → Bool
wrong_identifier t n = any (λ q. eqb t q.type && not (eqb n q.len)) known_identifiers

-- The table's lengths by the classification: an unknown type has no wrong one.
abbrev wrong_for : ℕ → Option Known → Bool
wrong_for n None = false
wrong_for n (Some k) = not (eqb n k.length)

by-known : (n t : ℕ) → wrong_identifier t n ≡ wrong_for n (known_of t)
unfolding wrong_identifier known_of any known_identifiers identifier
by-known n =
    by-type (λ t. wrong_identifier t n ≡ wrong_for n (known_of t))
    (sym (or-false (not (eqb n 8)))) (sym (or-false (not (eqb n 4)))) (sym (or-false (not (eqb n 4)))) (sym (or-false (not (eqb n 16)))) (sym (or-false (not (eqb n 16))))
    (λ t n4 n6 n8 n12 n13. simp (n4, n6, n8, n12, n13))

module _ (t n : ℕ) (found : Option Known) (is : found ≡ known_of t) where
  told-by : wrong_identifier t n ≡ wrong_for n found
  told-by = by-known n t ∙ ap (wrong_for n) (sym is)

  pub identifier-unknown : found ≡ None → wrong_identifier t n ≡ false
  identifier-unknown e = told-by ∙ ap (wrong_for n) e

  module _ (k : Known) (e : found ≡ Some k) where
    pub identifier-right : n ≡ k.length → wrong_identifier t n ≡ false
    identifier-right f = told-by ∙ ap (wrong_for n) e ∙ rw (eq-eqb n k.length f)

    pub identifier-wrong : (n ≡ k.length → ⊥) → wrong_identifier t n ≡ true
    identifier-wrong f = told-by ∙ ap (wrong_for n) e ∙ rw (ne_eqb n k.length f)

-- ---- counts

-- What a type weighs, and one more identifier adds that.
abbrev pub weight_of : Option Known → ℕ
weight_of None = 0
weight_of (Some k) = k.weight

tally-element : (o : ℕ) (v : List ℕ) (es : List Element) (t : ℕ) → tally_of (element o t v ∷ es) ≡ weight_of (known_of t) + tally_of es
unfolding tally_of times count is_of_type known_of
tally-element o v es =
    by-type (λ t. tally_of (element o t v ∷ es) ≡ weight_of (known_of t) + tally_of es)
    (omega arith) (omega arith) (omega arith) (omega arith) (omega arith)
    (λ t n4 n6 n8 n12 n13. simp (n4, n6, n8, n12, n13) (omega arith))

pub tally-nil : tally_of [] ≡ 0
unfolding tally_of times count
tally-nil = refl

count-le : {A : Type 0} (p : A → Bool) (xs : List A) → count p xs ≤ length xs
unfolding count
count-le p [] = omega arith
count-le p (x ∷ xs) = go (p x) (count-le p xs)
  where
    go : (b : Bool) → count p xs ≤ length xs → cond b (suc (count p xs)) (count p xs) ≤ suc (length xs)
    go true h = omega arith
    go false h = omega arith

any-count : {A : Type 0} (p : A → Bool) (xs : List A) → any p xs ≡ ltb 0 (count p xs)
unfolding any count
any-count p [] = refl
any-count p (x ∷ xs) = go (p x) (any-count p xs)
  where
    go : (b : Bool) → any p xs ≡ ltb 0 (count p xs) → b || any p xs ≡ ltb 0 (cond b (suc (count p xs)) (count p xs))
    go true h = sym (lt-ltb 0 (suc (count p xs)) (omega arith))
    go false h = h

-- Where a list of elements begins does not change its tally.
count-moved : (k d : ℕ) (es : List Element) → count (is_of_type k) (map (moved d) es) ≡ count (is_of_type k) es
unfolding count is_of_type moved
count-moved k d [] = refl
count-moved k d (element at t v ∷ es) = ap (λ (n : ℕ). cond (eqb t k) (suc n) n) (count-moved k d es)
count-moved k d (cut at ∷ es) = count-moved k d es

tally-anywhere : (at : ℕ) (s : List ℕ) → tally_of (elements 1 at s) ≡ tally_of (elements 1 0 s)
unfolding tally_of times
tally-anywhere at s =
    let z : at ≡ at + 0 = omega arith in
    ap (λ (i : ℕ). tally_of (elements 1 i s)) z
    ∙ ap tally_of (elements-moved 1 at 0 s)
    ∙ simp (count-moved 4 at (elements 1 0 s), count-moved 6 at (elements 1 0 s), count-moved 8 at (elements 1 0 s), count-moved 12 at (elements 1 0 s), count-moved 13 at (elements 1 0 s))

-- There are no more elements than bytes.
elements-after-le : (w at k : ℕ) (s : List ℕ) → length (elements_after w at k s) ≤ length s
unfolding elements_after
elements-after-le w at k [] = omega arith
elements-after-le w at (suc k) (b ∷ bs) = omega (arith, elements-after-le w (suc at) k bs)
elements-after-le w at zero (b ∷ bs) = go _ (leb (size_of w (b ∷ bs)) (length (b ∷ bs))) (elements-after-le w (suc at) (pred (size_of w (b ∷ bs))) bs)
  where
    go : (e : Element) (t : Bool) → length (elements_after w (suc at) (pred (size_of w (b ∷ bs))) bs) ≤ length bs
        → length (cond t (e ∷ elements_after w (suc at) (pred (size_of w (b ∷ bs))) bs) (cut at ∷ [])) ≤ suc (length bs)
    go e true h = omega arith
    go e false h = omega arith

times-le : (k at : ℕ) (s : List ℕ) → times k (elements 1 at s) ≤ length s
unfolding times elements
times-le k at s = omega (arith, count-le (is_of_type k) (elements_after 1 at 0 s), elements-after-le 1 at 0 s)

-- A tally of a short list is small.
pub tally-small : (at : ℕ) (s : List ℕ) → length s < 256 → tally_of (elements 1 at s) < 1099511627776
unfolding tally_of
tally-small at s h = omega (arith, times-le 4 at s, times-le 6 at s, times-le 8 at s, times-le 12 at s, times-le 13 at s)

-- ---- what a tally says

-- The digits of a tally are the counts.
module _ (a b c d e n : ℕ) (is : n ≡ a + 256 * b + 65536 * c + 16777216 * d + 4294967296 * e) (small : (a < 256) × (b < 256) × (c < 256) × (d < 256) × (e < 256)) where
  digits : identified_in n ≡ identified_by a b c d e
  digits =
      let qb : n / 256 ≡ b + 256 * c + 65536 * d + 16777216 * e = omega arith in
      let qc : n / 65536 ≡ c + 256 * d + 65536 * e = omega arith in
      let qd : n / 16777216 ≡ d + 256 * e = omega arith in
      let qe : n / 4294967296 ≡ e = omega arith in
      let za : n % 256 ≡ a = omega arith in
      let zb : n / 256 % 256 ≡ b = rw qb (omega arith) in
      let zc : n / 65536 % 256 ≡ c = rw qc (omega arith) in
      let zd : n / 16777216 % 256 ≡ d = rw qd (omega arith) in
      let ze : n / 4294967296 % 256 ≡ e = rw qe (omega arith) in
      rw (za, zb, zc, zd, ze)

-- By the counts of its types a list repeats one, or identifies the link.
counts-say : (es : List Element) → identified_by (times 4 es) (times 6 es) (times 8 es) (times 12 es) (times 13 es) ≡ not (repeats es) && identifies es
unfolding identified_by repeats identifies times known_identifiers identifier any
counts-say es =
    rw (any-count (is_of_type 4) es, any-count (is_of_type 6) es, any-count (is_of_type 8) es, any-count (is_of_type 12) es, any-count (is_of_type 13) es, ← or-false (ltb 1 (count (is_of_type 13) es)))

-- A short list's tally says whether it identifies the link, wherever it begins.
pub tally-says : (s : List ℕ) (n : ℕ) → length s < 256 → n ≡ tally_of (elements 1 0 s) → (base : ℕ) → identified_in n ≡ once_and_paired (elements 1 base s)
unfolding tally_of
tally-says s n h e base =
    digits (times 4 (elements 1 base s)) (times 6 (elements 1 base s)) (times 8 (elements 1 base s)) (times 12 (elements 1 base s)) (times 13 (elements 1 base s)) n (e ∙ sym (tally-anywhere base s))
    (omega (arith, times-le 4 base s), omega (arith, times-le 6 base s), omega (arith, times-le 8 base s), omega (arith, times-le 12 base s), omega (arith, times-le 13 base s))
    ∙ counts-say (elements 1 base s)

-- Where no type is there twice, sums tell the pairs.
both : (b c : ℕ) → b ≤ 1 → c ≤ 1 → (ltb 0 b && ltb 0 c) ≡ eqb (b + c) 2
both zero c h g = rw (ne_eqb (0 + c) 2 (λ e. omega arith))
both (suc b) zero h g = rw (lt-ltb 0 (suc b) (omega arith), ne_eqb (suc b + 0) 2 (λ e. omega arith))
both (suc b) (suc c) h g = rw (lt-ltb 0 (suc b) (omega arith), lt-ltb 0 (suc c) (omega arith), eq-eqb (suc b + suc c) 2 (omega arith))

some : (a : ℕ) → a ≤ 1 → ltb 0 a ≡ eqb a 1
some zero h = refl
some (suc a) h = rw (lt-ltb 0 (suc a) (omega arith), eq-eqb (suc a) 1 (omega arith))

pub once : (a b c d e : ℕ) → a ≤ 1 → b ≤ 1 → c ≤ 1 → d ≤ 1 → e ≤ 1 → identified_by a b c d e ≡ eqb a 1 || eqb (b + c) 2 || eqb (d + e) 2
unfolding identified_by
once a b c d e ha hb hc hd he =
    rw (le-ltb 1 a ha, le-ltb 1 b hb, le-ltb 1 c hc, le-ltb 1 d hd, le-ltb 1 e he, some a ha, both b c hb hc, both d e hd he)

-- ---- one turn of a walk

module _ {es : List Element} where
  pub tally-cut : {at : ℕ} {rest : List Element} → es ≡ cut at ∷ rest → tally_of es ≡ tally_of rest
  unfolding tally_of times count is_of_type
  tally-cut e = ap tally_of e

  pub tally-end : es ≡ [] → tally_of es ≡ 0
  tally-end e = ap tally_of e ∙ tally-nil

  module _ {at t : ℕ} {v : List ℕ} {rest : List Element} (e : es ≡ element at t v ∷ rest) where
    -- the type's weight, and what is left behind it
    pub tally-turn : (found : Option Known) → found ≡ known_of t → tally_of es ≡ weight_of found + tally_of rest
    tally-turn found is = ap tally_of e ∙ tally-element at v rest t ∙ ap (λ (k : Option Known). weight_of k + tally_of rest) (sym is)

    -- the length of this identifier
    identifier-check : (b : Bool) → wrong_identifier t (length v) ≡ b → check_identifier at t v ≡ cond b (fault 4 run_b at) accepted
    unfolding check_identifier wrong_identifier
    identifier-check b w = rw w

    pub identifier-on : wrong_identifier t (length v) ≡ false → faults run_b check_identifier rest ≡ faults run_b check_identifier es
    identifier-on w = check-passed run_b check_identifier e (identifier-check false w)

    pub identifier-stop : wrong_identifier t (length v) ≡ true → fault 4 run_b at ≡ faults run_b check_identifier es
    unfolding fault
    identifier-stop w = check-refused run_b check_identifier e _ (identifier-check true w)

-- ---- the identifiers that stand from a place on

module _ (s : List ℕ) (from : ℕ) (short : length s < from + 256) where
  few : from ≤ length s → length (drop from s) < 256
  few h = omega (arith, length-drop from s)

  pub tally-fits : from ≤ length s → tally_of (identifiers_in s from) < 1099511627776
  tally-fits h = tally-small from (drop from s) (few h)

  -- their tally says whether they identify the link
  pub tally-tells : from ≤ length s → (n : ℕ) → n ≡ tally_of (identifiers_in s from) → identified_in n ≡ once_and_paired (identifiers_in s from)
  tally-tells h n e = tally-says (drop from s) n (few h) (e ∙ tally-anywhere from (drop from s)) from
