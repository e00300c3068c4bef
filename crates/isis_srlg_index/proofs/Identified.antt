-- Identifiers that tell a link take ten bytes at least. Assumes nothing.
use mathlib.Core.Path.{◌≡◌, refl, sym, ap, ap₂, ◌∙◌}
use mathlib.Core.Bool.{Bool, true, false, cond, ◌&&◌, ◌||◌, not, false≢true}
use mathlib.Core.List.{List, [], ◌∷◌}
use Prim.Native.Nat.{ℕ, ◌+◌, ◌-◌, ◌≤◌}
use native.Mathlib.Omega.{arith}
use borrow.Author.Tests.{eqb-true}
use lib.Dec.{eqb}
use lib.ListN.{length, drop, take, length-drop, length-take}
use Rattle.linkstate.specs.Lists.{any}
use Rattle.linkstate.specs.Replies.{accepted, fault, run_b}
use Rattle.linkstate.specs.Elements.{Element, element, cut, size_of, length_of, elements, faults}
use Rattle.linkstate.proofs.ElementLaws.{Framed, done, short, step, framed, value-length}
use Rattle.linkstate.proofs.ListLaws.{and_l, and_r}
use Rattle.linkstate.proofs.WalkLaws.{then-first, then-second, not-accepted}
use Rattle.isis.specs.MaskHeader.{l_flag, header_length, mask_too_long, l_for_nobody}
use Rattle.isis.specs.RunB.{identifier, known_identifiers, check_identifier, is_of_type, identifies, repeats, identifiers, identifier_bytes, ignored, live_srlg, after_neighbour, check_b}
use Rattle.isis_check.specs.Identifiers.{once_and_paired}
use Rattle.isis_check.specs.Parts.{parts_verdict}
use Rattle.isis_check.proofs.SrlgLaws.{behind, srlg-parts, tlv-srlg}
use Rattle.isis_tlvs_238.proofs.Tlvs.{whole, after_is}

-- ---- the bytes of elements

bytes : List Element → ℕ
bytes [] = 0
bytes (element at t v ∷ es) = 2 + length v + bytes es
bytes (cut at ∷ es) = bytes es

framed-bytes : {at : ℕ} {s : List ℕ} {es : List Element} → Framed 1 at s es → bytes es ≤ length s
unfolding size_of bytes
framed-bytes done = omega arith
framed-bytes (short l) = omega arith
framed-bytes (step {s = s} l f) = omega (arith, framed-bytes f, value-length 1 s l, length-drop (2 + length_of 1 s) s)

-- ---- identifiers that passed their checks

abbrev Passed : List Element → Type 0
Passed es = faults run_b check_identifier es ≡ accepted

-- The known length of a type.
abbrev Sized : ℕ → ℕ → Type 0
Sized t n = (at : ℕ) (v : List ℕ) → check_identifier at t v ≡ accepted → length v ≡ n

right : (at k n : ℕ) → cond (not (eqb k n) || false) (fault 4 run_b at) accepted ≡ accepted → k ≡ n
right at k n e = go (eqb k n) refl e
  where
    go : (b : Bool) → eqb k n ≡ b → cond (not b || false) (fault 4 run_b at) accepted ≡ accepted → k ≡ n
    go true f g = eqb-true k n f
    go false f g = absurd (not-accepted 4 run_b at g)

sized-4 : Sized 4 8
unfolding check_identifier known_identifiers identifier any
sized-4 at v e = right at (length v) 8 e

sized-6 : Sized 6 4
unfolding check_identifier known_identifiers identifier any
sized-6 at v e = right at (length v) 4 e

sized-8 : Sized 8 4
unfolding check_identifier known_identifiers identifier any
sized-8 at v e = right at (length v) 4 e

sized-12 : Sized 12 16
unfolding check_identifier known_identifiers identifier any
sized-12 at v e = right at (length v) 16 e

module _ (t n : ℕ) (size : Sized t n) where
  here-bytes : (at x : ℕ) (v : List ℕ) → eqb x t ≡ true → check_identifier at x v ≡ accepted → length v ≡ n
  here-bytes at x v e ok = size at v (ap (λ (i : ℕ). check_identifier at i v) (sym (eqb-true x t e)) ∙ ok)

  one-bytes : (es : List Element) → Passed es → any (is_of_type t) es ≡ true → 2 + n ≤ bytes es
  unfolding any is_of_type faults bytes
  one-bytes [] ok h = absurd (false≢true h)
  one-bytes (cut at ∷ es) ok h = absurd (not-accepted 3 run_b at ok)
  one-bytes (element at x v ∷ es) ok h = go (eqb x t) refl h (λ f. one-bytes es (then-second _ _ ok) f)
    where
      go : (b : Bool) → eqb x t ≡ b → b || any (is_of_type t) es ≡ true → (any (is_of_type t) es ≡ true → 2 + n ≤ bytes es) → 2 + n ≤ 2 + length v + bytes es
      go true e f r = omega (arith, here-bytes at x v e (then-first _ _ ok))
      go false e f r = omega (arith, r f)

module _ (t n u m : ℕ) (size : Sized t n) (other : Sized u m) (differ : t ≡ u → ⊥) where
  two_bytes : (es : List Element) → Passed es → any (is_of_type t) es ≡ true → any (is_of_type u) es ≡ true → 4 + n + m ≤ bytes es
  unfolding any is_of_type faults bytes
  two_bytes [] ok h k = absurd (false≢true h)
  two_bytes (cut at ∷ es) ok h k = absurd (not-accepted 3 run_b at ok)
  two_bytes (element at x v ∷ es) ok h k = go (eqb x t) refl (eqb x u) refl h k (λ p q. two_bytes es (then-second _ _ ok) p q)
    where
      rest : Passed es
      rest = then-second _ _ ok

      go : (b : Bool) → eqb x t ≡ b → (c : Bool) → eqb x u ≡ c → b || any (is_of_type t) es ≡ true → c || any (is_of_type u) es ≡ true
          → (any (is_of_type t) es ≡ true → any (is_of_type u) es ≡ true → 4 + n + m ≤ bytes es) → 4 + n + m ≤ 2 + length v + bytes es
      go true e true f p q r = absurd (differ (sym (eqb-true x t e) ∙ eqb-true x u f))
      go true e false f p q r = omega (arith, here-bytes t n size at x v e (then-first _ _ ok), one-bytes u m other es rest q)
      go false e true f p q r = omega (arith, here-bytes u m other at x v f (then-first _ _ ok), one-bytes t n size es rest p)
      go false e false f p q r = omega (arith, r p q)

identified : (es : List Element) → Passed es → identifies es ≡ true → 10 ≤ bytes es
unfolding identifies
identified es ok h = go (any (is_of_type 4) es) refl (any (is_of_type 6) es && any (is_of_type 8) es) refl h
  where
    go : (a : Bool) → any (is_of_type 4) es ≡ a → (b : Bool) → any (is_of_type 6) es && any (is_of_type 8) es ≡ b
        → a || b || (any (is_of_type 12) es && any (is_of_type 13) es) ≡ true → 10 ≤ bytes es
    go true e b f g = one-bytes 4 8 sized-4 es ok e
    go false e true f g =
        omega (
          arith,
          two_bytes 6 4 8 4 sized-6 sized-8 (λ z. omega arith) es ok (and_l (any (is_of_type 6) es) (any (is_of_type 8) es) f)
              (and_r (any (is_of_type 6) es) (any (is_of_type 8) es) f),
        )
    go false e false f g = omega (arith, one-bytes 12 16 sized-12 es ok (and_l (any (is_of_type 12) es) (any (is_of_type 13) es) g))

-- ---- a TLV 238 that passed its checks and is live

lives : (m i : Bool) → not (m || i) ≡ true → (m ≡ false) × (i ≡ false)
lives true i e = absurd (false≢true e)
lives false true e = absurd (false≢true e)
lives false false e = (refl, refl)

identifying : (a b c : Bool) → a || b || not c ≡ false → c ≡ true
identifying true b c e = absurd (false≢true (sym e))
identifying false true c e = absurd (false≢true (sym e))
identifying false false true e = refl
identifying false false false e = absurd (false≢true (sym e))

identifiers-long : (at t : ℕ) (value : List ℕ) → check_b at t value ≡ accepted → t ≡ 238 → live_srlg at (after_neighbour value) ≡ true
    → 10 ≤ identifier_bytes (after_neighbour value)
unfolding identifiers live_srlg ignored parts_verdict
identifiers-long at t value ok is live =
    let v = after_neighbour value in
    let (nine, listed) = whole at t value ok is in
    let (m, i) = lives (mask_too_long v) (ignored v (identifiers at v)) live in
    let inside = listed.listed m in
    let parts : parts_verdict at v ≡ accepted = srlg-parts at value v nine m (omega arith) inside ∙ tlv-srlg at t value is ∙ ok in
    let s = take (identifier_bytes v) (drop (header_length v + 1) v) in
    let few = framed-bytes (framed 1 (omega arith) (at + 2 + 7 + header_length v + 1) s) in
    let long = identified (identifiers at v) (then-first _ _ parts)
    (identifying (l_for_nobody v) (repeats (identifiers at v)) (identifies (identifiers at v)) i) in
    omega (arith, length-take (identifier_bytes v) (drop (header_length v + 1) v))

pub behind-long : (at t : ℕ) (value : List ℕ) → check_b at t value ≡ accepted → t ≡ 238 → 9 ≤ length value → live_srlg at (behind value) ≡ true
    → 10 ≤ identifier_bytes (behind value)
behind-long at t value ok is nine live = rw (after_is value nine) (identifiers-long at t value ok is (rw (after_is value nine) at live))

pub behind-few : (value : List ℕ) → length (behind value) ≤ length value
behind-few value = omega (arith, length-take (length value - 7) (drop 7 value), length-drop 7 value)

-- ---- live by its identifiers

once : (a b : Bool) → not a && b ≡ not (a || not b)
once true b = refl
once false true = refl
once false false = refl

module _ (at : ℕ) (v : List ℕ) where
  pub too_long : mask_too_long v ≡ true → false ≡ live_srlg at v
  unfolding live_srlg
  too_long m = rw m

  -- without L it is live where its masks can be read and its identifiers tell the link
  pub live-told : (r : Bool) (list end : ℕ) → l_flag v ≡ false → mask_too_long v ≡ false → list ≡ header_length v + 1 → end ≡ list + identifier_bytes v
      → ((base : ℕ) → r ≡ once_and_paired (elements 1 base (take (end - list) (drop list v)))) → r ≡ live_srlg at v
  unfolding live_srlg ignored l_for_nobody identifiers
  live-told r list end l m e f g =
      let n : end - list ≡ identifier_bytes v = omega arith in
      let base = at + 2 + 7 + header_length v + 1 in
      let es = elements 1 base (take (identifier_bytes v) (drop (header_length v + 1) v)) in
      g base ∙ ap₂ (λ (i k : ℕ). once_and_paired (elements 1 base (take i (drop k v)))) n e ∙ once (repeats es) (identifies es) ∙ sym (rw (l, m))
