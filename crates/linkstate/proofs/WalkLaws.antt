-- A walk over the elements of a list, in a loop's own terms: what is left at a position, and what one turn does to a check and to a collection.
-- The list s has its first byte at the offset `base` of its run; w is the number of bytes of a type and of a length.
use mathlib.Core.Path.{◌≡◌, refl, sym, ap, ap₂, ◌∙◌}
use mathlib.Core.Bool.{Bool, true, false}
use mathlib.Core.List.{List, [], ◌∷◌, ◌++◌}
use Prim.Native.Nat.{ℕ, ◌+◌, ◌≤◌, ◌<◌}
use native.Mathlib.Omega.{arith}
use native.Mathlib.Nat.{add-zero}
use borrow.Author.Tests.{leb-true, leb-false}
use lib.Dec.{leb}
use lib.ListN.{length, take, drop, get_or, length-drop, drop_of_length-le}
use lib.Seq.{drop-drop, drop-cons}
use Rattle.linkstate.specs.Lists.{each}
use Rattle.linkstate.specs.Bytes.{number, number_from, bytes_at}
use Rattle.linkstate.specs.Replies.{Run, Verdict, accepted, refused, Refusal, fault, ◌then◌, refused_if, fault_of_call}
use Rattle.linkstate.specs.Elements.{Element, element, cut, type_of, length_of, size_of, elements, faults, faults_once}
use Rattle.linkstate.proofs.ElementLaws.{none_left, first-cut, first-whole}

-- What is left at a position.
abbrev pub left : ℕ → ℕ → List ℕ → ℕ → List Element
left w base s at = elements w (base + at) (drop at s)

-- The type and the length of the element at a position.
abbrev pub type_at : ℕ → List ℕ → ℕ → ℕ
type_at w s at = type_of w (drop at s)

abbrev pub length_at : ℕ → List ℕ → ℕ → ℕ
length_at w s at = length_of w (drop at s)

-- In one byte each.
number-one : (l : List ℕ) → number (take 1 l) ≡ get_or l 0 0
unfolding number number_from
number-one [] = refl
number-one (b ∷ bs) = let e : 0 + b ≡ b = omega arith in e

pub type-one : (s : List ℕ) (at : ℕ) → type_at 1 s at ≡ get_or s at 0
unfolding type_of
type-one s at = number-one (drop at s) ∙ lib.Seq.get_or-drop at s 0 0 ∙ ap (λ (i : ℕ). get_or s i 0) (add-zero at)

pub length-one : (s : List ℕ) (at : ℕ) → length_at 1 s at ≡ get_or s (at + 1) 0
unfolding length_of
length-one s at =
    number-one (drop 1 (drop at s)) ∙ ap (λ (l : List ℕ). get_or l 0 0) (drop-drop 1 at s) ∙ lib.Seq.get_or-drop (at + 1) s 0 0 ∙ ap (λ (i : ℕ). get_or s i 0) (add-zero (at + 1))

-- In two bytes each.
pub type-two : (s : List ℕ) (at : ℕ) → type_at 2 s at ≡ number (bytes_at s at 2)
unfolding type_of bytes_at
type-two s at = refl

pub length_two : (s : List ℕ) (at : ℕ) → length_at 2 s at ≡ number (bytes_at s (at + 2) 2)
unfolding length_of bytes_at
length_two s at = ap (λ (l : List ℕ). number (take 2 l)) (drop-drop 2 at s)

module _ (w : ℕ) (p : 0 < w) (base : ℕ) (s : List ℕ) (at : ℕ) where
  pub left_end : length s ≤ at → left w base s at ≡ []
  left_end h = ap (elements w (base + at)) (drop_of_length-le s {i = at} h) ∙ none_left w (base + at)

  -- too short for its header, or past the end
  pub left_cut : at < length s → length s < at + (w + w) + length_at w s at → left w base s at ≡ cut (base + at) ∷ []
  unfolding size_of
  left_cut h g = first-cut w (base + at) (drop at s) (omega (arith, length-drop at s)) (omega (arith, length-drop at s))

  pub left-short : at < length s → length s < at + (w + w) → left w base s at ≡ cut (base + at) ∷ []
  left-short h g = left_cut h (omega arith)

  -- a whole element of n value bytes
  pub left-whole : (n : ℕ) → length_at w s at ≡ n → at + (w + w) + n ≤ length s
      → left w base s at ≡ element (base + at) (type_at w s at) (bytes_at s (at + (w + w)) n) ∷ left w base s (at + (w + w) + n)
  unfolding size_of bytes_at
  left-whole n e h =
      let z : base + at + (w + w + length_at w s at) ≡ base + (at + (w + w) + n) = omega arith in
      let y : at + (w + w + length_at w s at) ≡ at + (w + w) + n = omega arith in
      first-whole w p (base + at) (drop at s) (omega (arith, length-drop at s))
      ∙ ap₂ (λ (v : List ℕ) (es : List Element). element (base + at) (type_at w s at) v ∷ es)
      (ap₂ (λ (k : ℕ) (l : List ℕ). take k l) e (drop-drop (w + w) at s))
      (ap₂ (λ (i : ℕ) (l : List ℕ). elements w i l) z (drop-drop (w + w + length_at w s at) at s ∙ ap (λ (i : ℕ). drop i s) y))

-- ---- a check

-- A check that passes changes nothing, and a refusal stays.
pub then-passed : (v w : Verdict) → v ≡ accepted → (v then w) ≡ w
unfolding ◌then◌
then-passed v w e = rw e

pub then-refused : (v w : Verdict) (r : Refusal) → v ≡ refused r → (v then w) ≡ refused r
unfolding ◌then◌
then-refused v w r e = rw e

-- Two checks are accepted when each is, and a refusal is never acceptance.
pub then-first : (v w : Verdict) → (v then w) ≡ accepted → v ≡ accepted
unfolding ◌then◌
then-first accepted w e = refl
then-first (refused r) w e = e

pub then-second : (v w : Verdict) → (v then w) ≡ accepted → w ≡ accepted
unfolding ◌then◌
then-second accepted w e = e
then-second (refused r) w e = absurd (let z : ◌≡◌ {A = ℕ} 0 1 = cc in omega arith)

pub not-accepted : (n : ℕ) (run : Run) (o : ℕ) → fault n run o ≡ accepted → ⊥
unfolding fault
not-accepted n run o e = let z : ◌≡◌ {A = ℕ} 0 1 = cc in omega arith

-- A test that leads to a refusal did not hold.
pub unrefused : (b : Bool) (n : ℕ) → refused_if b n ≡ accepted → b ≡ false
unfolding refused_if fault_of_call fault
unrefused true n e = absurd (let z : ◌≡◌ {A = ℕ} 0 1 = cc in omega arith)
unrefused false n e = refl

module _ (run : Run) (check : ℕ → ℕ → List ℕ → Verdict) (w : ℕ) (p : 0 < w) (base : ℕ) (s : List ℕ) (at : ℕ) where
  pub faults-end : length s ≤ at → faults run check (left w base s at) ≡ accepted
  unfolding faults
  faults-end h = ap (faults run check) (left_end w p base s at h)

  pub faults-short : at < length s → length s < at + (w + w) → faults run check (left w base s at) ≡ fault 3 run (base + at)
  unfolding faults
  faults-short h g = ap (faults run check) (left-short w p base s at h g)

  pub faults-cut : at < length s → length s < at + (w + w) + length_at w s at → faults run check (left w base s at) ≡ fault 3 run (base + at)
  unfolding faults
  faults-cut h g = ap (faults run check) (left_cut w p base s at h g)

  -- one turn: the element's own check, then the rest
  pub faults-turn : (n : ℕ) → length_at w s at ≡ n → at + (w + w) + n ≤ length s
      → faults run check (left w base s at) ≡ check (base + at) (type_at w s at) (bytes_at s (at + (w + w)) n) then faults run check (left w base s (at + (w + w) + n))
  unfolding faults
  faults-turn n e h = ap (faults run check) (left-whole w p base s at n e h)

  pub faults-pass : (n : ℕ) → length_at w s at ≡ n → at + (w + w) + n ≤ length s → check (base + at) (type_at w s at) (bytes_at s (at + (w + w)) n) ≡ accepted
      → faults run check (left w base s (at + (w + w) + n)) ≡ faults run check (left w base s at)
  faults-pass n e h a = sym (faults-turn n e h ∙ then-passed _ _ a)

  pub faults-stop : (n : ℕ) (r : Refusal) → length_at w s at ≡ n → at + (w + w) + n ≤ length s → check (base + at) (type_at w s at) (bytes_at s (at + (w + w)) n) ≡ refused r
      → refused r ≡ faults run check (left w base s at)
  faults-stop n r e h a = sym (faults-turn n e h ∙ then-refused _ _ r a)

  -- where all is accepted, an element that begins is whole, passes its check, and so does the rest
  pub faults-whole : at < length s → faults run check (left w base s at) ≡ accepted → at + (w + w) + length_at w s at ≤ length s
  faults-whole h a = go (leb (at + (w + w) + length_at w s at) (length s)) refl
    where
      go : (b : Bool) → leb (at + (w + w) + length_at w s at) (length s) ≡ b → at + (w + w) + length_at w s at ≤ length s
      go true e = leb-true (at + (w + w) + length_at w s at) (length s) e
      go false e = absurd (not-accepted 3 run (base + at) (sym (faults-cut h (leb-false (at + (w + w) + length_at w s at) (length s) e)) ∙ a))

  pub faults-passed : (n : ℕ) → length_at w s at ≡ n → at < length s → faults run check (left w base s at) ≡ accepted
      → (at + (w + w) + n ≤ length s) × (check (base + at) (type_at w s at) (bytes_at s (at + (w + w)) n) ≡ accepted) × (faults run check (left w base s (at + (w + w) + n)) ≡ accepted)
  faults-passed n e h a =
      let k : at + (w + w) + n ≤ length s = omega (arith, faults-whole h a) in
      let t : (check (base + at) (type_at w s at) (bytes_at s (at + (w + w)) n) then faults run check (left w base s (at + (w + w) + n))) ≡ accepted = sym (faults-turn n e k) ∙ a in
      (k, then-first _ _ t, then-second _ _ t)

-- E5a. A list that is accepted with its types told apart is accepted without.
pub once-faults : (run : Run) (known : ℕ → Bool) (check : ℕ → ℕ → List ℕ → Verdict) (seen : List ℕ) (es : List Element)
    → faults_once run known check seen es ≡ accepted → faults run check es ≡ accepted
unfolding faults_once faults
once-faults run known check seen [] h = refl
once-faults run known check seen (cut at ∷ es) h = h
once-faults run known check seen (element at t v ∷ es) h =
    let rest = then-second (check at t v) _ h in
    then-passed (check at t v) (faults run check es) (then-first (check at t v) _ h) ∙ once-faults run known check (t ∷ seen) es (then-second _ _ rest)

-- ---- a collection

module _ {A : Type 0} (f : Element → List A) (w : ℕ) (p : 0 < w) (base : ℕ) (s : List ℕ) (at : ℕ) where
  pub each-end : length s ≤ at → each f (left w base s at) ≡ []
  unfolding each
  each-end h = ap (each f) (left_end w p base s at h)

  pub each_turn : (n : ℕ) → length_at w s at ≡ n → at + (w + w) + n ≤ length s
      → each f (left w base s at) ≡ f (element (base + at) (type_at w s at) (bytes_at s (at + (w + w)) n)) ++ each f (left w base s (at + (w + w) + n))
  unfolding each
  each_turn n e h = ap (each f) (left-whole w p base s at n e h)
