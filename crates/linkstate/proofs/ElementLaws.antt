-- Laws on the elements of a run that any walk needs, over w, the number of bytes of a type and of a length:
-- what one step of a walk sees, a view of all steps (`framed`), and that each value stands in the run at its place (`at-place`).
use mathlib.Core.Path.{◌≡◌, refl, sym, ap, ◌∙◌}
use mathlib.Core.Logic.{◌⊎◌, inl, inr}
use mathlib.Core.Bool.{Bool, true, false, cond}
use mathlib.Core.List.Memᴰ
use mathlib.Core.List.{List, [], ◌∷◌, ◌++◌, map, Memᴰ}
use Prim.Native.Nat.{ℕ, zero, suc, pred, ◌+◌, ◌≤◌, ◌<◌}
use native.Mathlib.Omega.{arith}
use borrow.Author.Tests.{le-leb, lt-leb, leb-true, leb-false}
use lib.Dec.{leb}
use lib.ListN.{length, take, drop, length-drop, take-append-drop}
use lib.Seq.{drop-nil, drop-drop, take-append-le, drop-append-le, length-take-le, take-length}
use Rattle.linkstate.specs.Bytes.{bytes_at}
use Rattle.linkstate.specs.Elements.{Element, element, cut, type_of, length_of, size_of, elements_after, elements}

-- ---- one step

module _ (w : ℕ) where
  -- What is passed over is dropped.
  pub skip : (at k : ℕ) (s : List ℕ) → elements_after w at k s ≡ elements w (at + k) (drop k s)
  unfolding elements_after elements
  skip at k [] = rw drop-nil
  skip at zero (b ∷ bs) = let z : at ≡ at + 0 = omega arith in ap (λ (i : ℕ). elements_after w i 0 (b ∷ bs)) z
  skip at (suc k) (b ∷ bs) = let z : suc at + k ≡ at + suc k = omega arith in skip (suc at) k bs ∙ ap (λ (i : ℕ). elements_after w i 0 (drop k bs)) z

  -- The end: no bytes, no elements.
  pub none_left : (at : ℕ) → elements w at [] ≡ []
  unfolding elements elements_after
  none_left at = refl

  -- An element that runs past the end, or is too short for its header.
  pub first-cut : (at : ℕ) (s : List ℕ) → 0 < length s → length s < size_of w s → elements w at s ≡ cut at ∷ []
  unfolding elements elements_after
  first-cut at [] h g = absurd (omega arith)
  first-cut at (b ∷ bs) h g = rw (lt-leb (size_of w (b ∷ bs)) (length (b ∷ bs)) g)

  -- A whole element, and those behind it.
  pub first-whole : 0 < w → (at : ℕ) (s : List ℕ) → size_of w s ≤ length s
      → elements w at s ≡ element at (type_of w s) (take (length_of w s) (drop (w + w) s)) ∷ elements w (at + size_of w s) (drop (size_of w s) s)
  unfolding elements elements_after size_of
  first-whole p at [] h = absurd (omega arith)
  first-whole p at (b ∷ bs) h =
      rw (le-leb (w + w + length_of w (b ∷ bs)) (length (b ∷ bs)) h)
      (ap (λ (es : List Element). element at (type_of w (b ∷ bs)) (take (length_of w (b ∷ bs)) (drop (w + w) (b ∷ bs))) ∷ es)
      (skip (suc at) (pred (w + w + length_of w (b ∷ bs))) bs ∙ behind (w + w + length_of w (b ∷ bs)) (omega arith)))
    where
      behind : (n : ℕ) → 0 < n → elements w (suc at + pred n) (drop (pred n) bs) ≡ elements w (at + n) (drop n (b ∷ bs))
      behind zero q = absurd (omega arith)
      behind (suc n) q = let z : suc at + n ≡ at + suc n = omega arith in ap (λ (i : ℕ). elements w i (drop n bs)) z

-- ---- all steps

-- How the bytes s, whose first is at an offset, fall into elements: the steps of `elements`, for proofs that go by them.
pub data Framed (w : ℕ) : ℕ → List ℕ → List Element → Type 0 where
  done : {at : ℕ} → Framed w at [] []
  short : {at : ℕ} {s : List ℕ} → length s < size_of w s → Framed w at s (cut at ∷ [])
  step : {at : ℕ} {s : List ℕ} {es : List Element} → size_of w s ≤ length s → Framed w (at + size_of w s) (drop (size_of w s) s) es
      → Framed w at s (element at (type_of w s) (take (length_of w s) (drop (w + w) s)) ∷ es)

module _ (w : ℕ) (p : 0 < w) where
  -- One step, where the view is had for what is behind it.
  framed-step : (n at : ℕ) (s : List ℕ) → length s < suc n → ((i : ℕ) (s : List ℕ) → length s < n → Framed w i s (elements w i s)) → Framed w at s (elements w at s)
  unfolding size_of
  framed-step n at [] h f = rw (none_left w at) done
  framed-step n at (b ∷ bs) h f = go (leb (w + w + length_of w (b ∷ bs)) (length (b ∷ bs))) refl
    where
      go : (t : Bool) → leb (w + w + length_of w (b ∷ bs)) (length (b ∷ bs)) ≡ t → Framed w at (b ∷ bs) (elements w at (b ∷ bs))
      go true e =
          let k : size_of w (b ∷ bs) ≤ length (b ∷ bs) = leb-true (w + w + length_of w (b ∷ bs)) (length (b ∷ bs)) e in
          rw (first-whole w p at (b ∷ bs) k)
          (step k (f (at + size_of w (b ∷ bs)) (drop (size_of w (b ∷ bs)) (b ∷ bs)) (omega (arith, length-drop (size_of w (b ∷ bs)) (b ∷ bs)))))
      go false e =
          let k : length (b ∷ bs) < size_of w (b ∷ bs) = leb-false (w + w + length_of w (b ∷ bs)) (length (b ∷ bs)) e in
          rw (first-cut w at (b ∷ bs) (omega arith) k) (short k)

  framed-in : (n at : ℕ) (s : List ℕ) → length s < n → Framed w at s (elements w at s)
  framed-in zero at s h = absurd (omega arith)
  framed-in (suc n) at s h = framed-step n at s h (λ i r k. framed-in n i r k)

  pub framed : (at : ℕ) (s : List ℕ) → Framed w at s (elements w at s)
  framed at s = framed-in (suc (length s)) at s (omega arith)

-- The value of a whole element has the length that its header says.
pub value-length : (w : ℕ) (s : List ℕ) → size_of w s ≤ length s → length (take (length_of w s) (drop (w + w) s)) ≡ length_of w s
unfolding size_of
value-length w s h = length-take-le (length_of w s) (drop (w + w) s) (omega (arith, length-drop (w + w) s))

-- ---- places

-- A part of what stands in a run stands there too.
pub part-place : (run : List ℕ) (at n m : ℕ) (s : List ℕ) → bytes_at run at (length s) ≡ s → n + m ≤ length s → bytes_at run (at + n) m ≡ take m (drop n s)
unfolding bytes_at
part-place run at n m s e h =
    let rest = drop (length s) (drop at run) in
    let split : drop at run ≡ s ++ rest = sym (take-append-drop (length s) (drop at run)) ∙ ap (λ (l : List ℕ). l ++ rest) e in
    sym (ap (take m) (drop-drop n at run))
    ∙ ap (λ (l : List ℕ). take m (drop n l)) split
    ∙ ap (take m) (drop-append-le n s rest (omega arith))
    ∙ take-append-le m (drop n s) rest (omega (arith, length-drop n s))

pub rest-place : (run : List ℕ) (at n : ℕ) (s : List ℕ) → bytes_at run at (length s) ≡ s → n ≤ length s → bytes_at run (at + n) (length (drop n s)) ≡ drop n s
rest-place run at n s e h = part-place run at n (length (drop n s)) s e (omega (arith, length-drop n s)) ∙ take-length (drop n s)

place_in : {w at : ℕ} {s : List ℕ} {es : List Element} → Framed w at s es → (run : List ℕ) → bytes_at run at (length s) ≡ s
    → (o t : ℕ) (v : List ℕ) → Memᴰ (element o t v) es → bytes_at run (o + (w + w)) (length v) ≡ v
unfolding size_of
place_in done run e o t v h = elim h [ ]
place_in {w = w} (short l) run e o t v h = other (Memᴰ.cases_cons h)
  where
    other : {at : ℕ} → (element o t v ≡ cut at) ⊎ Memᴰ (element o t v) [] → bytes_at run (o + (w + w)) (length v) ≡ v
    other (inl d) = let z : ◌≡◌ {A = ℕ} 0 1 = cc in absurd (omega arith)
    other (inr d) = elim d [ ]
place_in {w = w} (step {at = at} {s = s} {es = es} l f) run e o t v h = go (Memᴰ.cases_cons h) (λ k i. place_in f run k o t v i)
  where
    value : List ℕ
    value = take (length_of w s) (drop (w + w) s)

    go : (element o t v ≡ element at (type_of w s) value) ⊎ Memᴰ (element o t v) es
        → (bytes_at run (at + size_of w s) (length (drop (size_of w s) s)) ≡ drop (size_of w s) s → Memᴰ (element o t v) es → bytes_at run (o + (w + w)) (length v) ≡ v)
        → bytes_at run (o + (w + w)) (length v) ≡ v
    go (inl d) r =
        let i : o ≡ at = cc in
        let j : v ≡ value = cc in
        let n : length value ≡ length_of w s = value-length w s l in
        rw (i, j, n) (part-place run at (w + w) (length_of w s) s e l)
    go (inr d) r = r (rest-place run at (size_of w s) s e l) d

-- The place law: where s stands in a run at an offset, so does the value of each of its elements, w + w bytes behind the element's first byte.
pub at-place : (w : ℕ) → 0 < w → (run : List ℕ) (at : ℕ) (s : List ℕ) → bytes_at run at (length s) ≡ s
    → (o t : ℕ) (v : List ℕ) → Memᴰ (element o t v) (elements w at s) → bytes_at run (o + (w + w)) (length v) ≡ v
at-place w p run at s e o t v i = place_in (framed w p at s) run e o t v i

-- ---- offsets

-- The same element d bytes further on.
unfoldable pub moved : ℕ → Element → Element
moved d (element at t v) = element (d + at) t v
moved d (cut at) = cut (d + at)

moved-after : (w d at k : ℕ) (s : List ℕ) → elements_after w (d + at) k s ≡ map (moved d) (elements_after w at k s)
unfolding elements_after moved
moved-after w d at k [] = refl
moved-after w d at (suc k) (b ∷ bs) = let z : suc (d + at) ≡ d + suc at = omega arith in ap (λ (i : ℕ). elements_after w i k bs) z ∙ moved-after w d (suc at) k bs
moved-after w d at zero (b ∷ bs) = go (leb (size_of w (b ∷ bs)) (length (b ∷ bs))) (ap (λ (i : ℕ). elements_after w i n bs) z ∙ moved-after w d (suc at) n bs)
  where
    n : ℕ
    n = pred (size_of w (b ∷ bs))

    z : suc (d + at) ≡ d + suc at
    z = omega arith

    first : ℕ → Element
    first i = element i (type_of w (b ∷ bs)) (take (length_of w (b ∷ bs)) (drop (w + w) (b ∷ bs)))

    go : (t : Bool) → elements_after w (suc (d + at)) n bs ≡ map (moved d) (elements_after w (suc at) n bs)
        → cond t (first (d + at) ∷ elements_after w (suc (d + at)) n bs) (cut (d + at) ∷ []) ≡ map (moved d) (cond t (first at ∷ elements_after w (suc at) n bs) (cut at ∷ []))
    go true e = ap (λ (es : List Element). first (d + at) ∷ es) e
    go false e = refl

-- Where a list of elements begins changes their offsets only.
pub elements-moved : (w d at : ℕ) (s : List ℕ) → elements w (d + at) s ≡ map (moved d) (elements w at s)
unfolding elements
elements-moved w d at s = moved-after w d at 0 s
