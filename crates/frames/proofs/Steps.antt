-- One step of an iterator over elements: what it gives is the first of what was left. Assumes nothing.
use mathlib.Core.Path.{◌≡◌, refl, sym, ap, ap₂, ◌∙◌}
use mathlib.Core.Bool.{Bool, true, false, false≢true}
use mathlib.Core.List.{List, ◌∷◌}
use Prim.Native.Nat.{ℕ, ◌+◌, ◌-◌, ◌*◌, ◌≤◌, ◌<◌}
use native.Mathlib.Omega.{arith}
use borrow.Author.Tests.{leb-true, leb-false}
use lib.Dec.{leb}
use lib.ListN.{length, take, drop}
use lib.Seq.{drop-drop}
use Rattle.linkstate.specs.Bytes.{number, bytes_at}
use Rattle.linkstate.specs.Elements.{Element, element, cut, type_of, length_of}
use Rattle.linkstate.proofs.WalkLaws.{left, type_at, length_at, left_end, left_cut, left-whole}
use Rattle.octets.proofs.Laws.{part-is}
use Rattle.frames.specs.Uncut.{Uncut, uncut}

-- The type and the length of an element are the numbers at its place and right behind.
pub type-is : (w : ℕ) (s : List ℕ) (at : ℕ) → type_at w s at ≡ number (bytes_at s at w)
unfolding type_of bytes_at
type-is w s at = refl

pub length-is : (w : ℕ) (s : List ℕ) (at : ℕ) → length_at w s at ≡ number (bytes_at s (at + w) w)
unfolding length_of bytes_at
length-is w s at = ap (λ (l : List ℕ). number (take w l)) (drop-drop w at s)

-- A step at a place, with b and h for w, as the code has read it.
module _ (w : ℕ) (p : 0 < w) (base : ℕ) (s : List ℕ) (at b : ℕ) (q : b ≡ w) where
  past : at < length s → length s < at + (w + w) + length_at w s at → left w base s at ≡ cut (base + at) ∷ left w base s (length s)
  past h g = left_cut w p base s at h g ∙ ap (λ (es : List Element). cut (base + at) ∷ es) (sym (left_end w p base s (length s) (omega arith)))

  -- too short for its header
  pub gives-short : at < length s → length s < at + 2 * b → left w base s at ≡ cut (base + at) ∷ left w base s (length s)
  gives-short h g = past h (omega arith)

  module _ (n h : ℕ) (e : n ≡ number (bytes_at s (at + h) w)) (r : h ≡ w) where
    size : length_at w s at ≡ n
    size = length-is w s at ∙ ap (λ (i : ℕ). number (bytes_at s (at + i) w)) (sym r) ∙ sym e

    -- past the end, by the length n of its value
    pub gives-long : at + 2 * b ≤ length s → length s < at + 2 * b + n → left w base s at ≡ cut (base + at) ∷ left w base s (length s)
    gives-long f g = past (omega arith) (omega (arith, size))

    -- whole, of type t: its value is the code's part of the list
    pub gives-whole : (t : ℕ) → t ≡ number (bytes_at s at w) → at + 2 * b + n ≤ length s
        → left w base s at ≡ element (base + at) t (take (at + 2 * b + n - (at + 2 * b)) (drop (at + 2 * b) s)) ∷ left w base s (at + 2 * b + n)
    gives-whole t i g =
        let z : at + 2 * b ≡ at + (w + w) = omega arith in
        rw z (left-whole w p base s at n size (omega arith)
        ∙ ap₂ (λ (k : ℕ) (v : List ℕ). element (base + at) k v ∷ left w base s (at + (w + w) + n)) (type-is w s at ∙ sym i) (sym (part-is s (at + (w + w)) n)))

-- Where no element is cut off, one that begins is whole, and none behind it is cut off.
module _ (w : ℕ) (p : 0 < w) (base : ℕ) (s : List ℕ) (at : ℕ) (u : Uncut (left w base s at)) where
  reaches : at < length s → at + (w + w) + length_at w s at ≤ length s
  reaches h = go (leb (at + (w + w) + length_at w s at) (length s)) refl
    where
      go : (b : Bool) → leb (at + (w + w) + length_at w s at) (length s) ≡ b → at + (w + w) + length_at w s at ≤ length s
      go true e = leb-true (at + (w + w) + length_at w s at) (length s) e
      go false e = absurd (false≢true (sym (ap uncut (left_cut w p base s at h (leb-false (at + (w + w) + length_at w s at) (length s) e))) ∙ u))

  pub header-within : at < length s → at + (w + w) ≤ length s
  header-within h = omega (arith, reaches h)

  -- with b and h for w, as the code has read it, and n value bytes
  module _ (h : at < length s) (b i : ℕ) (q : b ≡ w) (r : i ≡ w) (n : ℕ) (e : n ≡ number (bytes_at s (at + i) w)) where
    size-here : length_at w s at ≡ n
    size-here = length-is w s at ∙ ap (λ (j : ℕ). number (bytes_at s (at + j) w)) (sym r) ∙ sym e

    pub whole-within : at + 2 * b + n ≤ length s
    whole-within = omega (arith, reaches h, size-here)

    pub rest-uncut : Uncut (left w base s (at + 2 * b + n))
    rest-uncut =
        let z : at + 2 * b ≡ at + (w + w) = omega arith in
        rw z (sym (ap uncut (left-whole w p base s at n size-here (omega (arith, whole-within)))) ∙ u)
