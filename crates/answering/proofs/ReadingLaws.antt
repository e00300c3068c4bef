-- What each form asks of a length, and what it reads.
use mathlib.Core.Path.{◌≡◌, refl, sym, ap, ap₂, ◌∙◌, subst}
use mathlib.Core.List.{List, ◌∷◌, ◌++◌}
use Prim.Native.Nat.{ℕ, ◌+◌, ◌≤◌}
use native.Mathlib.Omega.{arith}
use lib.Ieee.{of_bits, binary32}
use lib.ListN.{length, take, drop}
use lib.Seq.{take_at, drop_at}
use Rattle.linkstate.specs.Bytes.{number, number_from, bytes_at, words, distinct}
use Rattle.linkstate.specs.Kinds as T
use Rattle.linkstate.specs.Replies as R
use Rattle.linkstate.specs.Replies.{whole, pair, bandwidth, part, Place}
use Rattle.linkstate.specs.Attributes.{Attribute, reading_as}
use Rattle.octets.proofs.Laws.{bytes_at-add, length-bytes_at}
use Rattle.kinds.specs.declared.Form.{Form}
use Rattle.kinds.specs.declared.Form.TheVariants.{WholeNumber, TwoNumbers, Float, PlaceAndLength}
use Rattle.kinds.specs.Rules.{told_form}
use Rattle.answering.specs.Standing.{Readable, standing}

-- A form's own length.
pub readable-as : (f g : Form) (n : ℕ) → f ≡ g → Readable (told_form f) n → Readable (told_form g) n
readable-as f g n e h = subst (λ (x : Form). Readable (told_form x) n) e h

module _ (f : Form) (s : List ℕ) (spot : ℕ → Place) (at len : ℕ) where
  pub reads_whole : (n : ℕ) → f ≡ WholeNumber → n ≡ number (bytes_at s at len) → whole n ≡ reading_as (told_form f) spot (standing s at len)
  unfolding reading_as standing
  reads_whole n e h = rw e (ap whole h)

  pub reads-pair : (m n : ℕ) → f ≡ TwoNumbers → len ≡ 8 → at + len ≤ length s → m ≡ number (bytes_at s at 4) → n ≡ number (bytes_at s (at + 4) 4)
      → pair m n ≡ reading_as (told_form f) spot (standing s at len)
  unfolding reading_as standing
  reads-pair m n e l k g h =
      let halves : bytes_at s at len ≡ bytes_at s at 4 ++ bytes_at s (at + 4) 4 = ap (bytes_at s at) l ∙ bytes_at-add s at 4 4 in
      let four : length (bytes_at s at 4) ≡ 4 = length-bytes_at s at 4 (omega arith) in
      rw e
      (ap₂ pair (g ∙ ap number (sym (take_at (bytes_at s at 4) (bytes_at s (at + 4) 4) 4 four) ∙ ap (take 4) (sym halves)))
      (h ∙ ap number (sym (drop_at (bytes_at s at 4) (bytes_at s (at + 4) 4) 4 four) ∙ ap (drop 4) (sym halves))))

  pub reads-float : (x : lib.Ieee.Float) → f ≡ Float → len ≡ 4 → x ≡ of_bits binary32 (number (bytes_at s at 4)) → bandwidth x ≡ reading_as (told_form f) spot (standing s at len)
  unfolding reading_as standing
  reads-float x e l h = rw e (ap bandwidth (h ∙ ap (λ (n : ℕ). of_bits binary32 (number (bytes_at s at n))) (sym l)))

  pub reads-part : f ≡ PlaceAndLength → part (spot at) len ≡ reading_as (told_form f) spot (standing s at len)
  unfolding reading_as standing
  reads-part e = rw e

-- An attribute whose value is the run's own bytes, or these behind a zero, reads as what stands there.
module _ (s : List ℕ) (spot : ℕ → Place) (t : Attribute) where
  pub own-bytes : (f : T.Form) → t.value ≡ bytes_at s t.at t.len → reading_as f spot t ≡ reading_as f spot (standing s t.at t.len)
  unfolding reading_as standing
  own-bytes T.whole_number e = ap (λ (v : List ℕ). whole (number v)) e
  own-bytes T.two_numbers e = ap (λ (v : List ℕ). pair (number (take 4 v)) (number (drop 4 v))) e
  own-bytes T.float e = ap (λ (v : List ℕ). bandwidth (of_bits binary32 (number v))) e
  own-bytes T.place_and_length e = refl
  own-bytes T.srlg_count e = ap (λ (v : List ℕ). R.count (length (distinct (words v)))) e

  pub zero-in-front : t.value ≡ 0 ∷ bytes_at s t.at t.len → reading_as T.whole_number spot t ≡ reading_as T.whole_number spot (standing s t.at t.len)
  unfolding reading_as standing number number_from
  zero-in-front e = ap (λ (v : List ℕ). whole (number v)) e
