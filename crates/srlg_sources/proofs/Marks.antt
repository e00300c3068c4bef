-- A source's row with one bit more, and the keys of a value. Assumes nothing.
use Prim.Native.Nat.{ℕ, zero, suc, ◌*◌, ◌/◌, ◌%◌, ◌^◌, ◌≤◌, ◌<◌}
use mathlib.Core.Path.{◌≡◌, refl, sym, ◌∙◌, ap}
use mathlib.Core.Bool.{◌||◌, ◌&&◌, or-false}
use mathlib.Core.List.{List, [], ◌∷◌, map}
use native.Mathlib.Omega.{arith}
use borrow.Author.Tests.{eq-eqb, ne_eqb}
use lib.Dec.{eqb}
use lib.Bits.{bit_or}
use lib.ListN.{length, get_or, set, length-set}
use lib.Seq.{get_or-set_same, get_or-set_other}
use Rattle.srlg.proofs.Laws.{Order, less, more, same, order}
use Rattle.srlg_ranks.specs.Ranks.{in_words}
use Rattle.srlg_ranks.proofs.Bits.{with_in}
use Rattle.srlg_ranks.proofs.Steps.{word_set}
use Rattle.srlg_sources.specs.Sources.{Marked, Small, key_of}

-- A row after another was put in place of row s.
pub data At (rows : List (List ℕ)) (s : ℕ) (row : List ℕ) (j : ℕ) : Type 0 where
  here : j ≡ s → get_or (set rows s row) j [] ≡ row → At rows s row j
  there : (j ≡ s → ⊥) → get_or (set rows s row) j [] ≡ get_or rows j [] → At rows s row j

pub at_row : (rows : List (List ℕ)) (s : ℕ) (row : List ℕ) (j : ℕ) → s < length rows → At rows s row j
at_row rows s row j h = go (order j s)
  where
    go : Order j s → At rows s row j
    go (less l) = there (λ e. omega arith) (get_or-set_other rows s j row [] (λ e. omega arith))
    go (more l) = there (λ e. omega arith) (get_or-set_other rows s j row [] (λ e. omega arith))
    go (same e) = here e (ap (λ (k : ℕ). get_or (set rows s row) k []) e ∙ get_or-set_same rows s row [] h)

module _ (rows : List (List ℕ)) (s p : ℕ) (inside : s < length rows) (low : p < 1024) where
  abbrev marked : List ℕ
  marked = set (get_or rows s []) (p / 64) (bit_or (get_or (get_or rows s []) (p / 64) 0) ((1 * 2 ^ (p % 64)) % 2 ^ 64))

  pub marked-is : Marked rows s p (set rows s marked)
  marked-is =
      record {
        wide = λ j. wide j (at_row rows s marked j inside);
        bits = λ j i w h. bits j i w (at_row rows s marked j inside);
        masks = λ j k h. masks j k h (at_row rows s marked j inside);
      }
    where
      wide : (j : ℕ) → At rows s marked j → length (get_or (set rows s marked) j []) ≡ length (get_or rows j [])
      wide j (here e f) = ap length f ∙ length-set (get_or rows s []) (p / 64) _ ∙ ap (λ (k : ℕ). length (get_or rows k [])) (sym e)
      wide j (there n f) = ap length f

      bits : (j i : ℕ) → length (get_or rows j []) ≡ 18 → At rows s marked j → in_words (get_or (set rows s marked) j []) i ≡ in_words (get_or rows j []) i || (eqb s j && eqb i p)
      bits j i w (here e f) =
          ap (λ (r : List ℕ). in_words r i) f
          ∙ word_set (get_or rows s []) p _ (omega (arith, w, ap (λ (k : ℕ). length (get_or rows k [])) e)) (with_in (get_or (get_or rows s []) (p / 64) 0) (p % 64) (omega arith)) i
          ∙ rw (e, eq-eqb s s refl)
      bits j i w (there n f) = ap (λ (r : List ℕ). in_words r i) f ∙ sym (rw (ne_eqb s j (λ e. n (sym e))) (or-false (in_words (get_or rows j []) i)))

      masks : (j k : ℕ) → 16 ≤ k → At rows s marked j → get_or (get_or (set rows s marked) j []) k 0 ≡ get_or (get_or rows j []) k 0
      masks j k h (here e f) = ap (λ (r : List ℕ). get_or r k 0) f ∙ get_or-set_other (get_or rows s []) (p / 64) k _ 0 (λ x. omega arith) ∙ rw e
      masks j k h (there n f) = ap (λ (r : List ℕ). get_or r k 0) f

pub length-keys : (source : ℕ) (ws : List ℕ) → length (map (key_of source) ws) ≡ length ws
length-keys source [] = refl
length-keys source (w ∷ ws) = omega (arith, length-keys source ws)

-- A number of 32 bits in front of others.
pub small-cons : (v : ℕ) (ws : List ℕ) → v < 4294967296 → Small ws → Small (v ∷ ws)
small-cons v ws h l zero = h
small-cons v ws h l (suc i) = l i

pub small-none : Small []
small-none i = omega arith
