-- Bits compared, marked and counted word by word. Assumes nothing.
use Prim.Native.Nat.{ℕ, zero, suc, ◌+◌, ◌*◌, ◌/◌, ◌%◌, ◌^◌, ◌≤◌, ◌<◌}
use mathlib.Core.Path.{◌≡◌, refl, sym, ◌∙◌, ap, ap₂}
use mathlib.Core.Bool.{Bool, false}
use mathlib.Core.List.{List}
use native.Mathlib.Numerals.{add-one}
use native.Mathlib.Omega.{arith}
use lib.Bits.{bit_xor}
use lib.ListN.{length, get_or, take, drop, length-drop}
use lib.Seq.{get_or-take, length-take-le}
use Rattle.std.proofs.lemmas.Grind.{same_number_lists}
use Rattle.linkstate.specs.Masks.{in_number, as_number}
use Rattle.linkstate.proofs.MaskLaws.{number_same}
use Rattle.masks.proofs.Laws.{number_of}
use Rattle.srlg_ranks.specs.Ranks.{in_words, Inside}
use Rattle.srlg_ranks.proofs.Laws.{rest, word_end}
use Rattle.srlg_table.specs.Marks.{mixed, words_mark, folded, mark_of}
use Rattle.srlg_table.specs.Tables.{Equal}

-- The bits of one word.
pub word-bit : (x : List ℕ) (w j : ℕ) → j < 64 → in_words x (64 * w + j) ≡ in_number (get_or x w 0) j
unfolding in_words
word-bit x w j h =
    let d : (64 * w + j) / 64 ≡ w = omega arith in
    let m : (64 * w + j) % 64 ≡ j = omega arith in
    rw (d, m)

-- ---- compared

module _ (x y : List ℕ) (n : ℕ) where
  pub front-equal : take n x ≡ take n y → Equal (64 * n) (in_words x) (in_words y)
  unfolding in_words
  front-equal e k l =
      ap (λ (z : ℕ). in_number z (k % 64))
      (sym (get_or-take n x (k / 64) 0 (omega arith)) ∙ ap (λ (a : List ℕ). get_or a (k / 64) 0) e ∙ get_or-take n y (k / 64) 0 (omega arith))

  -- Words that fit are equal where their bits are.
  pub equal-front : (n ≤ length x) × (n ≤ length y) → ((w : ℕ) → get_or x w 0 < 2 ^ 64) → ((w : ℕ) → get_or y w 0 < 2 ^ 64) → Equal (64 * n) (in_words x) (in_words y) → take n x ≡ take n y
  equal-front (lx, ly) fx fy h =
      same_number_lists (take n x) (take n y) (length-take-le n x lx ∙ sym (length-take-le n y ly))
      (λ w l.
      let k : w < n = omega (arith, length-take-le n x lx) in
      get_or-take n x w 0 k
      ∙ sym (number_of (get_or x w 0) (fx w))
      ∙ number_same (in_number (get_or x w 0)) (in_number (get_or y w 0)) (λ j m. sym (word-bit x w j m) ∙ h (64 * w + j) (omega arith) ∙ word-bit y w j m)
      ∙ number_of (get_or y w 0) (fy w)
      ∙ sym (get_or-take n y w 0 k))

-- ---- marked

pub mixed-word : (h x : ℕ) → x < 2 ^ 64 → bit_xor (bit_xor (h * 2 ^ 3 % 2 ^ 64) (h / 2 ^ 61)) x ≡ mixed h (as_number (in_number x))
unfolding mixed
mixed-word h x f = rw (number_of x f)

pub mark-next : (x : List ℕ) (i h r : ℕ) → h ≡ words_mark i (in_words x) → r ≡ mixed h (as_number (in_number (get_or x i 0))) → r ≡ words_mark (i + 1) (in_words x)
unfolding words_mark
mark-next x i h r e f =
    f ∙ ap₂ mixed e (number_same (in_number (get_or x i 0)) (λ j. in_words x (64 * i + j)) (λ j l. sym (word-bit x i j l))) ∙ ap (λ (w : ℕ). words_mark w (in_words x)) (sym (add-one i))

pub mark-none : (x : List ℕ) → 0 ≡ words_mark 0 (in_words x)
unfolding words_mark
mark-none x = refl

words_same : (n : ℕ) (p q : ℕ → Bool) → Equal (64 * n) p q → words_mark n p ≡ words_mark n q
unfolding words_mark
words_same zero p q h = refl
words_same (suc n) p q h =
    ap₂ mixed (words_same n p q (λ i l. h i (omega arith))) (number_same (λ j. p (64 * n + j)) (λ j. q (64 * n + j)) (λ j l. h (64 * n + j) (omega arith)))

-- Equal bits share their mark.
pub mark-same : (n : ℕ) (p q : ℕ → Bool) → Equal (64 * n) p q → mark_of n p ≡ mark_of n q
unfolding mark_of
mark-same n p q h = ap folded (words_same n p q h)

pub mark-is : (x : List ℕ) (n i h r : ℕ) → n ≡ i → h ≡ words_mark i (in_words x) → r ≡ folded h → r ≡ mark_of n (in_words x)
unfolding mark_of
mark-is x n i h r z e f = f ∙ ap folded e ∙ ap (λ (k : ℕ). folded (words_mark k (in_words x))) (sym z)

-- ---- counted

-- The bits of a list that has them within the first words.
pub word-within : (values x : List ℕ) (n w : ℕ) → w < n → ((i : ℕ) → length values ≤ i → i < 64 * n → in_words x i ≡ false) → Inside (drop (64 * w) values) (get_or x w 0)
word-within values x n w h within j k l = sym (word-bit x w j l) ∙ within (64 * w + j) (omega (arith, length-drop (64 * w) values)) (omega arith)

pub counted-end : (x values : List ℕ) (n i k r : ℕ) → length values ≤ 64 * n → n ≤ i → k + length (rest values x i) ≡ r → k ≡ r
counted-end x values n i k r h l e = omega (arith, e, ap length (word_end values x i (omega arith)))
