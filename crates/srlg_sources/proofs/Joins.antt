-- The bits of sources joined, word by word and source by source. Assumes nothing.
use Prim.Native.Nat.{ℕ, zero, suc, ◌+◌, ◌*◌, ◌/◌, ◌%◌, ◌≤◌, ◌<◌}
use mathlib.Core.Path.{◌≡◌, refl, sym, ◌∙◌, ap, ap₂}
use mathlib.Core.Bool.{Bool, true, false, ◌||◌, ◌&&◌, not, or_assoc, or-false}
use mathlib.Core.List.{List, [], ◌∷◌, ◌++◌}
use native.Mathlib.Omega.{arith}
use borrow.Author.Tests.{eq-eqb, ne_eqb, ltb-true, ltb-false}
use lib.Dec.{eqb, ltb}
use lib.Bits.{bit_or}
use lib.ListN.{length, get_or, replicate, get_or-replicate}
use Rattle.linkstate.specs.Lists.{numbers, any}
use Rattle.linkstate.specs.Masks.{in_number}
use Rattle.linkstate.proofs.ListLaws.{any_append, and_l}
use Rattle.srlg.proofs.Laws.{Order, less, more, same, order}
use Rattle.masks.proofs.Steps.{or-in, zero-none}
use Rattle.srlg_ranks.specs.Ranks.{in_words}
use Rattle.masks.specs.Sets.{Lowest}
use Rattle.srlg_sources.specs.Classes.{has_source, in_class}
use Rattle.srlg_sources.specs.Sources.{InRows, in_some}

-- ---- a test at the numbers below n

pub numbers-last : (n from : ℕ) → numbers from (suc n) ≡ numbers from n ++ ((from + n) ∷ [])
unfolding numbers
numbers-last zero from = let e : from + 0 ≡ from = omega arith in rw e
numbers-last (suc n) from = let e : suc from + n ≡ from + suc n = omega arith in ap (λ (l : List ℕ). from ∷ l) (rw e at (numbers-last n (suc from)))

pub any-suc : (p : ℕ → Bool) (n : ℕ) → any p (numbers 0 (suc n)) ≡ any p (numbers 0 n) || p n
unfolding any
any-suc p n =
    let e : 0 + n ≡ n = omega arith in
    ap (any p) (numbers-last n 0) ∙ any_append p (numbers 0 n) ((0 + n) ∷ []) ∙ ap (λ (b : Bool). any p (numbers 0 n) || b) (or-false (p (0 + n)) ∙ ap p e)

pub any_same : (p q : ℕ → Bool) (n : ℕ) → ((j : ℕ) → j < n → p j ≡ q j) → any p (numbers 0 n) ≡ any q (numbers 0 n)
unfolding any numbers
any_same p q zero h = refl
any_same p q (suc n) h = any-suc p n ∙ ap₂ (λ (a b : Bool). a || b) (any_same p q n (λ j l. h j (omega arith))) (h n (omega arith)) ∙ sym (any-suc q n)

pub any_none : (p : ℕ → Bool) (n : ℕ) → ((j : ℕ) → j < n → p j ≡ false) → any p (numbers 0 n) ≡ false
unfolding any numbers
any_none p zero h = refl
any_none p (suc n) h = any-suc p n ∙ rw (any_none p n (λ j l. h j (omega arith)), h n (omega arith))

pub any_some : (p : ℕ → Bool) (n j : ℕ) → j < n → p j ≡ true → any p (numbers 0 n) ≡ true
any_some p zero j l e = absurd (omega arith)
any_some p (suc n) j l e = any-suc p n ∙ go (order j n) (λ h. any_some p n j h e)
  where
    or-any : (a b : Bool) → b ≡ true → a || b ≡ true
    or-any true b f = refl
    or-any false b f = f

    go : Order j n → (j < n → any p (numbers 0 n) ≡ true) → any p (numbers 0 n) || p n ≡ true
    go (less h) ih = ap (λ (b : Bool). b || p n) (ih h)
    go (more h) ih = absurd (omega arith)
    go (same f) ih = or-any (any p (numbers 0 n)) (p n) (ap p (sym f) ∙ e)

-- The test at one number t, and at the others.
or_comm : (a b : Bool) → a || b ≡ b || a
or_comm true true = refl
or_comm true false = refl
or_comm false true = refl
or_comm false false = refl

pub any_out : (p q : ℕ → Bool) (n t : ℕ) → t < n → ((j : ℕ) → j < n → (j ≡ t → ⊥) → q j ≡ p j) → q t ≡ false → any p (numbers 0 n) ≡ p t || any q (numbers 0 n)
any_out p q zero t h same_at none = absurd (omega arith)
any_out p q (suc n) t h same_at none = any-suc p n ∙ go (order t n) (λ l. any_out p q n t l (λ j k. same_at j (omega arith)) none) ∙ ap (λ (b : Bool). p t || b) (sym (any-suc q n))
  where
    go : Order t n → (t < n → any p (numbers 0 n) ≡ p t || any q (numbers 0 n)) → any p (numbers 0 n) || p n ≡ p t || (any q (numbers 0 n) || q n)
    go (less l) ih =
        ap₂ (λ (a b : Bool). a || b) (ih l) (sym (same_at n (omega arith) (λ e. omega arith)))
        ∙ or_assoc (p t) (any q (numbers 0 n)) (q n)
    go (more l) ih = absurd (omega arith)
    go (same e) ih =
        let z : q n ≡ false = ap q (sym e) ∙ none in
        ap₂ (λ (a b : Bool). a || b) (any_same p q n (λ j l. sym (same_at j (omega arith) (λ f. omega arith)))) (ap p (sym e))
        ∙ or_comm (any q (numbers 0 n)) (p t) ∙ ap (λ (b : Bool). p t || b) (sym (or-false (any q (numbers 0 n))) ∙ ap (λ (b : Bool). any q (numbers 0 n) || b) (sym z))

-- ---- words joined

-- The first i words are joined, the others as they were.
pub record Joined (x₀ row x : List ℕ) (i : ℕ) : Type 0 where
  pub size : length x ≡ 16
  pub before : (w : ℕ) → w < i → get_or x w 0 ≡ bit_or (get_or x₀ w 0) (get_or row w 0)
  pub after : (w : ℕ) → i ≤ w → get_or x w 0 ≡ get_or x₀ w 0

pub joined-all : (x₀ row x : List ℕ) (k : ℕ) → Joined x₀ row x k → (i : ℕ) → i < 64 * k → in_words x i ≡ in_words x₀ i || in_words row i
unfolding in_words
joined-all x₀ row x k so i h = ap (λ (y : ℕ). in_number y (i % 64)) (so.before (i / 64) (omega arith)) ∙ or-in (get_or x₀ (i / 64) 0) (get_or row (i / 64) 0) (i % 64)

-- ---- sources joined

-- The lowest source t of a word, and the others.
pub record Next (rows : List (List ℕ)) (base y t rest : ℕ) : Type 0 where
  pub inside : base + t < length rows
  pub left : InRows rows base rest
  pub some : (i : ℕ) → in_some rows base y i ≡ in_words (get_or rows (base + t) []) i || in_some rows base rest i

and-not : (a : Bool) (j t : ℕ) → (j ≡ t → ⊥) → a && not (eqb j t) ≡ a
and-not true j t n = rw (ne_eqb j t n)
and-not false j t n = refl

pub next-source : (rows : List (List ℕ)) (base y t rest : ℕ) → Lowest 64 y t rest → InRows rows base y → Next rows base y t rest
unfolding in_some
next-source rows base y t rest r room =
    record {
      inside = room t r.inside r.there;
      left = λ j l e. room j l (and_l (in_number y j) (not (eqb j t)) (sym (r.cleared j) ∙ e));
      some = λ i.
          any_out (λ j. in_number y j && in_words (get_or rows (base + j) []) i) (λ j. in_number rest j && in_words (get_or rows (base + j) []) i) 64 t r.inside
          (λ j l n. ap (λ (b : Bool). b && in_words (get_or rows (base + j) []) i) (r.cleared j ∙ and-not (in_number y j) j t n))
          (ap (λ (b : Bool). b && in_words (get_or rows (base + t) []) i) (gone (r.cleared t) r.there))
          ∙ ap (λ (b : Bool). (b && in_words (get_or rows (base + t) []) i) || in_some rows base rest i) r.there;
    }
  where
    gone : {b : Bool} → b ≡ in_number y t && not (eqb t t) → in_number y t ≡ true → b ≡ false
    gone e g = e ∙ rw (g, eq-eqb t t refl)

pub some-none : (rows : List (List ℕ)) (base i : ℕ) → in_some rows base 0 i ≡ false
unfolding in_some
some-none rows base i = any_none (λ j. in_number 0 j && in_words (get_or rows (base + j) []) i) 64 (λ j l. rw (zero-none j))

-- ---- two words of sources

pub any-split : (p : ℕ → Bool) (m n : ℕ) → any p (numbers 0 (m + n)) ≡ any p (numbers 0 m) || any (λ j. p (m + j)) (numbers 0 n)
unfolding numbers any
any-split p m zero = let e : m + 0 ≡ m = omega arith in ap (λ (k : ℕ). any p (numbers 0 k)) e ∙ sym (or-false (any p (numbers 0 m)))
any-split p m (suc n) =
    let e : m + suc n ≡ suc (m + n) = omega arith in
    ap (λ (k : ℕ). any p (numbers 0 k)) e ∙ any-suc p (m + n) ∙ ap (λ (b : Bool). b || p (m + n)) (any-split p m n)
    ∙ or_assoc (any p (numbers 0 m)) (any (λ j. p (m + j)) (numbers 0 n)) (p (m + n)) ∙ ap (λ (b : Bool). any p (numbers 0 m) || b) (sym (any-suc (λ j. p (m + j)) n))

module _ (low high j : ℕ) (h : j < 64) where
  pub low-source : has_source (low ∷ high ∷ []) j ≡ in_number low j
  unfolding has_source in_words
  low-source = let d : j / 64 ≡ 0 = omega arith in let m : j % 64 ≡ j = omega arith in rw (d, m)

  pub high-source : has_source (low ∷ high ∷ []) (64 + j) ≡ in_number high j
  unfolding has_source in_words
  high-source = let d : (64 + j) / 64 ≡ 1 = omega arith in let m : (64 + j) % 64 ≡ j = omega arith in rw (d, m)

pub class-two : (rows : List (List ℕ)) (low high i : ℕ) → in_some rows 0 low i || in_some rows 64 high i ≡ in_class rows (low ∷ high ∷ []) i
unfolding in_some in_class
class-two rows low high i =
    sym (any-split (λ j. has_source (low ∷ high ∷ []) j && in_words (get_or rows j []) i) 64 64
    ∙ ap₂ (λ (a b : Bool). a || b)
    (any_same (λ j. has_source (low ∷ high ∷ []) j && in_words (get_or rows j []) i) (λ j. in_number low j && in_words (get_or rows (0 + j) []) i) 64
    (λ j h. let z : 0 + j ≡ j = omega arith in rw (low-source low high j h, z)))
    (any_same (λ j. has_source (low ∷ high ∷ []) (64 + j) && in_words (get_or rows (64 + j) []) i) (λ j. in_number high j && in_words (get_or rows (64 + j) []) i) 64
    (λ j h. rw (high-source low high j h))))

zero_row : (i : ℕ) → i < 1024 → in_words (replicate 16 0) i ≡ false
unfolding in_words
zero_row i h = rw (get_or-replicate {A = ℕ} 16 (i / 64) 0 0 (omega arith)) (zero-none (i % 64))

-- The zero bits joined with those of the low and of the high sources.
pub bits-joined : (rows : List (List ℕ)) (low high : ℕ) (x y : List ℕ) (k : ℕ) → k ≤ 16 → ((i : ℕ) → i < 64 * k → in_words x i ≡ in_words (replicate 16 0) i || in_some rows 0 low i)
    → ((i : ℕ) → i < 64 * k → in_words y i ≡ in_words x i || in_some rows 64 high i) → (i : ℕ) → i < 64 * k → in_words y i ≡ in_class rows (low ∷ high ∷ []) i
bits-joined rows low high x y k m f g i h =
    g i h ∙ ap (λ (b : Bool). b || in_some rows 64 high i) (f i h ∙ ap (λ (b : Bool). b || in_some rows 0 low i) (zero_row i (omega arith))) ∙ class-two rows low high i

-- The bits of two words do not depend on what follows; so a class's numbers do not depend on its count and place.
pub two-words : (x y : List ℕ) (a : ℕ) → a < 128 → get_or x 0 0 ≡ get_or y 0 0 → get_or x 1 0 ≡ get_or y 1 0 → in_words x a ≡ in_words y a
unfolding in_words
two-words x y a h e f = go (ltb (a / 64) 1) refl
  where
    go : (b : Bool) → ltb (a / 64) 1 ≡ b → in_number (get_or x (a / 64) 0) (a % 64) ≡ in_number (get_or y (a / 64) 0) (a % 64)
    go true t = let z : a / 64 ≡ 0 = omega (arith, ltb-true (a / 64) 1 t) in rw (z, e)
    go false t = let z : a / 64 ≡ 1 = omega (arith, ltb-false (a / 64) 1 t) in rw (z, f)

pub class-words : (rows : List (List ℕ)) (class : List ℕ) (i : ℕ) → in_class rows class i ≡ in_class rows (get_or class 0 0 ∷ get_or class 1 0 ∷ []) i
unfolding in_class has_source
class-words rows class i =
    any_same (λ j. in_words class j && in_words (get_or rows j []) i) (λ j. in_words (get_or class 0 0 ∷ get_or class 1 0 ∷ []) j && in_words (get_or rows j []) i) 128
    (λ j h. ap (λ (b : Bool). b && in_words (get_or rows j []) i) (two-words class (get_or class 0 0 ∷ get_or class 1 0 ∷ []) j h refl refl))

pub source-words : (class : List ℕ) (j : ℕ) → j < 128 → has_source class j ≡ has_source (get_or class 0 0 ∷ get_or class 1 0 ∷ []) j
unfolding has_source
source-words class j h = two-words class (get_or class 0 0 ∷ get_or class 1 0 ∷ []) j h refl refl
