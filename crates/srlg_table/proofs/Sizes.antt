-- How many applications masks and blocks have. Assumes nothing.
use Prim.Native.Nat.{ℕ, zero, suc, ◌+◌, ◌-◌, ◌/◌, ◌%◌, ◌^◌, ◌≤◌, ◌<◌}
use mathlib.Core.Path.{◌≡◌, refl, sym, ◌∙◌, ap, ap₂}
use mathlib.Core.Bool.{Bool, true, false, cond, ◌&&◌, not}
use mathlib.Core.List.{List, [], ◌∷◌, Memᴰ}
use native.Mathlib.Omega.{arith}
use borrow.Author.Tests.{ltb-true, ltb-false}
use lib.Dec.{ltb}
use lib.Bits.{bit_or, bit_xor}
use lib.ListN.{length, get_or}
use Rattle.linkstate.specs.Lists.{numbers, keep}
use Rattle.linkstate.specs.Masks.{in_number}
use Rattle.linkstate.proofs.ListLaws.{keep-ext, mem-keep, numbers-mem, mem-numbers}
use Rattle.srlg.proofs.Laws.{Order, less, more, same, order}
use Rattle.masks.proofs.Laws.{same-members}
use Rattle.masks.proofs.Steps.{zero-none}
use Rattle.srlg_ranks.specs.Ranks.{in_words}
use Rattle.srlg_ranks.proofs.Bits.{differ-none, differ_same, or-none}
use Rattle.srlg_table.specs.Blocks.{size_of, Alike, in_block, total}

-- ---- sizes

length-split : (p q : ℕ → Bool) (xs : List ℕ) → length (keep p xs) ≡ length (keep (λ x. p x && q x) xs) + length (keep (λ x. p x && not (q x)) xs)
unfolding keep
length-split p q [] = refl
length-split p q (x ∷ xs) = go (p x) (q x) (length-split p q xs)
  where
    go : (a b : Bool) → length (keep p xs) ≡ length (keep (λ x. p x && q x) xs) + length (keep (λ x. p x && not (q x)) xs)
        → length (cond a (x ∷ keep p xs) (keep p xs))
        ≡ length (cond (a && b) (x ∷ keep (λ x. p x && q x) xs) (keep (λ x. p x && q x) xs)) + length (cond (a && not b) (x ∷ keep (λ x. p x && not (q x)) xs) (keep (λ x. p x && not (q x)) xs))
    go true true e = omega arith
    go true false e = omega arith
    go false b e = e

pub size-split : (p q : ℕ → Bool) → size_of p ≡ size_of (λ a. p a && q a) + size_of (λ a. p a && not (q a))
unfolding size_of
size-split p q = length-split p q (numbers 0 128)

pub size_same : (p q : ℕ → Bool) → ((a : ℕ) → a < 128 → p a ≡ q a) → size_of p ≡ size_of q
unfolding size_of
size_same p q h = ap length (keep-ext p q (numbers 0 128) (λ a m. h a (omega (arith, (numbers-mem 0 128 m).1))))

mem-some : (a : ℕ) (xs : List ℕ) → Memᴰ a xs → 0 < length xs
mem-some a [] m = elim m [ ]
mem-some a (x ∷ xs) m = omega arith

pub size-some : (p : ℕ → Bool) (a : ℕ) → a < 128 → p a ≡ true → 0 < size_of p
unfolding size_of
size-some p a h e =
    let z : 0 + a ≡ a = omega arith in
    mem-some a (keep p (numbers 0 128)) (mem-keep p (numbers 0 128) (rw z at (mem-numbers 128 0 a h)) e)

pub size_none : (p : ℕ → Bool) → size_of p ≡ 0 → (a : ℕ) → a < 128 → p a ≡ false
size_none p e a h = go (p a) refl
  where
    go : (b : Bool) → p a ≡ b → b ≡ false
    go true f = absurd (omega (arith, size-some p a h f))
    go false f = refl

-- ---- two masks

-- What holds of both words' bits holds of the pair's.
pub pair-bits : (P : ℕ → Bool → Type 0) (s u : ℕ) → ((j : ℕ) → j < 64 → P j (in_number s j)) → ((j : ℕ) → j < 64 → P (64 + j) (in_number u j)) → (a : ℕ) → a < 128 → P a (in_words (s ∷ u ∷ []) a)
unfolding in_words
pair-bits P s u low high a h = go (ltb a 64) refl
  where
    go : (b : Bool) → ltb a 64 ≡ b → P a (in_number (get_or (s ∷ u ∷ []) (a / 64) 0) (a % 64))
    go true t =
        let l = ltb-true a 64 t in
        let d : a / 64 ≡ 0 = omega arith in
        let m : a % 64 ≡ a = omega arith in
        rw (d, m) (low a l)
    go false t =
        let l = ltb-false a 64 t in
        let d : a / 64 ≡ 1 = omega arith in
        let m : a % 64 ≡ a - 64 = omega arith in
        let z : 64 + (a - 64) ≡ a = omega arith in
        rw (d, m) (rw z at (high (a - 64) (omega arith)))

module _ (s u j : ℕ) (h : j < 64) where
  pub low_bit : in_words (s ∷ u ∷ []) j ≡ in_number s j
  unfolding in_words
  low_bit = let d : j / 64 ≡ 0 = omega arith in let m : j % 64 ≡ j = omega arith in rw (d, m)

  pub high_bit : in_words (s ∷ u ∷ []) (64 + j) ≡ in_number u j
  unfolding in_words
  high_bit = let d : (64 + j) / 64 ≡ 1 = omega arith in let m : (64 + j) % 64 ≡ j = omega arith in rw (d, m)

-- Masks by their bits: none is set, or all are those of others.
pub masks-none : (x y : ℕ) → bit_or x y ≡ 0 → (a : ℕ) → a < 128 → in_words (x ∷ y ∷ []) a ≡ false
masks-none x y e =
    let (f, g) = or-none x y e in
    pair-bits (λ a b. b ≡ false) x y (λ j h. rw f (zero-none j)) (λ j h. rw g (zero-none j))

module _ (x y : ℕ) (fx : x < 2 ^ 64) (fy : y < 2 ^ 64) where
  -- so masks that are not 0 have an application
  pub masks-some : (bit_or x y ≡ 0 → ⊥) → 0 < size_of (in_words (x ∷ y ∷ []))
  masks-some n = go (order 0 (size_of (in_words (x ∷ y ∷ []))))
    where
      zero_is : (m : ℕ) → m < 2 ^ 64 → ((j : ℕ) → j < 64 → in_number m j ≡ false) → m ≡ 0
      zero_is m f h = same-members 64 m 0 f (omega arith) (λ i l. h i l ∙ sym (zero-none i))

      go : Order 0 (size_of (in_words (x ∷ y ∷ []))) → 0 < size_of (in_words (x ∷ y ∷ []))
      go (less h) = h
      go (more h) = absurd (omega arith)
      go (same e) =
          let all = size_none (in_words (x ∷ y ∷ [])) (sym e) in
          let zx = zero_is x fx (λ j h. sym (low_bit x y j h) ∙ all j (omega arith)) in
          let zy = zero_is y fy (λ j h. sym (high_bit x y j h) ∙ all (64 + j) (omega arith)) in
          absurd (n (rw (zx, zy)))

  module _ (s u : ℕ) where
    pub alike_is : bit_or (bit_xor x s) (bit_xor y u) ≡ 0 → Alike (x ∷ y ∷ []) (s ∷ u ∷ [])
    alike_is e = let (f, g) = or-none (bit_xor x s) (bit_xor y u) e in λ a h. rw (differ-none x s f, differ-none y u g)

    pub alike-not : s < 2 ^ 64 → u < 2 ^ 64 → (bit_or (bit_xor x s) (bit_xor y u) ≡ 0 → ⊥) → Alike (x ∷ y ∷ []) (s ∷ u ∷ []) → ⊥
    alike-not fs fu n all =
        let ex : x ≡ s = same-members 64 x s fx fs (λ j h. sym (low_bit x y j h) ∙ all j (omega arith) ∙ low_bit s u j h) in
        let ey : y ≡ u = same-members 64 y u fy fu (λ j h. sym (high_bit x y j h) ∙ all (64 + j) (omega arith) ∙ high_bit s u j h) in
        n (rw (differ_same x s ex, differ_same y u ey))

-- ---- the sizes of blocks, together

pub total-same : (b c : List (List ℕ)) (n : ℕ) → ((l : ℕ) → l < n → size_of (in_block (get_or b l [])) ≡ size_of (in_block (get_or c l []))) → total b n ≡ total c n
unfolding total
total-same b c zero h = refl
total-same b c (suc n) h = ap₂ (λ (x y : ℕ). x + y) (total-same b c n (λ l k. h l (omega arith))) (h n (omega arith))

-- One block replaced.
pub total-set : (b c : List (List ℕ)) (k n : ℕ) → k < n → ((l : ℕ) → l < n → (l ≡ k → ⊥) → size_of (in_block (get_or c l [])) ≡ size_of (in_block (get_or b l [])))
    → total c n + size_of (in_block (get_or b k [])) ≡ total b n + size_of (in_block (get_or c k []))
unfolding total
total-set b c k zero h e = absurd (omega arith)
total-set b c k (suc n) h e = go (order k n) (λ l. total-set b c k n l (λ i j. e i (omega arith)))
  where
    go : Order k n → (k < n → total c n + size_of (in_block (get_or b k [])) ≡ total b n + size_of (in_block (get_or c k [])))
        → total c n + size_of (in_block (get_or c n [])) + size_of (in_block (get_or b k [])) ≡ total b n + size_of (in_block (get_or b n [])) + size_of (in_block (get_or c k []))
    go (less l) ih = omega (arith, ih l, e n (omega arith) (λ f. omega arith))
    go (more l) ih = absurd (omega arith)
    go (same f) ih =
        rw f (omega (arith, total-same c b n (λ l j. e l (omega arith) (λ g. omega arith))))

-- Blocks that each have an application are no more than those; and fewer where one has another.
pub total-least : (b : List (List ℕ)) (n : ℕ) → ((l : ℕ) → l < n → 0 < size_of (in_block (get_or b l []))) → n ≤ total b n
unfolding total
total-least b zero h = omega arith
total-least b (suc n) h = omega (arith, total-least b n (λ l k. h l (omega arith)), h n (omega arith))

pub total-more : (b : List (List ℕ)) (k n : ℕ) → k < n → ((l : ℕ) → l < n → 0 < size_of (in_block (get_or b l []))) → 1 < size_of (in_block (get_or b k [])) → n < total b n
unfolding total
total-more b k zero l h m = absurd (omega arith)
total-more b k (suc n) l h m = go (order k n) (λ j. total-more b k n j (λ i x. h i (omega arith)) m)
  where
    go : Order k n → (k < n → n < total b n) → suc n < total b n + size_of (in_block (get_or b n []))
    go (less j) ih = omega (arith, ih j, h n (omega arith))
    go (more j) ih = absurd (omega arith)
    go (same e) ih = omega (arith, total-least b n (λ i x. h i (omega arith)), m, ap (λ (i : ℕ). size_of (in_block (get_or b i []))) e)
