-- RSVP-TE alone in two masks, by their numbers: the standard one's is 1, and that of what is read of the user's is 0. Assumes nothing.
use mathlib.Core.Path.{◌≡◌, refl, sym, ap, ap₂, ◌∙◌}
use mathlib.Core.Bool.{Bool, true, false, ◌&&◌, ◌||◌, not, false≢true}
use mathlib.Core.List.{List}
use Prim.Native.Nat.{ℕ, zero, suc, ◌+◌, ◌-◌, ◌≤◌, ◌<◌}
use native.Mathlib.Omega.{arith}
use borrow.Author.Tests.{lt-ltb, le-ltb, ltb-true, ltb-false, eqb-true, eqb-false, ne_eqb}
use lib.Dec.{eqb, ltb}
use lib.ListN.{length, take}
use lib.Seq.{take_all}
use Rattle.linkstate.specs.Lists.{any, numbers}
use Rattle.linkstate.specs.Masks.{bit, in_masks, others, as_number, in_number}
use Rattle.linkstate.proofs.Computing.{computing}
use Rattle.linkstate.proofs.MaskLaws.{number_same}
use Rattle.masks.specs.Applications.{user_bytes}
use Rattle.masks.proofs.Laws.{in-number}
use Rattle.masks.proofs.Sets.{user-read}

-- No number of a row passes a test, and each by itself.
module _ (p : ℕ → Bool) where
  none_passes : (from n : ℕ) → ((a : ℕ) → from ≤ a → a < from + n → p a ≡ false) → any p (numbers from n) ≡ false
  unfolding any numbers
  none_passes from zero h = refl
  none_passes from (suc n) h = rw (h from (omega arith) (omega arith)) (none_passes (suc from) n (λ a l g. h a (omega arith) (omega arith)))

  each-fails : (from n : ℕ) → any p (numbers from n) ≡ false → (a : ℕ) → from ≤ a → a < from + n → p a ≡ false
  unfolding any numbers
  each-fails from zero h a l g = absurd (omega arith)
  each-fails from (suc n) h a l g = go (p from) refl h (each-fails (suc from) n)
    where
      go : (b : Bool) → p from ≡ b → b || any p (numbers (suc from) n) ≡ false → (any p (numbers (suc from) n) ≡ false → (a : ℕ) → suc from ≤ a → a < suc from + n → p a ≡ false) → p a ≡ false
      go true e h f = absurd (false≢true (sym h))
      go false e h f = at (eqb a from) refl
        where
          at : (b : Bool) → eqb a from ≡ b → p a ≡ false
          at true i = ap p (eqb-true a from i) ∙ e
          at false i = let ne = eqb-false a from i in f h a (omega arith) (omega arith)

-- The sets of 0 alone, and of none.
first : as_number (λ n. eqb n 0) ≡ 1
unfolding computing
first = refl

nobody : as_number (λ n. false) ≡ 0
unfolding computing
nobody = refl

-- v has the bits of u below 32.
module _ (s u v : List ℕ) (is : (k : ℕ) → bit v k ≡ ltb k 32 && bit u k) where
  standard-bit : (n : ℕ) → n < 64 → in_masks s u n ≡ bit s n
  unfolding in_masks
  standard-bit n h = rw (lt-ltb n 64 h)

  user-bit : (n : ℕ) → n < 32 → in_masks s u (64 + n) ≡ bit v n
  unfolding in_masks
  user-bit n h = let e : 64 + n - 64 ≡ n = omega arith in rw (le-ltb (64 + n) 64 (omega arith), lt-ltb (64 + n) 96 (omega arith), e, is n, lt-ltb n 32 h)

  retired : (n : ℕ) → 32 ≤ n → bit v n ≡ false
  retired n h = is n ∙ ap (λ (b : Bool). b && bit u n) (le-ltb n 32 h)

  alone-numbers : in_masks s u 0 ≡ true → any (in_masks s u) others ≡ false → (as_number (bit s) ≡ 1) × (as_number (bit v) ≡ 0)
  unfolding others
  alone-numbers h g = (
    number_same (bit s) (λ n. eqb n 0) (λ n l. sym (standard-bit n l) ∙ zero_or n l (eqb n 0) refl) ∙ first,
    number_same (bit v) (λ n. false) (λ n l. none n (ltb n 32) refl) ∙ nobody,
  )
    where
      zero_or : (n : ℕ) → n < 64 → (b : Bool) → eqb n 0 ≡ b → in_masks s u n ≡ b
      zero_or n l true e = ap (in_masks s u) (eqb-true n 0 e) ∙ h
      zero_or n l false e = let ne = eqb-false n 0 e in each-fails (in_masks s u) 1 95 g n (omega arith) (omega arith)

      none : (n : ℕ) → (b : Bool) → ltb n 32 ≡ b → bit v n ≡ false
      none n true e = let l = ltb-true n 32 e in sym (user-bit n l) ∙ each-fails (in_masks s u) 1 95 g (64 + n) (omega arith) (omega arith)
      none n false e = retired n (ltb-false n 32 e)

  numbers-alone : as_number (bit s) ≡ 1 → as_number (bit v) ≡ 0 → (in_masks s u 0 ≡ true) × (any (in_masks s u) others ≡ false)
  unfolding others
  numbers-alone h g = (
    standard-bit 0 (omega arith) ∙ of-standard 0 (omega arith),
    none_passes (in_masks s u) 1 95 (λ a l k. at a l k (ltb a 64) refl),
  )
    where
      of-standard : (n : ℕ) → n < 64 → bit s n ≡ eqb n 0
      of-standard n l = sym (in-number (bit s) n l) ∙ ap (λ (m : ℕ). in_number m n) (h ∙ sym first) ∙ in-number (λ i. eqb i 0) n l

      of-user : (n : ℕ) → n < 64 → bit v n ≡ false
      of-user n l = sym (in-number (bit v) n l) ∙ ap (λ (m : ℕ). in_number m n) (g ∙ sym nobody) ∙ in-number (λ i. false) n l

      at : (a : ℕ) → 1 ≤ a → a < 1 + 95 → (b : Bool) → ltb a 64 ≡ b → in_masks s u a ≡ false
      at a l k true e = let z = ltb-true a 64 e in standard-bit a z ∙ of-standard a z ∙ ne_eqb a 0 (λ i. omega arith)
      at a l k false e =
          let z = ltb-false a 64 e in
          let i : a ≡ 64 + (a - 64) = omega arith in
          ap (in_masks s u) i ∙ user-bit (a - 64) (omega arith) ∙ of-user (a - 64) (omega arith)

  -- test by test as the code has it
  not-alone : (m : ℕ) → m ≡ as_number (bit s) → (m ≡ 1 → ⊥) → false ≡ in_masks s u 0 && not (any (in_masks s u) others)
  not-alone m i n = go (in_masks s u 0) refl (any (in_masks s u) others) refl
    where
      go : (b : Bool) → in_masks s u 0 ≡ b → (c : Bool) → any (in_masks s u) others ≡ c → false ≡ b && not c
      go true e true f = refl
      go true e false f = absurd (n (i ∙ (alone-numbers e f).0))
      go false e c f = refl

  alone : (m : ℕ) → m ≡ as_number (bit s) → m ≡ 1 → (k : ℕ) → k ≡ as_number (bit v) → eqb k 0 ≡ in_masks s u 0 && not (any (in_masks s u) others)
  alone m i one k j = go (eqb k 0) refl (in_masks s u 0) refl (any (in_masks s u) others) refl
    where
      go : (x : Bool) → eqb k 0 ≡ x → (b : Bool) → in_masks s u 0 ≡ b → (c : Bool) → any (in_masks s u) others ≡ c → x ≡ b && not c
      go true y b e c f = let z = numbers-alone (sym i ∙ one) (sym j ∙ eqb-true k 0 y) in sym (ap₂ (λ (p q : Bool). p && not q) (sym e ∙ z.0) (sym f ∙ z.1))
      go false y true e false f = absurd (eqb-false k 0 y (j ∙ (alone-numbers e f).1))
      go false y true e true f = refl
      go false y false e c f = refl

-- of a user mask itself
pub whole-read : (u : List ℕ) (k : ℕ) → bit (take (user_bytes (length u)) u) k ≡ ltb k 32 && bit u k
whole-read u k = user-read u (length u) k ∙ ap (λ (l : List ℕ). ltb k 32 && bit l k) (take_all (length u) u (omega arith))

module _ (s u : List ℕ) (m : ℕ) (i : m ≡ as_number (bit s)) where
  pub alone-not : (m ≡ 1 → ⊥) → false ≡ in_masks s u 0 && not (any (in_masks s u) others)
  alone-not = not-alone s u (take (user_bytes (length u)) u) (whole-read u) m i

  -- as the code lends it
  pub alone-if : m ≡ 1 → (few k : ℕ) → few ≡ user_bytes (length u) → k ≡ as_number (bit (take few u)) → eqb k 0 ≡ in_masks s u 0 && not (any (in_masks s u) others)
  alone-if one few k is j = alone s u (take (user_bytes (length u)) u) (whole-read u) m i one k (j ∙ ap (λ (n : ℕ). as_number (bit (take n u))) is)
