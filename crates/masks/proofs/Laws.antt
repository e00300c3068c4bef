-- Laws of masks. A set of applications is a test on numbers; it is kept as one number, application n as 2 to the n, and sent as the bytes of a mask.
-- Assumes nothing.
use mathlib.Core.Path.{◌≡◌, refl, sym, ap, ◌∙◌}
use mathlib.Core.Logic.{◌⊎◌, inl, inr, ⊎_elim}
use mathlib.Core.Bool.{Bool, true, false, cond, false≢true}
use mathlib.Core.List.{List, ◌∷◌}
use Prim.Native.Nat.{ℕ, zero, suc, ◌+◌, ◌-◌, ◌*◌, ◌/◌, ◌%◌, ◌^◌, ◌≤◌, ◌<◌, zero-le}
use native.Mathlib.Nat.{pow-suc, add-zero, mul_assoc, add_comm, add-mul-div_right, zero-div, mod-eq_of_lt}
use native.Mathlib.Numerals.{add-one}
use native.Mathlib.Omega.{arith}
use borrow.Author.Tests.{ltb-true, ltb-false}
use lib.Dec.{eqb, ltb}
use lib.Pow.{pow-add, pow_pos, high, mod-pow-add}
use lib.Bits.{shifted_even}
use lib.ListN.{length, take, drop, get_or, length-drop, get_or-eq_default}
use lib.Seq.{ext_get_or, get_or-drop, get_or-take, length-take-le}
use Rattle.linkstate.specs.Lists.{keep, numbers}
use Rattle.linkstate.specs.Masks.{bit, one, powers_below, as_number, in_number, Last, none, last, last_below, bytes_to_hold, mask_size, mask_byte, mask}
use Rattle.linkstate.proofs.ListLaws.{get_d-numbers}
use Rattle.linkstate.proofs.MaskLaws.{ones, bit_byte, length-mask, bit_mask, powers-same, number_same}

-- what holds of each number below k, and of k, holds of each below suc k
pub below_suc : (P : ℕ → Type 0) (k : ℕ) → ((n : ℕ) → n < k → P n) → P k → (n : ℕ) → n < suc k → P n
below_suc P k all here n h = go (ltb n k) refl
  where
    go : (b : Bool) → ltb n k ≡ b → P n
    go true e = all n (ltb-true n k e)
    go false e = let f : k ≡ n = omega (arith, ltb-false n k e) in rw f at here

-- ---- a truth as a digit

one-is : (b : Bool) → eqb (one b % 2) 1 ≡ b
unfolding one
one-is true = refl
one-is false = refl

pub digit-one : (d : ℕ) → d < 2 → one (eqb d 1) ≡ d
unfolding one
digit-one zero h = refl
digit-one (suc zero) h = refl
digit-one (suc (suc d)) h = absurd (omega arith)

-- ---- a set as a number

-- a digit below k is not changed by what is added above
pub low_digit : (x d n k : ℕ) → n < k → (x + d * 2 ^ k) / 2 ^ n % 2 ≡ x / 2 ^ n % 2
low_digit x d n k h =
    let e = k - suc n in
    let f : k ≡ suc e + n = omega arith in
    let g : d * 2 ^ k ≡ d * 2 ^ suc e * 2 ^ n = ap (λ (i : ℕ). d * 2 ^ i) f ∙ ap (λ (i : ℕ). d * i) (pow-add 2 (suc e) n) ∙ sym (mul_assoc d (2 ^ suc e) (2 ^ n)) in
    ap (λ (i : ℕ). (x + i) / 2 ^ n % 2) g ∙ ap (λ (i : ℕ). i % 2) (add-mul-div_right x (d * 2 ^ suc e) (pow_pos n)) ∙ omega (arith, shifted_even d e)

more_lt : (x k : ℕ) (b : Bool) → x < 2 ^ k → x + one b * 2 ^ k < 2 ^ suc k
unfolding one
more_lt x k true h = rw (pow-suc 2 k) (omega arith)
more_lt x k false h = rw (pow-suc 2 k) (omega arith)

pub powers-lt : (k : ℕ) (p : ℕ → Bool) → powers_below k p < 2 ^ k
unfolding powers_below
powers-lt zero p = omega arith
powers-lt (suc k) p = more_lt (powers_below k p) k (p k) (powers-lt k p)

top_digit : (x k d : ℕ) → x < 2 ^ k → (x + d * 2 ^ k) / 2 ^ k ≡ d
top_digit x k d h = ap (λ (i : ℕ). i / 2 ^ k) (add_comm x (d * 2 ^ k)) ∙ high d k h

powers-in : (k : ℕ) (p : ℕ → Bool) (n : ℕ) → n < k → in_number (powers_below k p) n ≡ p n
unfolding powers_below in_number
powers-in zero p n h = absurd (omega arith)
powers-in (suc k) p n h =
    let x = powers_below k p in
    let d = one (p k) in
    below_suc (λ (i : ℕ). eqb ((x + d * 2 ^ k) / 2 ^ i % 2) 1 ≡ p i) k
    (λ i l. ap (λ (j : ℕ). eqb j 1) (low_digit x d i k l) ∙ powers-in k p i l)
    (ap (λ (j : ℕ). eqb (j % 2) 1) (top_digit x k d (powers-lt k p)) ∙ one-is (p k)) n h

powers-of : (k m : ℕ) → powers_below k (in_number m) ≡ m % 2 ^ k
unfolding powers_below in_number
powers-of zero m = omega arith
powers-of (suc k) m =
    let e : suc k ≡ 1 + k = omega arith in
    let d : one (eqb (m / 2 ^ k % 2) 1) ≡ m / 2 ^ k % 2 = digit-one (m / 2 ^ k % 2) (omega arith) in
    rw (d, powers-of k m) (add_comm (m % 2 ^ k) (m / 2 ^ k % 2 * 2 ^ k) ∙ sym (mod-pow-add m 1 k) ∙ ap (λ (i : ℕ). m % 2 ^ i) (sym e))

module _ (p : ℕ → Bool) where
  pub in-number : (n : ℕ) → n < 64 → in_number (as_number p) n ≡ p n
  unfolding as_number
  in-number n h = powers-in 64 p n h

  pub number_lt : as_number p < 2 ^ 64
  unfolding as_number
  number_lt = powers-lt 64 p

pub number_of : (m : ℕ) → m < 2 ^ 64 → as_number (in_number m) ≡ m
unfolding as_number
number_of m h = powers-of 64 m ∙ mod-eq_of_lt h

-- numbers below 2 to the k with the same members are equal
pub same-members : (k m n : ℕ) → m < 2 ^ k → n < 2 ^ k → ((i : ℕ) → i < k → in_number m i ≡ in_number n i) → m ≡ n
same-members k m n h l e = sym (powers-of k m ∙ mod-eq_of_lt h) ∙ powers-same k (in_number m) (in_number n) e ∙ powers-of k n ∙ mod-eq_of_lt l

-- a number whose members are a set is that set's number
pub is_number : (m : ℕ) (p : ℕ → Bool) → m < 2 ^ 64 → ((i : ℕ) → i < 64 → in_number m i ≡ p i) → m ≡ as_number p
is_number m p h e = sym (number_of m h) ∙ number_same (in_number m) p e

-- ---- the last member

-- n is the last number below k that passes the test
pub record IsLast (k : ℕ) (p : ℕ → Bool) (n : ℕ) : Type 0 where
  pub below : n < k
  pub member : p n ≡ true
  pub later : (j : ℕ) → n < j → j < k → p j ≡ false

pub last_some : (k : ℕ) (p : ℕ → Bool) (n : ℕ) → last_below k p ≡ last n → IsLast k p n
unfolding last_below
last_some zero p n e = let z : ◌≡◌ {A = ℕ} 0 1 = cc in absurd (omega arith)
last_some (suc k) p n e = go (p k) refl (last_some k p n) e
  where
    go : (b : Bool) → p k ≡ b → (last_below k p ≡ last n → IsLast k p n) → cond b (last k) (last_below k p) ≡ last n → IsLast (suc k) p n
    go true d ih e = let f : k ≡ n = cc in record { below = omega arith; member = rw f at d; later = λ j l h. absurd (omega arith) }
    go false d ih e =
        let r = ih e in
        let l = r.below in
        record { below = omega arith; member = r.member; later = λ j i h. below_suc (λ (x : ℕ). n < x → p x ≡ false) k (λ x a b. r.later x b a) (λ a. d) j h i }

pub last_none : (k : ℕ) (p : ℕ → Bool) → last_below k p ≡ none → (j : ℕ) → j < k → p j ≡ false
unfolding last_below
last_none zero p e j h = absurd (omega arith)
last_none (suc k) p e j h = go (p k) refl (last_none k p) e
  where
    go : (b : Bool) → p k ≡ b → (last_below k p ≡ none → (i : ℕ) → i < k → p i ≡ false) → cond b (last k) (last_below k p) ≡ none → p j ≡ false
    go true d ih e = let z : ◌≡◌ {A = ℕ} 0 1 = cc in absurd (omega arith)
    go false d ih e = below_suc (λ (x : ℕ). p x ≡ false) k (ih e) d j h

-- the last member is the only number that is one
pub last-is : (k : ℕ) (p : ℕ → Bool) (n : ℕ) → IsLast k p n → last_below k p ≡ last n
last-is k p n r = go (last_below k p) refl
  where
    apart : (i : ℕ) → p i ≡ true → p i ≡ false → ⊥
    apart i a b = false≢true (sym b ∙ a)

    go : (l : Last) → last_below k p ≡ l → l ≡ last n
    go none e = absurd (apart n r.member (last_none k p e n r.below))
    go (last m) e = order (last_some k p m e) (ltb m n) refl (ltb n m) refl
      where
        order : IsLast k p m → (a : Bool) → ltb m n ≡ a → (b : Bool) → ltb n m ≡ b → last m ≡ last n
        order s true a b c = absurd (apart n r.member (s.later n (ltb-true m n a) r.below))
        order s false a true c = absurd (apart m s.member (r.later m (ltb-true n m c) s.below))
        order s false a false c = ap last (omega (arith, ltb-false m n a, ltb-false n m c))

pub none_is : (k : ℕ) (p : ℕ → Bool) → ((j : ℕ) → j < k → p j ≡ false) → last_below k p ≡ none
none_is k p h = go (last_below k p) refl
  where
    go : (l : Last) → last_below k p ≡ l → l ≡ none
    go none e = refl
    go (last m) e = let s = last_some k p m e in absurd (false≢true (sym (h m s.below) ∙ s.member))

pub last-same : (k : ℕ) (p q : ℕ → Bool) → ((n : ℕ) → n < k → p n ≡ q n) → last_below k p ≡ last_below k q
unfolding last_below
last-same zero p q h = refl
last-same (suc k) p q h = rw (h k (omega arith), last-same k p q (λ n l. h n (omega arith)))

-- ---- the size of a mask

-- the lengths that a mask can have
abbrev pub IsSize : ℕ → Type 0
IsSize k = (k ≡ 0) ⊎ ((k ≡ 4) ⊎ (k ≡ 8))

module _ (p : ℕ → Bool) where
  pub size-cases : IsSize (mask_size p)
  unfolding mask_size bytes_to_hold
  size-cases = go (last_below 64 p)
    where
      pick : (b : Bool) → IsSize (cond b 4 8)
      pick true = inr (inl refl)
      pick false = inr (inr refl)

      go : (l : Last) → IsSize (bytes_to_hold l)
      go none = inl refl
      go (last n) = pick (ltb n 32)

  pub size-le : mask_size p ≤ 8
  size-le = ⊎_elim (λ e. omega arith) (⊎_elim (λ e. omega arith) (λ e. omega arith)) size-cases

  -- a mask holds each member
  pub size_holds : (n : ℕ) → n < 64 → p n ≡ true → n < 8 * mask_size p
  unfolding mask_size bytes_to_hold
  size_holds n h m = go (last_below 64 p) refl
    where
      most : (j : ℕ) → IsLast 64 p j → (b : Bool) → ltb j n ≡ b → n ≤ j
      most j r true e = absurd (false≢true (sym (r.later n (ltb-true j n e) h) ∙ m))
      most j r false e = ltb-false j n e

      pick : (j : ℕ) → n ≤ j → (b : Bool) → ltb j 32 ≡ b → n < 8 * cond b 4 8
      pick j l true e = omega (arith, ltb-true j 32 e)
      pick j l false e = omega arith

      go : (l : Last) → last_below 64 p ≡ l → n < 8 * bytes_to_hold l
      go none e = absurd (false≢true (sym (last_none 64 p e n h) ∙ m))
      go (last j) e = pick j (most j (last_some 64 p j e) (ltb j n) refl) (ltb j 32) refl

  -- and no shorter one does
  pub size-least : (k : ℕ) → IsSize k → ((n : ℕ) → n < 64 → p n ≡ true → n < 8 * k) → mask_size p ≤ k
  unfolding mask_size bytes_to_hold
  size-least k s h = go (last_below 64 p) refl
    where
      pick : (j : ℕ) → j < 8 * k → (b : Bool) → ltb j 32 ≡ b → IsSize k → cond b 4 8 ≤ k
      pick j l b e (inl z) = absurd (omega arith)
      pick j l true e (inr (inl z)) = omega arith
      pick j l false e (inr (inl z)) = absurd (omega (arith, ltb-false j 32 e))
      pick j l true e (inr (inr z)) = omega arith
      pick j l false e (inr (inr z)) = omega arith

      go : (l : Last) → last_below 64 p ≡ l → bytes_to_hold l ≤ k
      go none e = zero-le
      go (last j) e = let r = last_some 64 p j e in pick j (h j r.below r.member) (ltb j 32) refl s

pub size_same : (p q : ℕ → Bool) → ((n : ℕ) → n < 64 → p n ≡ q n) → mask_size p ≡ mask_size q
unfolding mask_size
size_same p q h = ap bytes_to_hold (last-same 64 p q h)

-- ---- the bytes of a mask

-- a test's eight digits as a byte
module _ (p : ℕ → Bool) (n : ℕ) where
  byte-lt : mask_byte p n < 256
  unfolding mask_byte
  byte-lt = omega (arith, ones p n)

  -- from the bottom, the digits are the test at n + 7, n + 6, ..
  byte-in : (j : ℕ) → j < 8 → in_number (mask_byte p n) j ≡ p (n + (7 - j))
  unfolding in_number
  byte-in j h = let e : 7 - (7 - j) ≡ j = omega arith in rw e at (bit_byte p n (7 - j) (omega arith))

  pub byte-is : (x : ℕ) → x < 256 → ((j : ℕ) → j < 8 → in_number x j ≡ p (n + (7 - j))) → x ≡ mask_byte p n
  byte-is x h e = same-members 8 x (mask_byte p n) h byte-lt (λ j l. e j l ∙ sym (byte-in j l))

pub bit-beyond : (s : List ℕ) (n : ℕ) → 8 * length s ≤ n → bit s n ≡ false
unfolding bit
bit-beyond s n h = rw (get_or-eq_default s 0 {n = n / 8} (omega arith), zero-div)

-- a bit of the part of a run that a mask is
module _ (s : List ℕ) (at len n : ℕ) (fits : at + len ≤ length s) where
  part_length : length (take len (drop at s)) ≡ len
  part_length = length-take-le len (drop at s) (omega (arith, length-drop at s))

  pub part-beyond : len ≤ n / 8 → false ≡ bit (take len (drop at s)) n
  part-beyond h = sym (bit-beyond (take len (drop at s)) n (omega (arith, part_length)))

  pub part-bit : n / 8 < len → eqb (get_or s (at + n / 8) 0 / 2 ^ (7 - n % 8) % 2) 1 ≡ bit (take len (drop at s)) n
  unfolding bit
  part-bit h = ap (λ (x : ℕ). eqb (x / 2 ^ (7 - n % 8) % 2) 1) (sym (get_or-take len (drop at s) (n / 8) 0 h ∙ get_or-drop at s (n / 8) 0))

module _ (p : ℕ → Bool) where
  pub mask_at : (i : ℕ) → i < mask_size p → get_or (mask p) i 0 ≡ mask_byte p (8 * i)
  unfolding mask
  mask_at i h = get_d-numbers (λ j. mask_byte p (8 * j)) (mask_size p) 0 i h ∙ ap (λ (j : ℕ). mask_byte p (8 * j)) (omega arith)

  pub bit-above : (n : ℕ) → 64 ≤ n → bit (mask p) n ≡ false
  bit-above n h = bit-beyond (mask p) n (omega (arith, length-mask p, size-le p))

pub mask-same : (p q : ℕ → Bool) → ((n : ℕ) → n < 64 → p n ≡ q n) → mask p ≡ mask q
mask-same p q h =
    let e = size_same p q h in
    let l = length-mask p in
    let m = size-le p in
    ext_get_or 0 (mask p) (mask q) (l ∙ e ∙ sym (length-mask q)) (λ i k.
    mask_at p i (omega arith) ∙ byte-is q (8 * i) (mask_byte p (8 * i)) (byte-lt p (8 * i)) (λ j g. byte-in p (8 * i) j g ∙ h (8 * i + (7 - j)) (omega arith))
    ∙ sym (mask_at q i (omega arith)))

-- ---- a set, its number and its mask

module _ (p : ℕ → Bool) where
  pub size_number : mask_size (in_number (as_number p)) ≡ mask_size p
  size_number = size_same (in_number (as_number p)) p (in-number p)

  pub mask-number : mask (in_number (as_number p)) ≡ mask p
  mask-number = mask-same (in_number (as_number p)) p (in-number p)

  pub number-mask : as_number (bit (mask p)) ≡ as_number p
  number-mask = number_same (bit (mask p)) p (bit_mask p)

-- ---- a walk over the members below k, in order

module _ (p : ℕ → Bool) where
  skip : (d from n : ℕ) → ((j : ℕ) → from ≤ j → j < from + d → p j ≡ false) → keep p (numbers from (n + d)) ≡ keep p (numbers (from + d) n)
  unfolding keep numbers
  skip zero from n h = rw (add-zero n, add-zero from)
  skip (suc d) from n h =
      let e : n + suc d ≡ suc (n + d) = omega arith in
      let f : from + suc d ≡ suc from + d = omega arith in
      rw (e, f, h from (omega arith) (omega arith)) (skip d (suc from) n (λ j a b. h j (omega arith) (omega arith)))

  -- up to the next member there is none
  pub walk-next : (k from n : ℕ) → from ≤ n → n ≤ k → ((j : ℕ) → from ≤ j → j < n → p j ≡ false) → keep p (numbers from (k - from)) ≡ keep p (numbers n (k - n))
  walk-next k from n a b skips =
      let e : k - from ≡ k - n + (n - from) = omega arith in
      let f : from + (n - from) ≡ n = omega arith in
      ap (λ (i : ℕ). keep p (numbers from i)) e ∙ skip (n - from) from (k - n) (λ j c d. skips j c (omega arith)) ∙ ap (λ (i : ℕ). keep p (numbers i (k - n))) f

  -- and behind a member come those from one further on
  pub walk-member : (k n : ℕ) → n < k → p n ≡ true → keep p (numbers n (k - n)) ≡ n ∷ keep p (numbers (n + 1) (k - (n + 1)))
  unfolding keep numbers
  walk-member k n h e =
      let f : k - n ≡ suc (k - (n + 1)) = omega arith in
      rw (f, e, add-one n)
