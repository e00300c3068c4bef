-- A written mask has exactly the bits of its test (`bit_mask`), and any mask of 0, 4 or 8 bytes that has these bits is at least as long (`mask-least`).
use mathlib.Core.Path.{◌≡◌, refl, sym, ap, ◌∙◌}
use mathlib.Core.Logic.{◌⊎◌, inl, inr}
use mathlib.Core.Bool.{Bool, true, false, cond, ◌||◌, false≢true}
use mathlib.Core.List.{List}
use Prim.Native.Nat.{ℕ, zero, suc, ◌+◌, ◌-◌, ◌*◌, ◌/◌, ◌%◌, ◌^◌, ◌≤◌, ◌<◌, zero-le}
use native.Mathlib.Nat.{le_refl, zero-div}
use native.Mathlib.Omega.{arith}
use borrow.Author.Tests.{eqb-true, ltb-true, ltb-false}
use lib.Dec.{eqb, ltb}
use lib.ListN.{length, length-map, get_or-eq_default}
use Rattle.linkstate.specs.Masks.{bit, one, powers_below, as_number, Last, none, last, last_below, bytes_to_hold, mask_size, mask_byte, mask}
use Rattle.linkstate.specs.BgpLs.{is_mask_length}
use Rattle.linkstate.proofs.ListLaws.{length-numbers, get_d-numbers}

-- ---- the last set bit

-- What `last_below` finds: none, or one that passes the test, and none behind it does.
data LastOf (k : ℕ) (p : ℕ → Bool) : Last → Type 0 where
  no_last : ((n : ℕ) → n < k → p n ≡ false) → LastOf k p none
  is_last : {n : ℕ} → n < k → p n ≡ true → ((i : ℕ) → n < i → i < k → p i ≡ false) → LastOf k p (last n)

last_of : (k : ℕ) (p : ℕ → Bool) → LastOf k p (last_below k p)
unfolding last_below
last_of zero p = no_last (λ n h. absurd (omega arith))
last_of (suc k) p = go (p k) refl (last_of k p)
  where
    upto : {l : Last} → p k ≡ false → LastOf k p l → LastOf (suc k) p l
    upto e (no_last f) = no_last (λ n h. here n h (ltb n k) refl)
      where
        here : (n : ℕ) → n < suc k → (b : Bool) → ltb n k ≡ b → p n ≡ false
        here n h true d = f n (ltb-true n k d)
        here n h false d = ap p (omega (arith, ltb-false n k d)) ∙ e
    upto e (is_last {n = n} l d f) = is_last {n = n} (omega arith) d (λ i h g. here i h g (ltb i k) refl)
      where
        here : (i : ℕ) → n < i → i < suc k → (b : Bool) → ltb i k ≡ b → p i ≡ false
        here i h g true c = f i h (ltb-true i k c)
        here i h g false c = ap p (omega (arith, ltb-false i k c)) ∙ e

    go : (b : Bool) → p k ≡ b → LastOf k p (last_below k p) → LastOf (suc k) p (cond b (last k) (last_below k p))
    go true e r = is_last {n = k} (omega arith) e (λ i h g. absurd (omega arith))
    go false e r = upto e r

-- ---- sizes

pub mask-small : (p : ℕ → Bool) → mask_size p ≤ 8
unfolding mask_size bytes_to_hold
mask-small p = go (last_below 64 p)
  where
    size : (b : Bool) → cond b 4 8 ≤ 8
    size true = omega arith
    size false = omega arith

    go : (l : Last) → bytes_to_hold l ≤ 8
    go none = zero-le
    go (last n) = size (ltb n 32)

pub size-is-length : (p : ℕ → Bool) → is_mask_length (mask_size p) ≡ true
unfolding mask_size bytes_to_hold is_mask_length
size-is-length p = go (last_below 64 p)
  where
    size : (b : Bool) → eqb (cond b 4 8) 0 || eqb (cond b 4 8) 4 || eqb (cond b 4 8) 8 ≡ true
    size true = refl
    size false = refl

    go : (l : Last) → eqb (bytes_to_hold l) 0 || eqb (bytes_to_hold l) 4 || eqb (bytes_to_hold l) 8 ≡ true
    go none = refl
    go (last n) = size (ltb n 32)

pub no_bits : mask_size (λ n. false) ≡ 0
unfolding mask_size last_below bytes_to_hold
no_bits = refl

pub length-mask : (p : ℕ → Bool) → length (mask p) ≡ mask_size p
unfolding mask
length-mask p = simp (length-map, length-numbers)

-- ---- a mask that is read

-- A set bit stands in a byte of the mask.
pub bit_length : (m : List ℕ) (n : ℕ) → bit m n ≡ true → n / 8 < length m
unfolding bit
bit_length m n h = go (ltb (n / 8) (length m)) refl
  where
    go : (b : Bool) → ltb (n / 8) (length m) ≡ b → n / 8 < length m
    go true e = ltb-true (n / 8) (length m) e
    go false e = absurd (false≢true (rw (get_or-eq_default m 0 (ltb-false (n / 8) (length m) e), zero-div) at h))

length-cases : (n : ℕ) → is_mask_length n ≡ true → (n ≡ 0) ⊎ ((n ≡ 4) ⊎ (n ≡ 8))
unfolding is_mask_length
length-cases n h = go (eqb n 0) refl (eqb n 4) refl h
  where
    go : (b : Bool) → eqb n 0 ≡ b → (c : Bool) → eqb n 4 ≡ c → b || c || eqb n 8 ≡ true → (n ≡ 0) ⊎ ((n ≡ 4) ⊎ (n ≡ 8))
    go true e c d k = inl (eqb-true n 0 e)
    go false e true d k = inr (inl (eqb-true n 4 d))
    go false e false d k = inr (inr (eqb-true n 8 k))

-- The bytes that hold bit n are no more than those of any mask that has it.
holds : (l n : ℕ) → is_mask_length l ≡ true → n / 8 < l → bytes_to_hold (last n) ≤ l
unfolding bytes_to_hold
holds l n h k = go (length-cases l h) (ltb n 32) refl
  where
    go : (l ≡ 0) ⊎ ((l ≡ 4) ⊎ (l ≡ 8)) → (b : Bool) → ltb n 32 ≡ b → cond b 4 8 ≤ l
    go (inl e) b d = absurd (omega arith)
    go (inr (inl e)) true d = omega arith
    go (inr (inl e)) false d = absurd (omega (arith, ltb-false n 32 d))
    go (inr (inr e)) true d = omega arith
    go (inr (inr e)) false d = omega arith

-- The written mask is the least: where each bit of the test stands in a mask of 0, 4 or 8 bytes that is no longer than s, it is no longer than s.
pub mask-least : (p : ℕ → Bool) (s : ℕ) → ((n : ℕ) → n < 64 → p n ≡ true → (l : ℕ) × (is_mask_length l ≡ true) × (n / 8 < l) × (l ≤ s)) → mask_size p ≤ s
unfolding mask_size bytes_to_hold
mask-least p s h = go (last_of 64 p)
  where
    go : {x : Last} → LastOf 64 p x → bytes_to_hold x ≤ s
    go (no_last f) = zero-le
    go (is_last {n = n} l e f) = let r = h n l e in omega (arith, holds r.0 n r.1 r.2, r.3)

-- ---- a mask that is written

pub one-le : (b : Bool) → one b ≤ 1
unfolding one
one-le true = le_refl 1
one-le false = zero-le

one_bit : (b : Bool) → eqb (one b) 1 ≡ b
unfolding one
one_bit true = refl
one_bit false = refl

module _ (p : ℕ → Bool) (b : ℕ) where
  pub ones : (one (p b) ≤ 1) × (one (p (b + 1)) ≤ 1) × (one (p (b + 2)) ≤ 1) × (one (p (b + 3)) ≤ 1) × (one (p (b + 4)) ≤ 1) × (one (p (b + 5)) ≤ 1) × (one (p (b + 6)) ≤ 1) × (one (p (b + 7)) ≤ 1)
  ones = (one-le (p b), one-le (p (b + 1)), one-le (p (b + 2)), one-le (p (b + 3)), one-le (p (b + 4)), one-le (p (b + 5)), one-le (p (b + 6)), one-le (p (b + 7)))

  digit : (d i : ℕ) → mask_byte p b / d % 2 ≡ one (p i) → eqb (mask_byte p b / d % 2) 1 ≡ p i
  digit d i e = ap (λ (x : ℕ). eqb x 1) e ∙ one_bit (p i)

  -- Bit j of a byte is the test at b + j.
  pub bit_byte : (j : ℕ) → j < 8 → eqb (mask_byte p b / 2 ^ (7 - j) % 2) 1 ≡ p (b + j)
  unfolding mask_byte
  bit_byte zero h = digit 128 b (omega (arith, ones)) ∙ ap p (omega arith)
  bit_byte (suc zero) h = digit 64 (b + 1) (omega (arith, ones))
  bit_byte (suc (suc zero)) h = digit 32 (b + 2) (omega (arith, ones))
  bit_byte (suc (suc (suc zero))) h = digit 16 (b + 3) (omega (arith, ones))
  bit_byte (suc (suc (suc (suc zero)))) h = digit 8 (b + 4) (omega (arith, ones))
  bit_byte (suc (suc (suc (suc (suc zero))))) h = digit 4 (b + 5) (omega (arith, ones))
  bit_byte (suc (suc (suc (suc (suc (suc zero)))))) h = digit 2 (b + 6) (omega (arith, ones))
  bit_byte (suc (suc (suc (suc (suc (suc (suc zero))))))) h = digit 1 (b + 7) (omega (arith, ones))
  bit_byte (suc (suc (suc (suc (suc (suc (suc (suc j)))))))) h = absurd (omega arith)

module _ (p : ℕ → Bool) (n : ℕ) (h : n < 64) where
  bit_in : n / 8 < mask_size p → bit (mask p) n ≡ p n
  unfolding bit mask
  bit_in k =
      rw (get_d-numbers (λ i. mask_byte p (8 * i)) (mask_size p) 0 (n / 8))
      (bit_byte p (8 * (0 + n / 8)) (n % 8) (omega arith) ∙ ap p (omega arith))

  -- Beyond its size a mask needs no bit.
  bit-out : mask_size p ≤ n / 8 → p n ≡ false
  unfolding mask_size bytes_to_hold
  bit-out k = go (last_of 64 p) k
    where
      go : {x : Last} → LastOf 64 p x → bytes_to_hold x ≤ n / 8 → p n ≡ false
      go (no_last f) l = f n h
      go (is_last {n = i} c e f) l = f n (behind (ltb i 32) refl l) h
        where
          behind : (b : Bool) → ltb i 32 ≡ b → cond b 4 8 ≤ n / 8 → i < n
          behind true d q = omega (arith, ltb-true i 32 d)
          behind false d q = absurd (omega arith)

  -- The mask has exactly the bits of the test.
  pub bit_mask : bit (mask p) n ≡ p n
  bit_mask = go (ltb (n / 8) (mask_size p)) refl (bit (mask p) n) refl
    where
      go : (b : Bool) → ltb (n / 8) (mask_size p) ≡ b → (c : Bool) → bit (mask p) n ≡ c → bit (mask p) n ≡ p n
      go true e c d = bit_in (ltb-true (n / 8) (mask_size p) e)
      go false e true d = absurd (omega (arith, bit_length (mask p) n d, length-mask p, ltb-false (n / 8) (mask_size p) e))
      go false e false d = d ∙ sym (bit-out (ltb-false (n / 8) (mask_size p) e))

-- ---- a set as a number

pub powers-same : (k : ℕ) (p q : ℕ → Bool) → ((n : ℕ) → n < k → p n ≡ q n) → powers_below k p ≡ powers_below k q
unfolding powers_below
powers-same zero p q h = refl
powers-same (suc k) p q h = cc (powers-same k p q (λ n l. h n (omega arith)), h k (omega arith))

pub number_same : (p q : ℕ → Bool) → ((n : ℕ) → n < 64 → p n ≡ q n) → as_number p ≡ as_number q
unfolding as_number
number_same p q h = powers-same 64 p q h
