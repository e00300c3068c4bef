-- Applications and the masks that name them (rules I7 to I11, L4; RFC 8919 section 4.1, RFC 9294 section 2).
use Rattle.std.specs.Prelude.{Bool, true, false, cond, ◌&&◌, List, map, ℕ, zero, suc, ◌+◌, ◌-◌, ◌*◌, ◌/◌, ◌%◌, ◌^◌, eqb, ltb, get_or}
use Rattle.linkstate.specs.Lists.{numbers}
use Rattle.linkstate.specs.Limits.{standard_numbers, applications, other_applications}

-- I9, I10. Whether bit n of a mask is set, counted from the top bit of the first byte; one that is not sent is not set.
unfoldable pub bit : List ℕ → ℕ → Bool
bit mask n = eqb (get_or mask (n / 8) 0 / 2 ^ (7 - n % 8) % 2) 1

-- I7, I8. An application as one number: standard n is n, user n is 64 + n; RSVP-TE is 0.
unfoldable pub user : ℕ → ℕ
user n = standard_numbers + n

-- A8, I11, E12a. Whether a standard and a user mask have an application's bit set, registered or not; a user bit from 32 on counts as 0.
unfoldable pub in_masks : List ℕ → List ℕ → ℕ → Bool
in_masks standard_mask user_mask a = cond (ltb a standard_numbers) (bit standard_mask a) (ltb a applications && bit user_mask (a - standard_numbers))

-- E12a. The applications other than RSVP-TE, standard before user.
unfoldable pub others : List ℕ
others = numbers 1 other_applications

unfoldable pub one : Bool → ℕ
one true = 1
one false = 0

-- I5. Application n as 2 to the n: the sum over the numbers below k that pass the test.
unfoldable pub powers_below : ℕ → (ℕ → Bool) → ℕ
powers_below zero p = 0
powers_below (suc k) p = powers_below k p + one (p k) * 2 ^ k

unfoldable pub as_number : (ℕ → Bool) → ℕ
as_number p = powers_below standard_numbers p

-- Whether n stands in a set that is kept as such a number.
unfoldable pub in_number : ℕ → ℕ → Bool
in_number m n = eqb (m / 2 ^ n % 2) 1

-- The last number below k that passes the test, if any.
pub data Last : Type 0 where
  none : Last
  last : ℕ → Last

unfoldable pub last_below : ℕ → (ℕ → Bool) → Last
last_below zero p = none
last_below (suc k) p = cond (p k) (last k) (last_below k p)

-- L4. The least of 0, 4 and 8 bytes that holds the last set bit.
unfoldable pub bytes_to_hold : Last → ℕ
bytes_to_hold none = 0
bytes_to_hold (last n) = cond (ltb n 32) 4 8

unfoldable pub mask_size : (ℕ → Bool) → ℕ
mask_size p = bytes_to_hold (last_below standard_numbers p)

-- The byte whose bits, from the top, are the test at n, n + 1, .., n + 7.
unfoldable pub mask_byte : (ℕ → Bool) → ℕ → ℕ
mask_byte p n =
    128 * one (p n) + 64 * one (p (n + 1)) + 32 * one (p (n + 2)) + 16 * one (p (n + 3)) + 8 * one (p (n + 4)) + 4 * one (p (n + 5)) + 2 * one (p (n + 6))
    + one (p (n + 7))

-- The mask of the numbers below 64 that pass the test.
unfoldable pub mask : (ℕ → Bool) → List ℕ
mask p = map (λ i. mask_byte p (8 * i)) (numbers 0 (mask_size p))
