-- The bits of a word: above its lowest digit those of its half, and its lowest bit. Assumes nothing.
use Prim.Native.Nat.{ℕ, zero, suc, ◌+◌, ◌-◌, ◌*◌, ◌/◌, ◌%◌, ◌^◌, ◌<◌, min}
use mathlib.Core.Path.{◌≡◌, refl, sym, ◌∙◌, ap}
use mathlib.Core.Bool.{Bool, true, false, ◌&&◌, not, and-true, and-false}
use native.Mathlib.Nat.{pow-suc}
use native.Mathlib.Omega.{arith}
use lib.Dec.{eqb, eqb-suc-zero, eqb-suc-suc}
use lib.Bits.{bit_and, and_step, and_self}
use lib.Count.{count_trailing_zeros, under}
use lib.Pow.{shr-shr}
use Rattle.linkstate.specs.Masks.{in_number}
use Rattle.masks.specs.Sets.{Lowest}

-- Above its lowest digit, a number has the bits of its half.
pub half_in : (m n : ℕ) → in_number m (suc n) ≡ in_number (m / 2) n
unfolding in_number
half_in m n = let e : suc n ≡ 1 + n = omega arith in rw e (ap (λ (x : ℕ). eqb (x % 2) 1) (sym (shr-shr m 1 n)))

pub even-in : (m : ℕ) → m % 2 ≡ 0 → in_number m 0 ≡ false
unfolding in_number
even-in m h = let e : m / 1 % 2 ≡ 0 = omega arith in rw e

pub odd-in : (m d : ℕ) → m % 2 ≡ suc d → in_number m 0 ≡ true
unfolding in_number
odd-in m d h = let e : m / 1 % 2 ≡ 1 = omega arith in rw e

-- ---- the lowest bit

-- m & (m - 1) of an even and of an odd number.
clear-even : (m : ℕ) → m % 2 ≡ 0 → bit_and m (m - 1) ≡ bit_and (m / 2) (m / 2 - 1) * 2
clear-even m e =
    let f : (m - 1) / 2 ≡ m / 2 - 1 = omega arith in
    let g = rw f at (and_step m (m - 1)) in
    let h : min (m % 2) ((m - 1) % 2) ≡ 0 = omega arith in
    omega arith

clear-odd : (m d : ℕ) → m % 2 ≡ suc d → bit_and m (m - 1) ≡ m / 2 * 2
clear-odd m d e =
    let f : (m - 1) / 2 ≡ m / 2 = omega arith in
    let g = rw (f, and_self (m / 2)) at (and_step m (m - 1)) in
    let h : min (m % 2) ((m - 1) % 2) ≡ 0 = omega arith in
    omega arith

-- The bits of twice a number.
twice-zero : (c x : ℕ) → c ≡ x * 2 → in_number c 0 ≡ false
twice-zero c x e = even-in c (omega arith)

twice-suc : (c x j : ℕ) → c ≡ x * 2 → in_number c (suc j) ≡ in_number x j
twice-suc c x j e = let f : c / 2 ≡ x = omega arith in half_in c j ∙ ap (λ (y : ℕ). in_number y j) f

-- From the lowest bit of the half of an even number, and for an odd one.
module _ (k m t : ℕ) (e : m % 2 ≡ 0) (r : Lowest k (m / 2) t (bit_and (m / 2) (m / 2 - 1))) where
  none-even : (j : ℕ) → j < suc t → in_number m j ≡ false
  none-even zero a = even-in m e
  none-even (suc j) a = half_in m j ∙ r.none j (omega arith)

  cleared-even : (j : ℕ) → in_number (bit_and m (m - 1)) j ≡ in_number m j && not (eqb j (suc t))
  cleared-even zero = twice-zero (bit_and m (m - 1)) (bit_and (m / 2) (m / 2 - 1)) (clear-even m e) ∙ sym (ap (λ (b : Bool). b && not (eqb 0 (suc t))) (even-in m e))
  cleared-even (suc j) = twice-suc (bit_and m (m - 1)) (bit_and (m / 2) (m / 2 - 1)) j (clear-even m e) ∙ r.cleared j ∙ rw (half_in m j, eqb-suc-suc j t)

  lowest-even : Lowest (suc k) m (suc t) (bit_and m (m - 1))
  lowest-even = let i = r.inside in record { inside = omega arith; none = none-even; there = half_in m t ∙ r.there; cleared = cleared-even }

module _ (k m d : ℕ) (e : m % 2 ≡ suc d) where
  cleared-odd : (j : ℕ) → in_number (bit_and m (m - 1)) j ≡ in_number m j && not (eqb j 0)
  cleared-odd zero = twice-zero (bit_and m (m - 1)) (m / 2) (clear-odd m d e) ∙ sym (and-false (in_number m 0))
  cleared-odd (suc j) = twice-suc (bit_and m (m - 1)) (m / 2) j (clear-odd m d e) ∙ rw (half_in m j, eqb-suc-zero j) (sym (and-true (in_number (m / 2) j)))

  lowest-odd : Lowest (suc k) m 0 (bit_and m (m - 1))
  lowest-odd = record { inside = omega arith; none = λ j a. absurd (omega arith); there = odd-in m d e; cleared = cleared-odd }

pub lowest : (k m : ℕ) → 0 < m → m < 2 ^ k → Lowest k m (count_trailing_zeros k m) (bit_and m (m - 1))
unfolding count_trailing_zeros
lowest zero m h l = absurd (omega arith)
lowest (suc k) m h l = go (m % 2) refl (lowest k (m / 2))
  where
    go : (d : ℕ) → m % 2 ≡ d → (0 < m / 2 → m / 2 < 2 ^ k → Lowest k (m / 2) (count_trailing_zeros k (m / 2)) (bit_and (m / 2) (m / 2 - 1))) → Lowest (suc k) m (under d (count_trailing_zeros k (m / 2))) (bit_and m (m - 1))
    go zero e ih = lowest-even k m (count_trailing_zeros k (m / 2)) e (ih (omega arith) (omega (arith, pow-suc 2 k)))
    go (suc d) e ih = lowest-odd k m d e
