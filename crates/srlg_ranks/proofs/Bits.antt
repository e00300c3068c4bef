-- Laws of the bits of a word: one bit more, and two words. Assumes nothing.
use Prim.Native.Nat.{ℕ, ◌+◌, ◌*◌, ◌/◌, ◌%◌, ◌^◌, ◌<◌}
use mathlib.Core.Path.{◌≡◌, refl, sym, ◌∙◌, ap}
use mathlib.Core.Bool.{Bool, ◌||◌}
use native.Mathlib.Nat.{div-eq_of_lt, one-mul, zero-div}
use native.Mathlib.Omega.{arith}
use borrow.Author.Tests.{eq-eqb, ne_eqb}
use lib.Dec.{eqb}
use lib.Pow.{pow-lt, pow_pos, high, shl_exact}
use lib.Bits.{bit_or, bit_xor, and_le_l, and_le_r, or_add_and, xor_add_and, xor_self}
use Rattle.linkstate.specs.Masks.{in_number}
use Rattle.srlg.proofs.Laws.{Order, less, more, same, order}
use Rattle.masks.proofs.Laws.{low_digit}
use Rattle.masks.proofs.Steps.{or-in}

-- The bit of a power.
power_in : (k j : ℕ) → in_number (2 ^ k) j ≡ eqb j k
unfolding in_number
power_in k j = go (order j k)
  where
    one-times : 0 + 1 * 2 ^ k ≡ 2 ^ k
    one-times = omega arith

    go : Order j k → eqb (2 ^ k / 2 ^ j % 2) 1 ≡ eqb j k
    go (less h) = ap (λ (x : ℕ). eqb x 1) (ap (λ (x : ℕ). x / 2 ^ j % 2) (sym one-times) ∙ low_digit 0 1 j k h ∙ ap (λ (x : ℕ). x % 2) (zero-div (2 ^ j))) ∙ sym (ne_eqb j k (λ e. omega arith))
    go (more h) = rw (div-eq_of_lt (pow-lt h)) (sym (ne_eqb j k (λ e. omega arith)))
    go (same e) =
        let f : 2 ^ k / 2 ^ k ≡ 1 = ap (λ (x : ℕ). x / 2 ^ k) (let g : 2 ^ k ≡ 1 * 2 ^ k + 0 = omega arith in g) ∙ high 1 k (pow_pos k) in
        rw (e, f) (sym (eq-eqb k k refl))

-- One bit more.
pub with_in : (x k : ℕ) → k < 64 → (j : ℕ) → in_number (bit_or x ((1 * 2 ^ k) % 2 ^ 64)) j ≡ in_number x j || eqb j k
with_in x k h j =
    or-in x ((1 * 2 ^ k) % 2 ^ 64) j
    ∙ ap (λ (y : ℕ). in_number x j || in_number y j) (shl_exact {a = 1} 1 k 64 (omega arith) (omega arith) ∙ one-mul (2 ^ k))
    ∙ ap (λ (b : Bool). in_number x j || b) (power_in k j)

-- Words that differ nowhere.
pub differ-none : (x y : ℕ) → bit_xor x y ≡ 0 → x ≡ y
differ-none x y e = omega (arith, xor_add_and x y, and_le_l x y, and_le_r x y)

pub differ_same : (x y : ℕ) → x ≡ y → bit_xor x y ≡ 0
differ_same x y e = ap (bit_xor x) (sym e) ∙ xor_self x

pub or-none : (x y : ℕ) → bit_or x y ≡ 0 → (x ≡ 0) × (y ≡ 0)
or-none x y e = (omega (arith, or_add_and x y, and_le_l x y, and_le_r x y), omega (arith, or_add_and x y, and_le_l x y, and_le_r x y))
