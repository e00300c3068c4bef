-- What the functions on sets of applications answer.
use Rattle.std.specs.Prelude.{◌≡◌, Option, Some, None, MatchOption, Bool, true, false, ◌&&◌, ◌||◌, List, [], ◌∷◌, ℕ, ◌+◌, ◌-◌, ◌*◌, ◌/◌, ◌%◌, ◌<◌, leb, eqb, not}
use Rattle.linkstate.specs.Masks.{Last, none, last, in_number}
use Rattle.masks.specs.declared.Bits.{Bits}

abbrev pub last_of : Option ℕ → Last
last_of None = none
last_of (Some n) = last n

-- t is the lowest of the k bits of x that are set, and rest is x without it.
pub record Lowest (k x t rest : ℕ) : Type 0 where
  pub inside : t < k
  pub none : (j : ℕ) → j < t → in_number x j ≡ false
  pub there : in_number x t ≡ true
  pub cleared : (j : ℕ) → in_number rest j ≡ in_number x j && not (eqb j t)

-- A turn of a walk over the set bits of a word: it takes the lowest, where there is one.
abbrev pub Takes : Bits → Option ℕ → Bits → Type 0
Takes s r after = MatchOption r ((s.0 ≡ 0) × (after.0 ≡ 0)) (λ t. Lowest 64 s.0 t after.0)

-- The number whose bytes these are, the first the lowest.
unfoldable pub little_endian : List ℕ → ℕ
little_endian [] = 0
little_endian (b ∷ bs) = little_endian bs * 256 + b

-- The place of bit n when the bits of each byte are in the other order.
unfoldable pub turned_place : ℕ → ℕ
turned_place n = n / 8 * 8 + (7 - n % 8)

-- Whether application n is in the mask that has this number's bytes, the first the lowest.
abbrev pub in_sent : ℕ → ℕ → Bool
in_sent m n = in_number m (turned_place n)

-- The low four bytes of a number, the lowest first.
unfoldable pub four_bytes : ℕ → List ℕ
four_bytes m = m % 256 ∷ m / 256 % 256 ∷ m / 65536 % 256 ∷ m / 16777216 % 256 ∷ []

-- Bit n of a set p whose bits at the places of q change places with those k above.
unfoldable pub exchanged : (q p : ℕ → Bool) → ℕ → ℕ → Bool
exchanged q p k n = q n && p (k + n) || leb k n && (q (n - k) && p (n - k))
