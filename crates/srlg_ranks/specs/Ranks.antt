-- Sets of SRLGs as bits over one ascending list of numbers: the number at place i of the list is in a set if bit i is set.
use Rattle.std.specs.Prelude.{◌≡◌, Bool, true, false, cond, List, [], ◌∷◌, ℕ, suc, ◌/◌, ◌%◌, ◌≤◌, ◌<◌, ◌^◌, length, get_or}
use Rattle.linkstate.specs.Lists.{member}
use Rattle.linkstate.specs.Masks.{in_number}

-- The numbers of a list whose places, counted from i on, pass the test.
unfoldable pub keep_from : (ℕ → Bool) → ℕ → List ℕ → List ℕ
keep_from p i [] = []
keep_from p i (v ∷ vs) = cond (p i) (v ∷ keep_from p (suc i) vs) (keep_from p (suc i) vs)

-- Bit i of words of 64 bits each, the lowest first.
unfoldable pub in_words : List ℕ → ℕ → Bool
in_words ws i = in_number (get_or ws (i / 64) 0) (i % 64)

-- The set that bits stand for.
unfoldable pub picked : List ℕ → List ℕ → List ℕ
picked values ws = keep_from (in_words ws) 0 values

-- Bits are set only where the list has numbers.
abbrev pub Within : List ℕ → List ℕ → Type 0
Within values ws = (i : ℕ) → length values ≤ i → in_words ws i ≡ false

-- The same of one word's 64 bits.
abbrev pub Inside : List ℕ → ℕ → Type 0
Inside values x = (j : ℕ) → length values ≤ j → j < 64 → in_number x j ≡ false

-- Every number of a list stands in another.
abbrev pub Among : List ℕ → List ℕ → Type 0
Among xs ys = (n : ℕ) → member n xs ≡ true → member n ys ≡ true

-- Bits say which numbers of the list are members of xs.
abbrev pub Says : List ℕ → List ℕ → List ℕ → Type 0
Says values ws xs = (i : ℕ) → i < length values → in_words ws i ≡ member (get_or values i 0) xs

-- The greatest power of two that is not above n.
abbrev pub TopPower : ℕ → ℕ → Type 0
TopPower n r = (e : ℕ) × (r ≡ 2 ^ e) × (2 ^ e ≤ n) × (n < 2 ^ suc e)
