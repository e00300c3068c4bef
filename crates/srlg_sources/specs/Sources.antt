-- Keys of SRLG numbers and sources, and what is left of a table of sources when the keys are ranked.
use Rattle.std.specs.Prelude.{◌≡◌, Bool, true, ◌&&◌, ◌||◌, List, [], map, ℕ, ◌+◌, ◌*◌, ◌/◌, ◌≤◌, ◌<◌, ltb, eqb, length, get_or, set, take, replicate}
use Rattle.linkstate.specs.Limits.{most_numbers}
use Rattle.linkstate.specs.Lists.{numbers, any, member}
use Rattle.linkstate.specs.Bytes.{distinct}
use Rattle.linkstate.specs.Masks.{in_number}
use Rattle.srlg_ranks.specs.Ranks.{in_words}
use Rattle.key_sort.specs.Keys.{number, group}

-- A number of a source as a key: the number in its low 32 bits, the source above them.
unfoldable pub key_of : ℕ → ℕ → ℕ
key_of source v = v + source * 4294967296

-- Numbers of 32 bits.
abbrev pub Small : List ℕ → Type 0
Small ws = (i : ℕ) → get_or ws i 0 < 4294967296

unfoldable pub source_of : ℕ → ℕ
source_of key = key / 4294967296

-- Whether a key's source has a row among n.
unfoldable pub in_rows : ℕ → ℕ → Bool
in_rows n key = ltb (source_of key) n

-- The numbers of source j among keys, in the order of the keys.
unfoldable pub numbers_of : ℕ → List ℕ → List ℕ
numbers_of j keys = map number (group source_of j keys)

-- The row of a source without bits, for the applications of two masks.
unfoldable pub source_row : ℕ → ℕ → List ℕ
source_row standard user = set (set (replicate 18 0) 16 standard) 17 user

-- Rows after the bit of place p was set for a source. A row is 18 words: the bits of a shorter one are not told.
pub record Marked (rows : List (List ℕ)) (source p : ℕ) (after : List (List ℕ)) : Type 0 where
  pub wide : (j : ℕ) → length (get_or after j []) ≡ length (get_or rows j [])
  pub bits : (j i : ℕ) → length (get_or rows j []) ≡ 18 → i < most_numbers → in_words (get_or after j []) i ≡ in_words (get_or rows j []) i || (eqb source j && eqb i p)
  pub masks : (j k : ℕ) → 16 ≤ k → get_or (get_or after j []) k 0 ≡ get_or (get_or rows j []) k 0

-- The first r values are the different numbers of the keys, ascending, and each row has got the bits of its source's numbers; the masks stay.
pub record Ranked (keys values : List ℕ) (r : ℕ) (rows after : List (List ℕ)) : Type 0 where
  pub few : r ≤ length keys
  pub numbers : take r values ≡ distinct (map number keys)
  pub wide : (j : ℕ) → length (get_or after j []) ≡ length (get_or rows j [])
  pub bits : (j i : ℕ) → length (get_or rows j []) ≡ 18 → i < most_numbers
      → in_words (get_or after j []) i ≡ in_words (get_or rows j []) i || (ltb i r && member (get_or values i 0) (numbers_of j keys))
  pub masks : (j k : ℕ) → 16 ≤ k → get_or (get_or after j []) k 0 ≡ get_or (get_or rows j []) k 0

-- The same of keys in any order, which stand sorted in the end.
pub record Ordered (keys values : List ℕ) (r : ℕ) (rows after : List (List ℕ)) : Type 0 where
  pub few : r ≤ length keys
  pub room : r ≤ length values
  pub numbers : take r values ≡ distinct (map number keys)
  pub wide : (j : ℕ) → length (get_or after j []) ≡ length (get_or rows j [])
  pub bits : (j i : ℕ) → length (get_or rows j []) ≡ 18 → i < most_numbers
      → in_words (get_or after j []) i ≡ in_words (get_or rows j []) i || (ltb i r && member (get_or values i 0) (numbers_of j keys))
  pub masks : (j k : ℕ) → 16 ≤ k → get_or (get_or after j []) k 0 ≡ get_or (get_or rows j []) k 0

-- The sources of a word, its lowest bit for source `base`, have rows.
abbrev pub InRows : List (List ℕ) → ℕ → ℕ → Type 0
InRows rows base set = (j : ℕ) → j < 64 → in_number set j ≡ true → base + j < length rows

-- Whether one of them has the number at place i.
unfoldable pub in_some : List (List ℕ) → ℕ → ℕ → ℕ → Bool
in_some rows base set i = any (λ j. in_number set j && in_words (get_or rows (base + j) []) i) (numbers 0 64)
