-- SRLGs of a link in tables of rows over one ascending list of its different numbers, `values`.
-- A source's row is 16 words of bits, bit i for the number at place i of the list, and the two masks of its advertisement as sent.
-- A class's row is its sources as two words of bits, how many numbers it has, and where its bytes stand once they are written, 0 before.
use Rattle.std.specs.Prelude.{◌≡◌, Bool, true, false, ◌&&◌, List, [], ℕ, ◌≤◌, ◌<◌, length, get_or}
use Rattle.linkstate.specs.Limits.{most_sources, most_numbers}
use Rattle.linkstate.specs.Lists.{numbers, any}
use Rattle.masks.specs.Sets.{turned_place}
use Rattle.srlg_ranks.specs.Ranks.{keep_from, in_words}

-- Whether source j is one of a class's.
unfoldable pub has_source : List ℕ → ℕ → Bool
has_source class j = in_words class j

-- Whether a source of the class has the number at place i.
unfoldable pub in_class : List (List ℕ) → List ℕ → ℕ → Bool
in_class rows class i = any (λ j. has_source class j && in_words (get_or rows j []) i) (numbers 0 most_sources)

-- The numbers that a class stands for: those that some source of it has, ascending as the list is.
unfoldable pub class_numbers : List ℕ → List (List ℕ) → List ℕ → List ℕ
class_numbers values rows class = keep_from (in_class rows class) 0 values

-- A class whose numbers can be read: its sources are rows, their bits are numbers of the list, and it has its count. Its place does not matter here.
pub record Class (values : List ℕ) (rows : List (List ℕ)) (class : List ℕ) : Type 0 where
  pub sources : (j : ℕ) → j < most_sources → has_source class j ≡ true → j < length rows
  pub within : (i : ℕ) → length values ≤ i → i < most_numbers → in_class rows class i ≡ false
  pub counted : get_or class 2 0 ≡ length (class_numbers values rows class)

-- A table of n classes, none of them written: class 0 is empty, and no two have the same numbers.
pub record Classed (values : List ℕ) (rows classes : List (List ℕ)) (n : ℕ) : Type 0 where
  pub room : n ≤ length classes
  pub class : (c : ℕ) → c < n → Class values rows (get_or classes c [])
  pub unwritten : (c : ℕ) → c < n → get_or (get_or classes c []) 3 0 ≡ 0
  pub none : (0 < n) × (class_numbers values rows (get_or classes 0 []) ≡ [])
  pub different : (c d : ℕ) → c < n → d < n → class_numbers values rows (get_or classes c []) ≡ class_numbers values rows (get_or classes d []) → c ≡ d

-- The class of application n, in a table of slot and class by the bit of a sent mask: standard from 0 on, user from 64 on.
unfoldable pub class_of : List (List ℕ) → ℕ → ℕ
class_of own n = get_or (get_or own (turned_place n) []) 1 0
