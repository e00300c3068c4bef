-- The table of groups, from entry 1 on: the two masks of its members as sent, and slot + 256 * class + 65536 * the last entry before it in its bucket, 0 where there is none.
use Rattle.std.specs.Prelude.{◌≡◌, Option, MatchOption, Bool, true, false, List, [], map, ℕ, suc, ◌+◌, ◌-◌, ◌/◌, ◌%◌, ◌≤◌, ◌<◌, length, get_or}
use Rattle.std.specs.Int.Bits.{bit_xor}
use Rattle.linkstate.specs.Lists.{numbers, keep}
use Rattle.linkstate.specs.Masks.{in_number}
use Rattle.linkstate.specs.Meaning.{Meaning, row}
use Rattle.srlg_sources.specs.Classes.{class_of}
use Rattle.grids.specs.Grids.{set_of}
use Rattle.grids.specs.Slots.{slot_grid, slot_values, slot_mark, IsSet, slot_of}
use Rattle.set_groups.specs.Groups.{Group, group, join, groups_below}

-- An entry's third number, its word, and what that says.
abbrev pub word : List (List ℕ) → ℕ → ℕ
word groups i = get_or (get_or groups i []) 2 0

abbrev pub slot_in : ℕ → ℕ
slot_in x = x % 256

abbrev pub class_in : ℕ → ℕ
class_in x = x / 256 % 256

abbrev pub next_in : ℕ → ℕ
next_in x = x / 65536

-- The bucket of a mark and a class; of an entry.
unfoldable pub bucket_of : ℕ → ℕ → ℕ
bucket_of mark class = bit_xor (bit_xor mark (mark / 65536)) class % 128

abbrev pub bucket_in : List (List ℕ) → (ℕ → ℕ) → ℕ → ℕ
bucket_in sets w i = bucket_of (slot_mark sets (slot_in (w i))) (class_in (w i))

-- Whether an entry's word says the set of a slot and a class: the same class, and the same values.
pub record Same (run : List ℕ) (sets : List (List ℕ)) (x s c : ℕ) : Type 0 where
  pub class : class_in x ≡ c
  pub values : slot_values run sets (slot_in x) ≡ slot_values run sets s

-- A test that tells whether P holds.
pub record Tells (P : Type 0) (r : Bool) : Type 0 where
  pub yes : r ≡ true → P
  pub no : r ≡ false → P → ⊥

-- r is the last entry before i whose bucket is b, 0 where there is none.
pub record Latest (bucket : ℕ → ℕ) (b i r : ℕ) : Type 0 where
  pub below : r < i
  pub there : (r ≡ 0 → ⊥) → bucket r ≡ b
  pub between : (j : ℕ) → r < j → j < i → bucket j ≡ b → ⊥

-- Entries up to `count`, by their words: each has a slot of the table of sets and leads to the one before it in its bucket, and no two have the same set.
pub record Entries (run : List ℕ) (sets : List (List ℕ)) (w : ℕ → ℕ) (count : ℕ) : Type 0 where
  pub some : 1 ≤ count
  pub most : count ≤ 128
  pub slot : (i : ℕ) → 1 ≤ i → i < count → IsSet sets (slot_in (w i))
  pub next : (i : ℕ) → 1 ≤ i → i < count → Latest (bucket_in sets w) (bucket_in sets w i) i (next_in (w i))
  pub apart : (i j : ℕ) → 1 ≤ i → i < count → 1 ≤ j → j < count → (i ≡ j → ⊥) → Same run sets (w i) (slot_in (w j)) (class_in (w j)) → ⊥

-- With the last entry of each bucket.
pub record Chained (run : List ℕ) (sets : List (List ℕ)) (w : ℕ → ℕ) (buckets : List ℕ) (count : ℕ) : Type 0 where
  pub entries : Entries run sets w count
  pub of_buckets : length buckets ≡ 128
  pub first : (b : ℕ) → b < 128 → Latest (bucket_in sets w) b count (get_or buckets b 0)

-- r is the entry with the set of a slot and a class, if there is one.
abbrev pub Finds : List ℕ → List (List ℕ) → (ℕ → ℕ) → ℕ → ℕ → ℕ → Option ℕ → Type 0
Finds run sets w count s c r =
    MatchOption r ((j : ℕ) → 1 ≤ j → j < count → Same run sets (w j) s c → ⊥) (λ i. (1 ≤ i) × (i < count) × Same run sets (w i) s c)

-- The groups that a table stands for, by the numbers of each class.
unfoldable pub entry_group : List ℕ → List (List ℕ) → (ℕ → List ℕ) → List ℕ → Group
entry_group run sets srlgs h = group (row (set_of run (slot_grid sets (slot_in (get_or h 2 0))) (srlgs (class_in (get_or h 2 0))))) (get_or h 0 0) (get_or h 1 0)

unfoldable pub table_groups : List ℕ → List (List ℕ) → (ℕ → List ℕ) → List (List ℕ) → ℕ → List Group
table_groups run sets srlgs groups count = map (λ i. entry_group run sets srlgs (get_or groups i [])) (numbers 1 (count - 1))

-- Of the first k classes no two have the same numbers.
abbrev pub Differ : (ℕ → List ℕ) → ℕ → Type 0
Differ srlgs k = (c d : ℕ) → c < k → d < k → srlgs c ≡ srlgs d → c ≡ d

-- What is left of a table, with r entries, once application n with the set of a slot and a class has joined.
pub record Joined (run : List ℕ) (sets : List (List ℕ)) (n s c : ℕ) (groups : List (List ℕ)) (count r : ℕ) (groups' : List (List ℕ)) (buckets' : List ℕ) : Type 0 where
  pub chained : Chained run sets (word groups') buckets' r
  pub more : r ≤ suc count
  pub stays : (i : ℕ) → i < count → word groups' i ≡ word groups i
  pub new : (i : ℕ) → count ≤ i → i < r → (slot_in (word groups' i) ≡ s) × (class_in (word groups' i) ≡ c)
  pub joins : (srlgs : ℕ → List ℕ) (k : ℕ) → Differ srlgs k → c < k → ((i : ℕ) → 1 ≤ i → i < count → class_in (word groups i) < k)
      → table_groups run sets srlgs groups' r ≡ join n (row (set_of run (slot_grid sets s) (srlgs c))) (table_groups run sets srlgs groups count)

-- ---- filled from the slots and the classes of applications

-- How many of the numbers from n on pass a test.
abbrev pub left : (ℕ → Bool) → ℕ → ℕ
left p n = length (keep p (numbers n (128 - n)))

-- The applications other than RSVP-TE that pass a test.
pub record Named (p : ℕ → Bool) (n : ℕ) : Type 0 where
  pub low : 1 ≤ n
  pub high : n < 128
  pub passes : p n ≡ true

-- Each of them has a slot and a class, by `own`.
pub record Placed (sets own : List (List ℕ)) (p : ℕ → Bool) : Type 0 where
  pub slot : (n : ℕ) → Named p n → IsSet sets (slot_of own n)
  pub few : (n : ℕ) → Named p n → (slot_of own n < 256) × (class_of own n < 256)

-- They are those that a meaning names, and have its sets.
pub record Gives (m : Meaning) (run : List ℕ) (sets own : List (List ℕ)) (srlgs : ℕ → List ℕ) (p : ℕ → Bool) : Type 0 where
  pub only : (n : ℕ) → m.named n ≡ true → (1 ≤ n) × (n < 96)
  pub named : (n : ℕ) → 1 ≤ n → n < 128 → m.named n ≡ p n
  pub set : (n : ℕ) → Named p n → row (set_of run (slot_grid sets (slot_of own n)) (srlgs (class_of own n))) ≡ row (m.set n)

-- Every entry has the slot and the class of one of them.
abbrev pub Owned : List (List ℕ) → (ℕ → Bool) → List (List ℕ) → ℕ → Type 0
Owned own p groups count = (i : ℕ) → 1 ≤ i → i < count → (n : ℕ) × Named p n × (slot_in (word groups i) ≡ slot_of own n) × (class_in (word groups i) ≡ class_of own n)

-- The groups below n that a table stands for, of every meaning that the slots and classes give.
abbrev pub Grouped : List ℕ → List (List ℕ) → List (List ℕ) → (ℕ → Bool) → List (List ℕ) → ℕ → ℕ → Type 0
Grouped run sets own p groups count n =
    (srlgs : ℕ → List ℕ) (k : ℕ) → Differ srlgs k → ((i : ℕ) → Named p i → class_of own i < k) → (m : Meaning) → Gives m run sets own srlgs p → table_groups run sets srlgs groups count ≡ groups_below m n

-- The table of the groups of all of them below n.
pub record Begun (run : List ℕ) (sets own : List (List ℕ)) (p : ℕ → Bool) (n count : ℕ) (groups : List (List ℕ)) (buckets : List ℕ) : Type 0 where
  pub low : count ≤ n
  pub high : n ≤ 128
  pub chained : Chained run sets (word groups) buckets count
  pub owned : Owned own p groups count
  pub grouped : Grouped run sets own p groups count n
  pub room : count + left p n ≤ length groups

-- Of the 64 applications from `base` on, those from n on that pass a test are the bits of a word.
pub record Ahead (p : ℕ → Bool) (base n x : ℕ) : Type 0 where
  pub high : n ≤ base + 64
  pub here : (j : ℕ) → n ≤ j → j < base + 64 → (base ≤ j) × (p j ≡ in_number x (j - base))
  pub past : (j : ℕ) → j < 64 → in_number x j ≡ true → n ≤ base + j

-- The table of the groups of all.
pub record Filled (run : List ℕ) (sets own : List (List ℕ)) (p : ℕ → Bool) (groups : List (List ℕ)) (count : ℕ) : Type 0 where
  pub some : 1 ≤ count
  pub most : count ≤ 128
  pub room : count ≤ length groups
  pub owned : Owned own p groups count
  pub grouped : Grouped run sets own p groups count 128
