-- The table of a link's sets while it is filled. A value that comes to a cell stays there, and one that comes later changes nothing (rule W5).
use Rattle.std.specs.Prelude.{◌≡◌, Bool, true, false, cond, ◌&&◌, not, List, [], map, ℕ, zero, suc, ◌+◌, ◌-◌, ◌*◌, ◌/◌, ◌%◌, ◌≤◌, ◌<◌, eqb, leb, length, get_or, set, replicate}
use Rattle.linkstate.specs.Limits.{most_bytes}
use Rattle.linkstate.specs.Lists.{any, numbers}
use Rattle.linkstate.specs.Masks.{one, in_number}
use Rattle.masks.specs.Sets.{turned_place}
use Rattle.grids.specs.Grids.{row_value}
use Rattle.grids.specs.Slots.{cell, cell_row, IsSet}
use Rattle.tlv_bytes.specs.Tlvs.{front, value_at}
use Rattle.set_table.specs.Marks.{value_mark, set_mark, set_size}
use Rattle.masks.specs.declared.Applications.{Applications}
use Rattle.masks.specs.Applications.{at_place}

-- A cell of place and length.
abbrev pub cell_of : ℕ → ℕ → ℕ
cell_of place n = place + 65536 * n

-- W5. The first of two values that come to a cell; 0 is none.
unfoldable pub first : ℕ → ℕ → ℕ
first x y = cond (eqb x 0) y x

-- A cell that fits a run; one that is taken has a length.
pub record CellFits (run : List ℕ) (c : ℕ) : Type 0 where
  pub within : c % 65536 + c / 65536 ≤ length run
  pub short : c / 65536 ≤ most_bytes
  pub some : (c ≡ 0 → ⊥) → 0 < c / 65536

-- The values of a row's ten cells.
unfoldable pub row_values : List ℕ → List ℕ → List (List ℕ)
row_values run row = map (λ k. row_value run (cell_row (get_or row k 0))) (numbers 0 10)

-- A row of the table: twelve numbers, cells that fit the run; for a set, its mark and size by its values.
pub record Fitting (run row : List ℕ) : Type 0 where
  pub twelve : length row ≡ 12
  pub fits : (k : ℕ) → k < 10 → CellFits run (get_or row k 0)

pub record Summed (run row : List ℕ) : Type 0 where
  pub mark : get_or row 10 0 ≡ set_mark (row_values run row)
  pub size : get_or row 11 0 ≡ set_size (row_values run row)

pub record Table (run : List ℕ) (sets : List (List ℕ)) : Type 0 where
  pub rows : (s : ℕ) → s < length sets → Fitting run (get_or sets s [])
  pub sums : (s : ℕ) → IsSet sets s → Summed run (get_or sets s [])

-- What a table has become where g came to its cells, 0 for nothing.
pub record Given (sets after : List (List ℕ)) (g : ℕ → ℕ → ℕ) : Type 0 where
  pub same : length after ≡ length sets
  pub cells : (s k : ℕ) → s < length sets → k < 10 → cell after s k ≡ first (cell sets s k) (g s k)

-- One value for one cell.
abbrev pub only_at : ℕ → ℕ → ℕ → ℕ → ℕ → ℕ
only_at s k c t j = cond (eqb t s && eqb j k) c 0

-- A value of a kind that stands in a run, not at its first byte.
pub record Value (run : List ℕ) (place n : ℕ) : Type 0 where
  pub within : place + n ≤ length run
  pub low : place < 65536
  pub some : 0 < n
  pub short : n ≤ most_bytes

-- A row with a value in a cell, and its mark and size; and a table with such a row.
abbrev pub entered_row : List ℕ → ℕ → ℕ → ℕ → ℕ → List ℕ
entered_row row k c mark size = set (set (set row 10 ((get_or row 10 0 + mark) % 4294967296)) 11 (get_or row 11 0 + size)) k c

abbrev pub entered : List (List ℕ) → ℕ → ℕ → ℕ → ℕ → ℕ → List (List ℕ)
entered sets s k c mark size = set sets s (entered_row (get_or sets s []) k c mark size)

-- What is entered for a value of kind k: its cell, mark and size.
pub record Entry (run : List ℕ) (k place n c m z : ℕ) : Type 0 where
  pub value : Value run place n
  pub cell : c ≡ cell_of place n
  pub mark : m ≡ value_mark k (value_at run place n)
  pub size : z ≡ 4 + (length (front n) + n)

-- The slot at a place of two masks as sent: standard from 0 on, user from 64 on.
abbrev pub slot_at : List (List ℕ) → ℕ → ℕ
slot_at own p = get_or (get_or own p []) 0 0

-- Whether a slot is that of a bit of a mask, whose lowest is at place `base`; and what comes to the cells of kind k of such slots.
unfoldable pub reached : List (List ℕ) → ℕ → ℕ → ℕ → Bool
reached own base bits s = any (λ j. in_number bits j && eqb (slot_at own (base + j)) s) (numbers 0 64)

abbrev pub to_reached : List (List ℕ) → ℕ → ℕ → ℕ → ℕ → ℕ → ℕ → ℕ
to_reached own base bits k c s j = cond (eqb j k && reached own base bits s) c 0

-- The slots of a mask's bits: each stands for a set, has no value of kind k, and is that of one bit alone.
pub record Free (sets own : List (List ℕ)) (base bits k : ℕ) : Type 0 where
  pub stand : (j : ℕ) → j < 64 → in_number bits j ≡ true → IsSet sets (slot_at own (base + j))
  pub free : (j : ℕ) → j < 64 → in_number bits j ≡ true → cell sets (slot_at own (base + j)) k ≡ 0
  pub apart : (i j : ℕ) → i < 64 → j < 64 → in_number bits i ≡ true → in_number bits j ≡ true → slot_at own (base + i) ≡ slot_at own (base + j) → i ≡ j

-- Whether a slot is that of a place of a set, and what comes to the cells of kind k of such slots.
unfoldable pub reaches : List (List ℕ) → Applications → ℕ → Bool
reaches own m s = any (λ p. at_place m p && eqb (slot_at own p) s) (numbers 0 128)

abbrev pub to_named : List (List ℕ) → Applications → ℕ → ℕ → ℕ → ℕ → ℕ
to_named own m k c s j = cond (eqb j k && reaches own m s) c 0

-- The slots of the places of a set: each stands for a set, has no value of kind k, and is that of one place alone.
pub record Fresh (table own : List (List ℕ)) (m : Applications) (k : ℕ) : Type 0 where
  pub stand : (p : ℕ) → p < 128 → at_place m p ≡ true → IsSet table (slot_at own p)
  pub free : (p : ℕ) → p < 128 → at_place m p ≡ true → cell table (slot_at own p) k ≡ 0
  pub apart : (p q : ℕ) → p < 128 → q < 128 → at_place m p ≡ true → at_place m q ≡ true → slot_at own p ≡ slot_at own q → p ≡ q

-- The places that are named have a slot each, which stands for a set.
pub record Slotted (table own : List (List ℕ)) (names : ℕ → Bool) : Type 0 where
  pub stand : (p : ℕ) → p < 128 → names p ≡ true → IsSet table (slot_at own p)
  pub apart : (p q : ℕ) → p < 128 → q < 128 → names p ≡ true → names q ≡ true → slot_at own p ≡ slot_at own q → p ≡ q

-- The set of two numbers that stand in a row.
abbrev pub set_in : List ℕ → Applications
set_in row = record { standard = get_or row 0 0; user = get_or row 1 0 }

-- For each kind a row has the named places whose slot has a value of it.
pub record Having (table own have : List (List ℕ)) (names : ℕ → Bool) : Type 0 where
  pub ten : length have ≡ 10
  pub told : (k p : ℕ) → k < 10 → p < 128 → names p ≡ true → at_place (set_in (get_or have k [])) p ≡ not (eqb (cell table (slot_at own p) k) 0)

-- A set has named places only.
abbrev pub Within : Applications → (ℕ → Bool) → Type 0
Within m names = (p : ℕ) → p < 128 → at_place m p ≡ true → names p ≡ true

-- The table of slot and class by place: 128 rows of two.
pub record Owned (own : List (List ℕ)) : Type 0 where
  pub size : length own ≡ 128
  pub pairs : (p : ℕ) → p < 128 → length (get_or own p []) ≡ 2

-- Whether a mask, whose lowest bit is at place `base`, has a place.
unfoldable pub has_place : ℕ → ℕ → ℕ → Bool
has_place base bits p = leb base p && in_number bits (p - base)

-- Some places with another slot; slots of the others, and all classes, stay.
pub record Gave (own after : List (List ℕ)) (f : ℕ → Bool) (s : ℕ) : Type 0 where
  pub owned : Owned after
  pub slots : (p : ℕ) → p < 128 → slot_at after p ≡ cond (f p) s (slot_at own p)
  pub classes : (p : ℕ) → p < 128 → get_or (get_or after p []) 1 0 ≡ get_or (get_or own p []) 1 0

-- How many of the numbers below k pass the test.
unfoldable pub how_many : (ℕ → Bool) → ℕ → ℕ
how_many p zero = 0
how_many p (suc k) = how_many p k + one (p k)

-- An empty row.
abbrev pub empty_row : List ℕ
empty_row = replicate 12 0

-- The applications of a set, of which that of number 0 has place `base`, have slots from `from` on and below k, one each, whose rows are empty; all else is as it was.
pub record Assigned (own table after filled : List (List ℕ)) (base : ℕ) (d : ℕ → Bool) (from k : ℕ) : Type 0 where
  pub same : length filled ≡ length table
  pub owned : Owned after
  pub order : from ≤ k
  pub slots : (n : ℕ) → n < 64 → d n ≡ true → (from ≤ slot_at after (base + turned_place n)) × (slot_at after (base + turned_place n) < k)
  pub apart : (i j : ℕ) → i < 64 → j < 64 → d i ≡ true → d j ≡ true → slot_at after (base + turned_place i) ≡ slot_at after (base + turned_place j) → i ≡ j
  pub others : (p : ℕ) → ((n : ℕ) → n < 64 → d n ≡ true → p ≡ base + turned_place n → ⊥) → get_or after p [] ≡ get_or own p []
  pub emptied : (s : ℕ) → from ≤ s → s < k → get_or filled s [] ≡ empty_row
  pub kept : (s : ℕ) → s < from → get_or filled s [] ≡ get_or table s []
  pub classes : (p : ℕ) → get_or (get_or after p []) 1 0 ≡ get_or (get_or own p []) 1 0
  pub taken : (s : ℕ) → from ≤ s → s < k → (n : ℕ) × (n < 64) × (d n ≡ true) × (slot_at after (base + turned_place n) ≡ s)

-- The applications of a set, n at place n, have slots from 3 on and below k, one each, and every such slot is one of theirs; those rows and the first three are empty. The other places keep what
-- they have, and all keep their classes.
pub record Begun (own after filled : List (List ℕ)) (m : Applications) (k : ℕ) : Type 0 where
  pub owned : Owned after
  pub slots : (n : ℕ) → n < 128 → at_place m n ≡ true → (3 ≤ slot_at after (turned_place n)) × (slot_at after (turned_place n) < k)
  pub apart : (i j : ℕ) → i < 128 → j < 128 → at_place m i ≡ true → at_place m j ≡ true → slot_at after (turned_place i) ≡ slot_at after (turned_place j) → i ≡ j
  pub others : (n : ℕ) → n < 128 → at_place m n ≡ false → get_or after (turned_place n) [] ≡ get_or own (turned_place n) []
  pub emptied : (s : ℕ) → s < k → get_or filled s [] ≡ empty_row
  pub classes : (p : ℕ) → get_or (get_or after p []) 1 0 ≡ get_or (get_or own p []) 1 0
  pub taken : (s : ℕ) → 3 ≤ s → s < k → (n : ℕ) × (n < 128) × (at_place m n ≡ true) × (slot_at after (turned_place n) ≡ s)
