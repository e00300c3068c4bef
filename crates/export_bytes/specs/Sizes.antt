-- How many bytes an export has, by the tables that it is written from. Entry 0 of the groups is the general set: slot 0, its class, and no member.
use Rattle.std.specs.Prelude.{cond, List, [], ℕ, zero, suc, ◌+◌, ◌-◌, ◌≤◌, ◌<◌, eqb, length, get_or}
use Rattle.linkstate.specs.Limits.{most_numbers}
use Rattle.tlv_bytes.specs.Tlvs.{value_size}
use Rattle.set_bytes.specs.Standing.{srlg_size, count_in}
use Rattle.grids.specs.Slots.{cell, cell_row, slot_size}
use Rattle.tlv_bytes.specs.Fronts.{front_size}
use Rattle.set_groups.specs.Table.{word, slot_in, class_in}
use Rattle.export_bytes.specs.declared.Asla.{Asla}

-- An entry of the groups, as the code takes it.
abbrev pub asla_of : List ℕ → Asla
asla_of h = record { members = record { standard = get_or h 0 0; user = get_or h 1 0 }; slot = slot_in (get_or h 2 0); class = class_in (get_or h 2 0) }

-- The TLVs of a set by slot and class; an ASLA TLV.
unfoldable pub set_size : List (List ℕ) → List (List ℕ) → ℕ → ℕ → ℕ
set_size sets classes s c = slot_size sets s + srlg_size (count_in classes c)

unfoldable pub asla_size : List (List ℕ) → List (List ℕ) → Asla → ℕ
asla_size sets classes e = front_size e.members + set_size sets classes e.slot e.class

-- The TLVs of the link's bandwidths, of the first k of them.
unfoldable pub row_size : List ℕ → ℕ
row_size r = cond (eqb (get_or r 1 0) 0) 0 (value_size (get_or r 1 0))

unfoldable pub link_size : List (List ℕ) → ℕ → ℕ
link_size sets zero = 0
link_size sets (suc k) = link_size sets k + row_size (cell_row (cell sets 2 k))

-- L3. The first entry that is written: the general set's, if it is not empty.
unfoldable pub first_entry : List (List ℕ) → List (List ℕ) → List (List ℕ) → ℕ
first_entry sets classes groups = cond (eqb (set_size sets classes (slot_in (word groups 0)) (class_in (word groups 0))) 0) 1 0

-- The sum of n numbers from a place on; the ASLA TLVs of entries; and all TLVs, with RSVP-TE's set by slot and class.
unfoldable pub sum_from : (ℕ → ℕ) → ℕ → ℕ → ℕ
sum_from f from zero = 0
sum_from f from (suc n) = sum_from f from n + f (from + n)

abbrev pub entry_size : List (List ℕ) → List (List ℕ) → List (List ℕ) → ℕ → ℕ
entry_size sets classes groups i = asla_size sets classes (asla_of (get_or groups i []))

unfoldable pub whole_size : List (List ℕ) → List (List ℕ) → List (List ℕ) → ℕ → ℕ → ℕ → ℕ
whole_size sets classes groups from s c = link_size sets 3 + set_size sets classes s c + sum_from (entry_size sets classes groups) from (length groups - from)

-- Tables that can be measured: slots and classes are in them, and no class has too many numbers.
pub record Measurable (sets classes groups : List (List ℕ)) : Type 0 where
  pub link : 2 < length sets
  pub few : (c : ℕ) → c < length classes → count_in classes c ≤ most_numbers
  pub some : 1 ≤ length groups
  pub most : length groups ≤ 128
  pub slot : (i : ℕ) → i < length groups → slot_in (word groups i) < length sets
  pub class : (i : ℕ) → i < length groups → class_in (word groups i) < length classes
