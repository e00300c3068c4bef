-- The table of a link's sets: a row of twelve numbers for each slot. Ten cells, one a kind: place + 65536 * length in the run, 0 where it is absent; a mark, and the size of the set's TLVs.
-- Slot 0 is the general set, 1 the legacy values, 2 the link's bandwidths (three cells), and from 3 on come those of applications.
use Rattle.std.specs.Prelude.{◌≡◌, List, [], ◌∷◌, map, ℕ, ◌/◌, ◌%◌, ◌<◌, length, get_or}
use Rattle.linkstate.specs.Lists.{numbers}
use Rattle.masks.specs.Sets.{turned_place}
use Rattle.kinds.specs.Rules.{grid_codes}
use Rattle.tlv_bytes.specs.Tlvs.{in_tlvs}
use Rattle.grids.specs.Grids.{grid_value, Fits, Alike}

-- Number k of a slot's row; a cell as place and length.
abbrev pub cell : List (List ℕ) → ℕ → ℕ → ℕ
cell sets s k = get_or (get_or sets s []) k 0

abbrev pub cell_row : ℕ → List ℕ
cell_row c = c % 65536 ∷ c / 65536 ∷ []

-- The grid of a slot's row; that of a slot, and the rows of the link's bandwidths.
unfoldable pub row_grid : List ℕ → List (List ℕ)
row_grid r = map (λ k. cell_row (get_or r k 0)) (numbers 0 10)

unfoldable pub slot_grid : List (List ℕ) → ℕ → List (List ℕ)
slot_grid sets s = map (λ k. cell_row (cell sets s k)) (numbers 0 10)

unfoldable pub link_rows : List (List ℕ) → List (List ℕ)
link_rows sets = map (λ k. cell_row (cell sets 2 k)) (numbers 0 3)

-- The values of a slot, kinds ascending; its mark, and its size.
abbrev pub slot_values : List ℕ → List (List ℕ) → ℕ → List (List ℕ)
slot_values run sets s = map (grid_value run (slot_grid sets s)) grid_codes

abbrev pub slot_mark : List (List ℕ) → ℕ → ℕ
slot_mark sets s = cell sets s 10

abbrev pub slot_size : List (List ℕ) → ℕ → ℕ
slot_size sets s = cell sets s 11

-- The slots that stand for a set: all but the one of the link's bandwidths.
pub record IsSet (sets : List (List ℕ)) (s : ℕ) : Type 0 where
  pub inside : s < length sets
  pub other : s ≡ 2 → ⊥

-- A table over a run, as long as it has slots: every cell fits the run; of one kind no value has three bytes and another four; equal values have equal marks, so that a mark
-- can rule a slot out; a size is that of the set's TLVs.
pub record Slots (run : List ℕ) (sets : List (List ℕ)) : Type 0 where
  pub fits : (s : ℕ) → s < length sets → Fits run (slot_grid sets s)
  pub alike : (s t k : ℕ) → IsSet sets s → IsSet sets t → Alike (get_or (slot_grid sets s) k []) (get_or (slot_grid sets t) k [])
  pub marked : (s t : ℕ) → IsSet sets s → IsSet sets t → slot_values run sets s ≡ slot_values run sets t → slot_mark sets s ≡ slot_mark sets t
  pub sized : (s : ℕ) → IsSet sets s → slot_size sets s ≡ length (in_tlvs (grid_value run (slot_grid sets s)) grid_codes)

-- The slot of application n, in a table of slot and class by the bit of a sent mask: standard from 0 on, user from 64 on.
unfoldable pub slot_of : List (List ℕ) → ℕ → ℕ
slot_of own n = get_or (get_or own (turned_place n) []) 0 0
