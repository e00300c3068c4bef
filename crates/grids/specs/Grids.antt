-- A set as a grid over a run, one row per kind, of place and length or absent (rules K2, W7), and the values that it stands for.
use Rattle.std.specs.Prelude.{◌≡◌, Option, Some, None, cond, List, [], ℕ, ◌+◌, ◌≤◌, eqb, length, get_or}
use Rattle.linkstate.specs.Limits.{most_bytes}
use Rattle.linkstate.specs.Bytes.{bytes_of_words}
use Rattle.linkstate.specs.Kinds.{link_codes, is_link_code}
use Rattle.kinds.specs.Rules.{grid_codes, row_in}
use Rattle.tlv_bytes.specs.Tlvs.{value_at}
use Rattle.octets.specs.declared.Span.{Span}

-- W7. The value of a row; none where the row is absent, which has no length.
abbrev pub row_value : List ℕ → List ℕ → List ℕ
row_value run r = value_at run (get_or r 0 0) (get_or r 1 0)

-- W7. The value of one of the ten kinds.
unfoldable pub grid_value : List ℕ → List (List ℕ) → ℕ → List ℕ
grid_value run g c = row_value run (get_or g (row_in grid_codes c) [])

-- K2. The set of a grid and its SRLGs.
unfoldable pub set_of : List ℕ → List (List ℕ) → List ℕ → ℕ → List ℕ
set_of run g ns c = cond (eqb c 1096) (bytes_of_words ns) (grid_value run g c)

-- K2. The link's bandwidths, by three rows.
unfoldable pub bandwidth_of : List ℕ → List (List ℕ) → ℕ → List ℕ
bandwidth_of run l c = row_value run (get_or l (row_in link_codes c) [])

-- L2. What stands at the top of a run: bandwidths and a set.
unfoldable pub top_of : List ℕ → List (List ℕ) → List (List ℕ) → List ℕ → ℕ → List ℕ
top_of run l g ns c = cond (is_link_code c) (bandwidth_of run l c) (set_of run g ns c)

-- A row that fits a run.
pub record RowFits (run r : List ℕ) : Type 0 where
  pub within : get_or r 0 0 + get_or r 1 0 ≤ length run
  pub short : get_or r 1 0 ≤ most_bytes

abbrev pub Fits : List ℕ → List (List ℕ) → Type 0
Fits run g = (k : ℕ) → RowFits run (get_or g k [])

-- Two rows of one kind: not one of three bytes, before which BGP-LS has a zero, and one of four. So they stand for the same value where they have the same bytes.
abbrev pub Alike : List ℕ → List ℕ → Type 0
Alike x y = (get_or x 1 0 ≡ 3 → get_or y 1 0 ≡ 4 → ⊥) × (get_or x 1 0 ≡ 4 → get_or y 1 0 ≡ 3 → ⊥)

-- A row as the code takes it.
abbrev pub row_read : List ℕ → Option Span
row_read r = cond (eqb (get_or r 1 0) 0) None (Some record { place = get_or r 0 0; len = get_or r 1 0 })
