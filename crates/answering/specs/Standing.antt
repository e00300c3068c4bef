-- A value that stands in a run, and the lengths at which a form can be read.
use Rattle.std.specs.Prelude.{◌≡◌, List, ℕ, ◌≤◌}
use Rattle.linkstate.specs.Bytes.{bytes_at}
use Rattle.linkstate.specs.Kinds.{Form, whole_number, two_numbers, float, place_and_length, srlg_count}
use Rattle.linkstate.specs.Attributes.{Attribute}

-- The attribute of the bytes at a place, whatever its kind.
unfoldable pub standing : List ℕ → ℕ → ℕ → Attribute
standing s at len = record { code = 0; at = at; len = len; value = bytes_at s at len }

-- Three or four bytes make a whole number, eight two numbers, four a float; SRLGs are counted elsewhere.
abbrev pub Readable : Form → ℕ → Type 0
Readable whole_number n = (3 ≤ n) × (n ≤ 4)
Readable two_numbers n = n ≡ 8
Readable float n = n ≡ 4
Readable place_and_length n = Unit {0}
Readable srlg_count n = ⊥
