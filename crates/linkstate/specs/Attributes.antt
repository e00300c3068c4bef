-- Attributes that are read together (rules W5, W6, L11), and the reading of one (rule K4).
use Rattle.std.specs.Prelude.{cond, List, [], ◌∷◌, ℕ, ◌+◌, eqb, length, take, drop}
use Rattle.std.specs.Float.Ieee.{of_bits}
use Rattle.std.specs.Float.{binary32}
use Rattle.linkstate.specs.Lists.{keep, each}
use Rattle.linkstate.specs.Bytes.{number, words, distinct, bytes_of_words}
use Rattle.linkstate.specs.Kinds.{Form, whole_number, two_numbers, float, place_and_length, srlg_count, form_of}
use Rattle.linkstate.specs.Replies.{Place, Reading, whole, pair, bandwidth, part, count}

-- A link attribute: its kind's BGP-LS code, where its value stands in its run (the first byte's offset, the length), and its BGP-LS value bytes.
pub record Attribute : Type 0 where
  pub code : ℕ
  pub at : ℕ
  pub len : ℕ
  pub value : List ℕ

-- The attribute of an element with a header of w + w bytes, its type's code and its BGP-LS value bytes.
unfoldable pub attribute : ℕ → ℕ → List ℕ → ℕ → List ℕ → Attribute
attribute w at v code value = record { code = code; at = at + (w + w); len = length v; value = value }

-- W5, W6, L11. The attributes of one kind, in byte order.
unfoldable pub of_kind : ℕ → List Attribute → List Attribute
of_kind k ts = keep (λ t. eqb k t.code) ts

-- W5. The different SRLGs of attributes, ascending.
unfoldable pub srlgs : List Attribute → List ℕ
srlgs ts = distinct (each (λ t. words t.value) (of_kind 1096 ts))

unfoldable pub first_value : List Attribute → List ℕ
first_value [] = []
first_value (t ∷ ts) = t.value

-- W5, W6, L11, L16. A kind's value, as BGP-LS value bytes, none where it is absent: the first; for SRLG all.
unfoldable pub value_of : ℕ → List Attribute → List ℕ
value_of k ts = cond (eqb k 1096) (bytes_of_words (srlgs ts)) (first_value (of_kind k ts))

-- K4. The reading of a value, by its kind's form; `spot` tells the place of an offset. `of_bits` makes one NaN of every pattern of a NaN.
unfoldable pub reading_as : Form → (ℕ → Place) → Attribute → Reading
reading_as whole_number spot t = whole (number t.value)
reading_as two_numbers spot t = pair (number (take 4 t.value)) (number (drop 4 t.value))
reading_as float spot t = bandwidth (of_bits binary32 (number t.value))
reading_as place_and_length spot t = part (spot t.at) t.len
reading_as srlg_count spot t = count (length (distinct (words t.value)))

unfoldable pub reading : (ℕ → Place) → Attribute → Reading
reading spot t = reading_as (form_of t.code) spot t
