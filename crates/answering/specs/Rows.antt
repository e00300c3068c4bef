-- The reply of a value by where it stands in the run: "row" is its place and length, or none where the kind is absent.
use Rattle.std.specs.Prelude.{List, ℕ, ◌+◌, ◌≤◌, Option, Some, None}
use Rattle.linkstate.specs.Kinds.{Form, form_of}
use Rattle.linkstate.specs.Replies.{Place, Reply, absent, found}
use Rattle.linkstate.specs.Attributes.{reading_as}
use Rattle.octets.specs.declared.Span.{Span}
use Rattle.answering.specs.Standing.{Readable, standing}

-- K4, R12. Absent, or what stands there reads as.
abbrev pub row_answer : List ℕ → (ℕ → Place) → ℕ → Option Span → Reply
row_answer s spot code None = absent
row_answer s spot code (Some row) = found (reading_as (form_of code) spot (standing s row.place row.len))

-- A row that is absent, or lies within a run of n bytes with a length that its form can be read at.
abbrev pub ReadableRow : Form → ℕ → Option Span → Type 0
ReadableRow form n None = Unit {0}
ReadableRow form n (Some row) = (row.place + row.len ≤ n) × Readable form row.len
