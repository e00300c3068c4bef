-- That words and a list are what a question is answered by, and the words of a value by where it stands.
use Rattle.std.specs.Prelude.{◌≡◌, List, ℕ, Option, None, Some}
use Rattle.linkstate.specs.Bytes.{number, bytes_at}
use Rattle.linkstate.specs.Kinds.{form_of}
use Rattle.linkstate.specs.Replies.{Place}
use Rattle.linkstate.specs.Attributes.{reading_as}
use Rattle.linkstate.specs.Questions.{Source, Subject, ask}
use Rattle.octets.specs.declared.Span.{Span}
use Rattle.answering.specs.Standing.{standing}
use Rattle.statuses.specs.Words.{nothing, reading_words, ask_words}

abbrev pub Answers : Source → Subject → ℕ → List ℕ → List ℕ → List ℕ → Type 0
Answers s whom k list w after = (w ≡ ask_words s whom k list) × (after ≡ (ask s whom k list).list)

-- What the value of a code reads as that stands in bytes s, with the bits of its own bytes; nothing where there is none.
abbrev pub row_words : List ℕ → (ℕ → Place) → ℕ → Option Span → List ℕ
row_words s spot k None = nothing
row_words s spot k (Some row) = reading_words (number (bytes_at s row.place row.len)) (reading_as (form_of k) spot (standing s row.place row.len))
