-- The row of a kind whose first value stands in the run: it can be read, answers for the kind, and has its bytes.
use mathlib.Core.Path.{◌≡◌, refl, sym, ap, ◌∙◌, subst}
use mathlib.Core.List.{List, [], ◌∷◌}
use Prim.Native.Nat.{ℕ, ◌+◌, ◌-◌, ◌≤◌}
use lib.ListN.{length, take, drop}
use Rattle.std.specs.Prelude.{Option, Some, None}
use Rattle.linkstate.specs.Bytes.{bytes_at}
use Rattle.linkstate.specs.Kinds.{form_of}
use Rattle.linkstate.specs.Replies.{Reply, Place, found}
use Rattle.linkstate.specs.Attributes.{Attribute, reading, reading_as}
use Rattle.linkstate.specs.Questions.{first_of, bytes_of_first}
use Rattle.octets.specs.declared.Span.{Span}
use Rattle.octets.specs.Spans.{found_in}
use Rattle.octets.proofs.Laws.{part-is}
use Rattle.answering.specs.Standing.{Readable, standing}
use Rattle.answering.specs.Rows.{ReadableRow, row_answer}

-- A value of the kind stands in the run: it lies there, its length can be read, and it reads as the bytes there do.
pub record StandsIn (s : List ℕ) (spot : ℕ → Place) (k : ℕ) (t : Attribute) : Type 0 where
  pub code : t.code ≡ k
  pub within : t.at + t.len ≤ length s
  pub readable : Readable (form_of k) t.len
  pub reads : reading_as (form_of k) spot t ≡ reading_as (form_of k) spot (standing s t.at t.len)

module _ (s : List ℕ) (spot : ℕ → Place) (k : ℕ) where
  readable-first : (ts : List Attribute) → ((t : Attribute) (us : List Attribute) → ts ≡ t ∷ us → StandsIn s spot k t) → ReadableRow (form_of k) (length s) (found_in ts)
  unfolding found_in
  readable-first [] h = tt
  readable-first (t ∷ ts) h = let x = h t ts refl in (x.within, x.readable)

  answers-first : (ts : List Attribute) → ((t : Attribute) (us : List Attribute) → ts ≡ t ∷ us → StandsIn s spot k t) → row_answer s spot k (found_in ts) ≡ first_of spot ts
  unfolding found_in first_of reading
  answers-first [] h = refl
  answers-first (t ∷ ts) h = let x = h t ts refl in sym (ap found (ap (λ (c : ℕ). reading_as (form_of c) spot t) x.code ∙ x.reads))

bytes-first : (s : List ℕ) (ts : List Attribute) (span : Span) → found_in ts ≡ Some span → bytes_at s span.place span.len ≡ bytes_of_first s ts
unfolding found_in bytes_of_first
bytes-first s [] span e = cc
bytes-first s (t ∷ ts) span e = cc

bytes-none : (s : List ℕ) (ts : List Attribute) → found_in ts ≡ None → [] ≡ bytes_of_first s ts
unfolding found_in bytes_of_first
bytes-none s [] e = refl
bytes-none s (t ∷ ts) e = cc

module _ (s : List ℕ) (spot : ℕ → Place) (k : ℕ) (ts : List Attribute) (stands : (t : Attribute) (us : List Attribute) → ts ≡ t ∷ us → StandsIn s spot k t)
    (row : Option Span) (e : row ≡ found_in ts) where
  pub row-readable : ReadableRow (form_of k) (length s) row
  row-readable = subst (ReadableRow (form_of k) (length s)) (sym e) (readable-first s spot k ts stands)

  pub row-answers : (r : Reply) → r ≡ row_answer s spot k row → r ≡ first_of spot ts
  row-answers r h = h ∙ ap (row_answer s spot k) e ∙ answers-first s spot k ts stands

  module _ (span : Span) (some : row ≡ Some span) where
    pub row_within : span.place + span.len ≤ length s
    row_within = (subst (ReadableRow (form_of k) (length s)) some row-readable).0

    -- the code's slice
    pub row-part : take (span.place + span.len - span.place) (drop span.place s) ≡ bytes_of_first s ts
    row-part = part-is s span.place span.len ∙ bytes-first s ts span (sym e ∙ some)

  pub row-none : row ≡ None → [] ≡ bytes_of_first s ts
  row-none none = bytes-none s ts (sym e ∙ none)
