-- Rows of sets on side A (rule W7), and what a value of run A is in BGP-LS.
use Rattle.std.specs.Prelude.{cond, List, ◌∷◌, ℕ, eqb, Option}
use Rattle.octets.specs.declared.Span.{Span}
use Rattle.octets.specs.Spans.{found_in}
use Rattle.linkstate.specs.Attributes.{Attribute, of_kind}

-- W5, W7. The row of a code: place and length of its first value in run A, or none.
abbrev pub row_of : ℕ → List Attribute → Option Span
row_of c ts = found_in (of_kind c ts)

-- K1. The BGP-LS value bytes of a code whose value has these bytes in run A: a TE metric gets a zero in front.
unfoldable pub bgpls_value : ℕ → List ℕ → List ℕ
bgpls_value c v = cond (eqb c 1092) (0 ∷ v) v
