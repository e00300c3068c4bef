-- Document 01, "The fourteen kinds": the types of run A (rules K1, K3). No type carries SRLGs: their values stand in B and C, and are measured by rules R2 and B3.
use Rattle.std.specs.Prelude.{Bool, ◌&&◌, not, List, [], ◌∷◌, ℕ, eqb}
use Rattle.linkstate.specs.Lists.{any, lookup}
use Rattle.linkstate.specs.Limits.{most_extended}
use Rattle.linkstate.specs.Kinds.{Size, exactly, fours_within, fits}

-- K1. A type that carries a kind in run A: the kind's BGP-LS code, and the lengths that its value may have there.
pub record TypeInA : Type 0 where
  pub type : ℕ
  pub code : ℕ
  pub size : Size

unfoldable pub type_in_a : ℕ → ℕ → Size → TypeInA
type_in_a t c n = record { type = t; code = c; size = n }

-- K1. The table, ascending by code (RFC 8919 section 3).
unfoldable pub types : List TypeInA
types =
    type_in_a 3 1088 (exactly 4)
    ∷ type_in_a 9 1089 (exactly 4)
    ∷ type_in_a 10 1090 (exactly 4)
    ∷ type_in_a 11 1091 (exactly 32)
    ∷ type_in_a 18 1092 (exactly 3)
    ∷ type_in_a 33 1114 (exactly 4)
    ∷ type_in_a 34 1115 (exactly 8)
    ∷ type_in_a 35 1116 (exactly 4)
    ∷ type_in_a 36 1117 (exactly 4)
    ∷ type_in_a 37 1118 (exactly 4)
    ∷ type_in_a 38 1119 (exactly 4)
    ∷ type_in_a 39 1120 (exactly 4)
    ∷ type_in_a 14 1173 (fours_within 4 most_extended)
    ∷ []

unfoldable pub has_type : ℕ → TypeInA → Bool
has_type t q = eqb t q.type

-- K1, K3. The BGP-LS code of an IS-IS type; 0, which no question asks for, of an unknown one.
unfoldable pub code_of_type : ℕ → ℕ
code_of_type t = lookup (has_type t) (λ q. q.code) 0 types

-- R4. A known kind of a wrong length in run A.
unfoldable pub wrong_in_a : ℕ → ℕ → Bool
wrong_in_a t n = any (λ q. has_type t q && not (fits q.size n)) types
