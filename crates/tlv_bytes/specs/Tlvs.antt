-- TLVs of values by their kinds' codes, and values that stand in a run as BGP-LS has them (rules K1, L1).
use Rattle.std.specs.Prelude.{◌≡◌, cond, List, [], ◌∷◌, ◌++◌, ℕ, ◌+◌, eqb, length}
use Rattle.linkstate.specs.Lists.{each, put}
use Rattle.linkstate.specs.Bytes.{bytes_at}
use Rattle.linkstate.specs.Export.{bytes_of, present}

-- The bytes of the TLVs of a set, for some of the kinds.
abbrev pub in_tlvs : (ℕ → List ℕ) → List ℕ → List ℕ
in_tlvs f ks = each bytes_of (present ks f)

-- K1. What BGP-LS has in front of a value of n bytes: a zero byte before the TE metric where it has three, as in IS-IS.
unfoldable pub front : ℕ → List ℕ
front n = cond (eqb n 3) (0 ∷ []) []

-- The value of n bytes that stands at a place of a run, as BGP-LS has it; none where n is 0.
unfoldable pub value_at : List ℕ → ℕ → ℕ → List ℕ
value_at run place n = front n ++ bytes_at run place n

-- How many bytes the TLV of a value of n bytes in a run has.
unfoldable pub value_size : ℕ → ℕ
value_size n = 4 + (length (front n) + n)

-- Bytes written at a place of a buffer, which answer the place after them: what the buffer then is.
abbrev pub Wrote : List ℕ → ℕ → List ℕ → ℕ → List ℕ → Type 0
Wrote buffer at vs next after = (next ≡ at + length vs) × (after ≡ put buffer at vs)
