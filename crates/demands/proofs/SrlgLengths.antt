-- How many SRLGs attributes hold: no more bytes than were read. Assumes nothing.
use mathlib.Core.List.{List, [], ◌∷◌}
use Prim.Native.Nat.{ℕ, ◌*◌, ◌≤◌, zero-le}
use native.Mathlib.Omega.{arith}
use lib.Dec.{eqb}
use lib.ListN.{length, length-append}
use Rattle.linkstate.specs.Lists.{each}
use Rattle.linkstate.specs.Bytes.{words}
use Rattle.linkstate.specs.Attributes.{Attribute, of_kind, srlgs}
use Rattle.rivals.proofs.Sums.{sum_of}
use Rattle.rivals.proofs.Sizes.{length-distinct, length-words}
use Rattle.demands.proofs.MoreLists.{sum_of-keep-le}

-- The value bytes of attributes.
unfoldable pub value_bytes : List Attribute → ℕ
value_bytes ts = sum_of (λ t. length t.value) ts

length-joined : (ts : List Attribute) → 4 * length (each (λ t. words t.value) ts) ≤ value_bytes ts
unfolding each value_bytes sum_of
length-joined [] = zero-le
length-joined (t ∷ ts) = omega (arith, length-joined ts, length-words t.value, length-append (words t.value) (each (λ t. words t.value) ts))

pub length-srlgs : (ts : List Attribute) → 4 * length (srlgs ts) ≤ value_bytes ts
unfolding srlgs of_kind value_bytes
length-srlgs ts =
    omega (
      arith,
      length-distinct (each (λ t. words t.value) (of_kind 1096 ts)),
      length-joined (of_kind 1096 ts),
      sum_of-keep-le (λ t. eqb 1096 t.code) (λ t. length t.value) ts,
    )
