-- Side B: the SRLG values of B's live TLVs together are no longer than B. With C's they bound what any set of side B can hold. Assumes nothing.
use mathlib.Core.Bool.{Bool, ◌&&◌}
use mathlib.Core.List.{List}
use Prim.Native.Nat.{ℕ, ◌+◌, ◌≤◌, zero-le}
use native.Mathlib.Omega.{arith}
use lib.Dec.{eqb}
use lib.ListN.{length, drop, length-drop}
use Rattle.linkstate.specs.Lists.{keep}
use Rattle.linkstate.specs.Elements.{Element, element, cut, elements}
use Rattle.linkstate.specs.Attributes.{Attribute}
use Rattle.linkstate.specs.Sides.{Advertisement, of_live}
use Rattle.isis.specs.MaskHeader.{l_flag, header_length, advertisement}
use Rattle.isis.specs.RunB.{after_neighbour, identifier_bytes, srlg_values, srlg_attribute, live_srlg, srlg_advertisement, srlg_advertisements, side_b}
use Rattle.rivals.proofs.Sums.{sum_of, sum_of-le, sum_of-each}
use Rattle.demands.proofs.MoreLists.{of-cond, sum_of-keep-le}
use Rattle.demands.proofs.SrlgLengths.{value_bytes}
use Rattle.demands.proofs.Passed.{value_length, values-within}

-- The value bytes of an advertisement's attributes.
ad_bytes : Advertisement → ℕ
ad_bytes d = value_bytes d.attributes

-- A TLV's advertisement holds no more than the TLV.
read-within : (at : ℕ) (v : List ℕ) → ad_bytes (srlg_advertisement at v) ≤ length v
unfolding ad_bytes srlg_advertisement advertisement srlg_attribute value_bytes sum_of srlg_values
read-within at v =
    of-cond (λ (ts : List Attribute). value_bytes ts ≤ length v) (l_flag v) _ _ zero-le (omega (arith, length-drop (header_length v + 1 + identifier_bytes v) v))

advertisement-within : (e : Element) → sum_of ad_bytes (srlg_advertisements e) ≤ value_length e
unfolding srlg_advertisements value_length sum_of after_neighbour
advertisement-within (cut at) = zero-le
advertisement-within (element at t value) =
    of-cond (λ (ds : List Advertisement). sum_of ad_bytes ds ≤ length value) (eqb t 238 && live_srlg at (drop 7 value)) _ _
    (omega (arith, read-within at (drop 7 value), length-drop 7 value)) zero-le

live-within : (b c : List ℕ) → sum_of ad_bytes (side_b b c).live ≤ length b
unfolding side_b
live-within b c =
    omega (
      arith,
      sum_of-each ad_bytes srlg_advertisements (elements 1 0 b),
      sum_of-le (λ e. sum_of ad_bytes (srlg_advertisements e)) value_length (elements 1 0 b) (λ e i. advertisement-within e),
      values-within 1 (omega arith) 0 b,
    )

pub chosen-within : (b c : List ℕ) (p : Advertisement → Bool) → value_bytes (of_live p (side_b b c)) ≤ length b
unfolding of_live value_bytes ad_bytes
chosen-within b c p =
    omega (
      arith,
      sum_of-each (λ t. length t.value) (λ d. d.attributes) (keep p (side_b b c).live),
      sum_of-keep-le p ad_bytes (side_b b c).live,
      live-within b c,
    )

pub legacy-within : (b c : List ℕ) → value_bytes (side_b b c).legacy ≤ length c
unfolding side_b srlg_attribute value_bytes sum_of
legacy-within b c = omega arith
