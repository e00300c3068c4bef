-- Laws of sizes: of a row, of the link's bandwidths, and of entries in turn. Assumes nothing.
use Rattle.std.specs.Prelude.{Some, None}
use Prim.Native.Nat.{ℕ, ◌+◌, ◌-◌, ◌≤◌, ◌<◌}
use mathlib.Core.Path.{◌≡◌, refl, sym, ◌∙◌, ap, ap₂}
use mathlib.Core.List.{List, []}
use native.Mathlib.Numerals.{add-one}
use native.Mathlib.Omega.{arith}
use borrow.Author.Tests.{eq-eqb, ne_eqb}
use lib.ListN.{length, get_or, take, drop, length-drop}
use lib.Seq.{get_or-take, get_or-drop, length-take-le}
use Rattle.linkstate.specs.Limits.{most_numbers}
use Rattle.tlv_bytes.specs.Tlvs.{value_size}
use Rattle.set_bytes.specs.Standing.{count_in}
use Rattle.grids.specs.Grids.{row_read}
use Rattle.grids.specs.Slots.{cell, cell_row}
use Rattle.octets.specs.declared.Span.{Span}
use Rattle.grids.proofs.Laws.{row_is, row-none}
use Rattle.export_bytes.specs.Sizes.{asla_of, set_size, row_size, link_size, first_entry, sum_from, Measurable}
use Rattle.export_bytes.specs.declared.Asla.{Asla}

-- ---- rows

module _ (r : List ℕ) where
  pub size_none : row_read r ≡ None → row_size r ≡ 0
  unfolding row_size
  size_none e = rw (row-none r e) refl

  pub size-some : (v : Span) → row_read r ≡ Some v → row_size r ≡ value_size v.len
  unfolding row_size
  size-some v e = let s = row_is r v e in rw (ne_eqb (get_or r 1 0) 0 (λ z. omega arith)) (ap value_size (sym s.1))

pub link-next : (sets : List (List ℕ)) (k total x : ℕ) → total ≡ link_size sets k → x ≡ row_size (cell_row (cell sets 2 k)) → total + x ≡ link_size sets (k + 1)
unfolding link_size
link-next sets k total x is e = rw (add-one k) (omega arith)

pub link_start : (sets : List (List ℕ)) → 0 ≡ link_size sets 0
unfolding link_size
link_start sets = refl

-- ---- entries

pub sum-next : (f : ℕ → ℕ) (from i total x : ℕ) → total ≡ sum_from f from i → x ≡ f (from + i) → total + x ≡ sum_from f from (i + 1)
unfolding sum_from
sum-next f from i total x e g = rw (add-one i) (ap₂ (λ (y z : ℕ). y + z) e g)

pub sum-start : (f : ℕ → ℕ) (from : ℕ) → 0 ≡ sum_from f from 0
unfolding sum_from
sum-start f from = refl

-- An entry from one on.
module _ (groups : List (List ℕ)) (first : ℕ) where
  abbrev pub from_first : List (List ℕ)
  from_first = take (length groups - first) (drop first groups)

  pub length_from : first ≤ length groups → length from_first ≡ length groups - first
  length_from h = length-take-le (length groups - first) (drop first groups) (omega (arith, length-drop first groups))

  pub entry_from : (i : ℕ) → i < length groups - first → get_or from_first i [] ≡ get_or groups (first + i) []
  entry_from i h = get_or-take (length groups - first) (drop first groups) i [] h ∙ get_or-drop first groups i []

-- ---- the first entry, and the whole

module _ (sets classes groups : List (List ℕ)) (e : Asla) (is : e ≡ asla_of (get_or groups 0 [])) (n : ℕ) (size : n ≡ set_size sets classes e.slot e.class) where
  n-is : n ≡ set_size sets classes (asla_of (get_or groups 0 [])).slot (asla_of (get_or groups 0 [])).class
  n-is = size ∙ ap (λ (x : Asla). set_size sets classes x.slot x.class) is

  pub first-none : n ≡ 0 → 1 ≡ first_entry sets classes groups
  unfolding first_entry
  first-none z = rw (eq-eqb _ 0 (sym n-is ∙ z))

  pub first_some : (n ≡ 0 → ⊥) → 0 ≡ first_entry sets classes groups
  unfolding first_entry
  first_some z = rw (ne_eqb _ 0 (λ y. z (n-is ∙ y)))

-- What an entry's size asks for.
pub measured : (sets classes groups : List (List ℕ)) → Measurable sets classes groups → (i : ℕ) → i < length groups → (e : Asla) → e ≡ asla_of (get_or groups i [])
    → (e.slot < length sets) × (e.class < length classes) × (count_in classes e.class ≤ most_numbers)
measured sets classes groups ok i h e is = rw is (ok.slot i h, ok.class i h, ok.few (asla_of (get_or groups i [])).class (ok.class i h))
