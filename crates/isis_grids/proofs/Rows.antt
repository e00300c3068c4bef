-- The row of one kind, found by its type: the turns of the two loops that look for it, where es are the elements that are left.
use mathlib.Core.Path.{◌≡◌, refl, sym, ap, ap₂, ◌∙◌}
use mathlib.Core.Bool.{true, false}
use mathlib.Core.List.{List, [], ◌∷◌, ◌++◌}
use Prim.Native.Nat.{ℕ, ◌+◌}
use borrow.Author.Tests.{eq-eqb, ne_eqb}
use lib.Dec.{eqb}
use lib.ListN.{length, drop}
use lib.Seq.{drop-length}
use Rattle.linkstate.specs.Lists.{each, keep}
use Rattle.linkstate.specs.Elements.{Element, element, elements}
use Rattle.linkstate.specs.Attributes.{attribute, of_kind}
use Rattle.linkstate.proofs.ElementLaws.{none_left}
use Rattle.isis.specs.Types.{code_of_type}
use Rattle.isis.specs.MaskHeader.{header_length}
use Rattle.isis.specs.RunA.{attributes_of}
use Rattle.isis.proofs.TypeLaws.{type-code}
use Rattle.std.specs.Prelude.{Option, Some, None, is_some}
use Rattle.octets.specs.declared.Span.{Span}
use Rattle.octets.specs.Spans.{found_in}
use Rattle.octets.proofs.Spans.{found_first, found-later}
use Rattle.isis_grids.specs.declared.Which.{Which}
use Rattle.isis_grids.specs.Grid.{row_of}
use Rattle.isis_grids.specs.Selected.{is_taken, selected}
use Rattle.isis_grids.proofs.Grids.{eqb_swap}
use Rattle.isis_grids.proofs.Aslas.{selected-asla, selected-other}
use Rattle.isis_grids.proofs.Taken.{list-taken}

-- ---- in a list

pub row-end : {es : List Element} (c : ℕ) → es ≡ [] → None ≡ row_of c (each attributes_of es)
unfolding of_kind keep found_in each
row-end c e = rw e refl

module _ {es rest : List Element} {o t : ℕ} {v : List ℕ} (e : es ≡ element o t v ∷ rest) (k : ℕ) (known : code_of_type k ≡ 0 → ⊥) where
  code_is : eqb (code_of_type k) (code_of_type t) ≡ eqb t k
  code_is = eqb_swap (code_of_type k) (code_of_type t) ∙ sym (type-code k known t)

  pub row-found : t ≡ k → Some (record { place = o + 2; len = length v }) ≡ row_of (code_of_type k) (each attributes_of es)
  unfolding of_kind keep found_in each attributes_of attribute
  row-found i = rw (e, code_is, eq-eqb t k i) refl

  pub row_next : (t ≡ k → ⊥) → row_of (code_of_type k) (each attributes_of rest) ≡ row_of (code_of_type k) (each attributes_of es)
  unfolding of_kind keep each attributes_of attribute
  row_next n = rw (e, code_is, ne_eqb t k n) refl

-- ---- in the list of an ASLA

pub row-other : (c : ℕ) (w : Which) (at t : ℕ) (v : List ℕ) → (t ≡ 16 → ⊥) → None ≡ row_of c (selected w (element at t v))
unfolding of_kind keep found_in
row-other c w at t v n = sym (ap (row_of c) (selected-other w at t v n))

module _ (c : ℕ) (w : Which) (at t : ℕ) (v : List ℕ) (asla : t ≡ 16) where
  pub row-unread : is_taken w v ≡ false → None ≡ row_of c (selected w (element at t v))
  unfolding of_kind keep found_in each
  row-unread n =
      sym (ap (row_of c) (selected-asla w at t v asla
      ∙ ap (λ (k : ℕ). each attributes_of (elements 1 (at + 2 + k) (drop k v))) (list-taken v w false n)
      ∙ ap (λ (l : List ℕ). each attributes_of (elements 1 (at + 2 + length v) l)) (drop-length v) ∙ ap (each attributes_of) (none_left 1 (at + 2 + length v))))

  pub row-read : is_taken w v ≡ true → (n : ℕ) → n ≡ header_length v → (base : ℕ) → base ≡ at + 2 + n → (s : List ℕ) → s ≡ drop n v
      → row_of c (each attributes_of (elements 1 base s)) ≡ row_of c (selected w (element at t v))
  row-read y n h base b s d =
      ap (row_of c)
      (ap₂ (λ (i : ℕ) (l : List ℕ). each attributes_of (elements 1 i l)) b d
      ∙ ap (λ (k : ℕ). each attributes_of (elements 1 (at + 2 + k) (drop k v))) (h ∙ sym (list-taken v w true y)) ∙ sym (selected-asla w at t v asla))

-- ---- in the selected lists

pub live-row-end : {es : List Element} (c : ℕ) (w : Which) → es ≡ [] → None ≡ row_of c (each (selected w) es)
unfolding of_kind keep found_in each
live-row-end c w e = rw e refl

module _ (c : ℕ) (w : Which) {es rest : List Element} {x : Element} (e : es ≡ x ∷ rest) (row : Option Span) (r : row ≡ row_of c (selected w x)) where
  first : selected w x ++ each (selected w) rest ≡ each (selected w) es
  unfolding each
  first = sym (ap (each (selected w)) e)

  pub live-row-found : is_some row ≡ true → row ≡ row_of c (each (selected w) es)
  live-row-found n = found_first c (selected w x) _ row r n ∙ ap (row_of c) first

  pub live-row-next : is_some row ≡ false → row_of c (each (selected w) rest) ≡ row_of c (each (selected w) es)
  live-row-next n = found-later c (selected w x) _ row r n ∙ ap (row_of c) first
