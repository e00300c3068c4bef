-- An attribute of an advertisement with two masks: the cells it comes to. Assumes nothing.
use mathlib.Core.Path.{◌≡◌, refl, sym, ap, ap₂, ◌∙◌}
use mathlib.Core.Bool.{Bool, true, false, cond, ◌&&◌, not}
use mathlib.Core.List.{List, [], ◌∷◌}
use Prim.Native.Nat.{ℕ, ◌+◌, ◌<◌}
use native.Mathlib.Omega.{arith}
use borrow.Author.Tests.{eqb-true, eqb-false, eq-eqb, ne_eqb, leb-true}
use lib.Dec.{eqb}
use lib.ListN.{length, get_or}
use Rattle.linkstate.specs.Kinds.{link_codes}
use Rattle.masks.specs.Sets.{turned_place}
use Rattle.kinds.specs.Rules.{grid_codes}
use Rattle.isis.specs.Types.{code_of_type}
use Rattle.srlg_sources.proofs.Joins.{any_none}
use Rattle.set_table.specs.Tables.{cell_of, Table, Given, only_at, slot_at, reaches, to_named, Having, Within}
use Rattle.masks.specs.declared.Applications.{Applications}
use Rattle.masks.specs.Applications.{at_place}
use Rattle.set_table.proofs.Named.{reaches-own}
use Rattle.isis_grids.specs.declared.Which.TheVariants.{RsvpTeAlone, WithoutL}
use Rattle.isis_index.specs.Index.{legacy, live, Spot, general, old, bandwidth, maximum, alone, own, source_of, slot_in, cell_at, code_of, owning, Valid, Ground, Kept, heard, attribute_at, TookFor, Ready}
use Rattle.isis_index.proofs.Codes.{grid-same, link-same, grid-link, link-grid, link-first}
use Rattle.isis_index.proofs.Cells.{own-high, place-low, adds-by, given_nothing, kept-only}

-- Who hears such a list.
module _ (who : Applications) where
  pub heard-legacy : heard who legacy ≡ false
  unfolding heard
  heard-legacy = refl

  pub heard-without : heard who (live WithoutL) ≡ true
  unfolding heard
  heard-without = refl

  pub heard-alone : heard who (live RsvpTeAlone) ≡ eqb who.standard 128 && eqb who.user 0
  unfolding heard
  heard-alone = refl

-- No place of the masks has one of the first three slots.
low-unreached : (owns : List (List ℕ)) (who : Applications) → Within who (owning owns) → (s : ℕ) → s < 3 → reaches owns who s ≡ false
unfolding reaches
low-unreached owns who w s l = any_none (λ p. at_place who p && eqb (slot_at owns p) s) 128 (λ p h. go p h (at_place who p) refl)
  where
    go : (p : ℕ) → p < 128 → (b : Bool) → at_place who p ≡ b → b && eqb (slot_at owns p) s ≡ false
    go p h true e = let i = leb-true 3 (slot_at owns p) (w p h e) in ne_eqb (slot_at owns p) s (λ f. omega arith)
    go p h false e = refl

none_in : (a b : Bool) (c : ℕ) → b ≡ false → cond (a && b) c 0 ≡ 0
none_in true b c e = ap (λ (x : Bool). cond x c 0) e
none_in false b c e = refl

and-swap : (a b : Bool) → a && b ≡ b && a
and-swap true true = refl
and-swap true false = refl
and-swap false true = refl
and-swap false false = refl

module _ (owns table : List (List ℕ)) (g : Ground owns table) (who : Applications) (w : Within who (owning owns)) (code c : ℕ) where
  -- One of the ten kinds: for the applications of the masks.
  pub named-grid : (k : ℕ) → k < 10 → code ≡ get_or grid_codes k 0 → (x : Spot) → Valid owns x
      → to_named owns who k c (slot_in owns x) (cell_at x) ≡ cond (heard who (source_of x) && eqb (code_of x) code) c 0
  unfolding heard
  named-grid k h e (general j) v = none_in (eqb j k) _ c (low-unreached owns who w 0 (omega arith))
  named-grid k h e (old j) v = none_in (eqb j k) _ c (low-unreached owns who w 1 (omega arith))
  named-grid k h e (bandwidth j) v = none_in (eqb j k) _ c (low-unreached owns who w 2 (omega arith))
  named-grid k h e maximum v =
      none_in (eqb 3 k) _ c (low-unreached owns who w 2 (omega arith))
      ∙ sym (ap (λ (b : Bool). cond b c 0) (ap₂ eqb (sym link-first) e ∙ link-grid 0 k (omega arith) h))
  named-grid k h e (alone j) v =
      none_in (eqb (4 + j) k) _ c (low-unreached owns who w 2 (omega arith))
      ∙ sym (none_in (eqb who.standard 128 && eqb who.user 0) _ c (ap (eqb (get_or link_codes (1 + j) 0)) e ∙ link-grid (1 + j) k (omega arith) h))
  named-grid k h e (own n j) v =
      ap (λ (b : Bool). cond b c 0)
      (ap₂ (λ (a b : Bool). a && b) (sym (ap (eqb (get_or grid_codes j 0)) e ∙ grid-same j k v.2 h)) (reaches-own table owns (owning owns) g.slotted who w (turned_place n) (place-low n v.0) v.1)
      ∙ and-swap (eqb (get_or grid_codes j 0) code) (at_place who (turned_place n)))

module _ (owns : List (List ℕ)) (who : Applications) (code c : ℕ) where
  -- The other two bandwidths, where RSVP-TE alone is named.
  pub alone-link : eqb who.standard 128 && eqb who.user 0 ≡ true → (k : ℕ) → k < 3 → (k ≡ 0 → ⊥) → code ≡ get_or link_codes k 0 → (x : Spot) → Valid owns x
      → only_at 2 (3 + k) c (slot_in owns x) (cell_at x) ≡ cond (heard who (source_of x) && eqb (code_of x) code) c 0
  unfolding heard
  alone-link a k m d e (general j) v = refl
  alone-link a k m d e (old j) v = refl
  alone-link a k m d e (bandwidth j) v = ap (λ (b : Bool). cond b c 0) (ne_eqb j (3 + k) (λ i. omega arith))
  alone-link a k m d e maximum v =
      ap (λ (b : Bool). cond b c 0) (ne_eqb 3 (3 + k) (λ i. d (omega arith)))
      ∙ sym (ap (λ (b : Bool). cond b c 0) (ap₂ eqb (sym link-first) e ∙ link-same 0 k (omega arith) m ∙ ne_eqb 0 k (λ i. d (sym i))))
  alone-link a k m d e (alone j) v =
      ap (λ (b : Bool). cond b c 0) (shift (eqb (1 + j) k) refl ∙ sym (ap (eqb (get_or link_codes (1 + j) 0)) e ∙ link-same (1 + j) k (omega arith) m))
      ∙ sym (ap (λ (b : Bool). cond (b && eqb (get_or link_codes (1 + j) 0) code) c 0) a)
    where
      shift : (b : Bool) → eqb (1 + j) k ≡ b → eqb (4 + j) (3 + k) ≡ eqb (1 + j) k
      shift true i = let f = eqb-true (1 + j) k i in eq-eqb (4 + j) (3 + k) (omega arith) ∙ sym i
      shift false i = let f = eqb-false (1 + j) k i in ne_eqb (4 + j) (3 + k) (λ z. f (omega arith)) ∙ sym i
  alone-link a k m d e (own n j) v =
      ap (λ (b : Bool). cond (b && eqb j (3 + k)) c 0) (ne_eqb (slot_at owns (turned_place n)) 2 (λ i. omega (arith, own-high owns n v.1)))
      ∙ sym (none_in (at_place who (turned_place n)) _ c (ap (eqb (get_or grid_codes j 0)) e ∙ grid-link j k v.2 m))

-- ---- who has a value, where the slots of applications stay

pub having-kept : {owns table after have : List (List ℕ)} → Ground owns table → Kept table after → Having table owns have (owning owns)
    → Having after owns have (owning owns)
having-kept {owns} {table} {after} {have} g k h = record {
  ten = h.ten;
  told = λ i p l m e. h.told i p l m e
      ∙ ap (λ (x : ℕ). not (eqb x 0)) (sym (k.above (slot_at owns p) i (leb-true 3 (slot_at owns p) e) (g.slotted.stand p m e).inside l));
}

pub ground-same : {owns table after : List (List ℕ)} → length after ≡ length table → Ground owns table → Ground owns after
ground-same e g = record {
  three = let h = g.three in omega arith;
  slotted = record { stand = λ p l n. let i = g.slotted.stand p l n in record { inside = let a = i.inside in omega arith; other = i.other }; apart = g.slotted.apart };
}

-- ---- one attribute entered

module _ (run : List ℕ) (owns table have after : List (List ℕ)) (r : Ready run owns table have) (who : Applications) (t place n : ℕ) (v : List ℕ) where
  abbrev code : ℕ
  code = code_of_type t

  abbrev c : ℕ
  c = cell_of place n

  pub for-only : (k : ℕ) → Table run after → Given table after (only_at 2 k c)
      → ((x : Spot) → Valid owns x → only_at 2 k c (slot_in owns x) (cell_at x) ≡ cond (heard who (source_of x) && eqb (code_of x) code) c 0)
      → TookFor run owns table have after have (heard who) (attribute_at t place n v ∷ [])
  for-only k holds g e = record {
    holds = holds;
    having = having-kept r.grounded (kept-only 2 k c (omega arith) g) r.having;
    adds = adds-by (heard who) (attribute_at t place n v) r.grounded g e;
  }

  pub for-named : Within who (owning owns) → (k : ℕ) → k < 10 → code_of_type t ≡ get_or grid_codes k 0 → (had : List (List ℕ)) → Table run after
      → Given table after (to_named owns who k c) → Having after owns had (owning owns)
      → TookFor run owns table have after had (heard who) (attribute_at t place n v ∷ [])
  for-named w k l e had holds g h = record {
    holds = holds;
    having = h;
    adds = adds-by (heard who) (attribute_at t place n v) r.grounded g (named-grid owns table r.grounded who w (code_of_type t) (cell_of place n) k l e);
  }

pub for-none : (run : List ℕ) (owns table have : List (List ℕ)) → Ready run owns table have → (who : Applications) (t place n : ℕ) (v : List ℕ)
    → ((x : Spot) → Valid owns x → 0 ≡ cond (heard who (source_of x) && eqb (code_of x) (code_of_type t)) (cell_of place n) 0)
    → TookFor run owns table have table have (heard who) (attribute_at t place n v ∷ [])
for-none run owns table have r who t place n v e = record {
  holds = r.holds;
  having = r.having;
  adds = adds-by (heard who) (attribute_at t place n v) r.grounded (given_nothing table) e;
}
