-- Cells and the attributes that come to them. Assumes nothing.
use mathlib.Core.Path.{◌≡◌, refl, sym, ap, ap₂, ◌∙◌}
use mathlib.Core.Bool.{Bool, true, false, cond, ◌&&◌, and-false}
use mathlib.Core.List.{List, [], ◌∷◌, ◌++◌}
use Prim.Native.Nat.{ℕ, ◌+◌, ◌≤◌, ◌<◌}
use native.Mathlib.Omega.{arith}
use borrow.Author.Tests.{ne_eqb, leb-true}
use lib.Dec.{eqb}
use lib.ListN.{length, get_or}
use Rattle.linkstate.specs.Kinds.{link_codes}
use Rattle.linkstate.specs.Attributes.{Attribute}
use Rattle.masks.specs.Sets.{turned_place}
use Rattle.kinds.specs.Rules.{grid_codes}
use Rattle.isis.specs.Types.{code_of_type}
use Rattle.grids.specs.Slots.{cell, IsSet}
use Rattle.set_table.specs.Tables.{cell_of, first, Table, Given, only_at, slot_at}
use Rattle.set_table.proofs.Tables.{first-none, first-assoc, given-none}
use Rattle.isis_grids.specs.declared.Which.TheVariants.{Naming, General, RsvpTeAlone, WithoutL}
use Rattle.isis_index.specs.Index.{cell_in, Source, legacy, live, Spot, general, old, bandwidth, maximum, alone, own, source_of, slot_in, cell_at, code_of}
use Rattle.isis_index.specs.Index.{owning, Valid, Ground, Adds, Kept, told, from_legacy, heard_by_all, attribute_at, Took}
use Rattle.isis_index.proofs.Codes.{grid-same, link-same, grid-link, link-grid, grid-some, link-some, link-first}

-- ---- attributes joined

pub cell-append : (c : ℕ) (ts us : List Attribute) → cell_in c (ts ++ us) ≡ first (cell_in c ts) (cell_in c us)
unfolding cell_in first
cell-append c [] us = refl
cell-append c (t ∷ ts) us =
    ap (first (cond (eqb c t.code) (cell_of t.at t.len) 0)) (cell-append c ts us)
    ∙ sym (first-assoc (cond (eqb c t.code) (cell_of t.at t.len) 0) (cell_in c ts) (cell_in c us))

pub cell-one : (c : ℕ) (t : Attribute) → cell_in c (t ∷ []) ≡ cond (eqb c t.code) (cell_of t.at t.len) 0
unfolding cell_in
cell-one c t = first-none (cond (eqb c t.code) (cell_of t.at t.len) 0) 0 0

pub cell-none : (c : ℕ) → cell_in c [] ≡ 0
unfolding cell_in
cell-none c = refl

-- ---- where a cell is

pub place-low : (n : ℕ) → n < 128 → turned_place n < 128
unfolding turned_place
place-low n h = omega arith

module _ {owns table : List (List ℕ)} (g : Ground owns table) where
  pub spot-inside : (x : Spot) → Valid owns x → slot_in owns x < length table
  spot-inside (general k) v = let h = g.three in omega arith
  spot-inside (old k) v = let h = g.three in omega arith
  spot-inside (bandwidth k) v = let h = g.three in omega arith
  spot-inside maximum v = let h = g.three in omega arith
  spot-inside (alone k) v = let h = g.three in omega arith
  spot-inside (own n k) v = (g.slotted.stand (turned_place n) (place-low n v.0) v.1).inside

pub spot-low : (owns : List (List ℕ)) (x : Spot) → Valid owns x → cell_at x < 10
spot-low owns (general k) v = v
spot-low owns (old k) v = v
spot-low owns (bandwidth k) v = omega arith
spot-low owns maximum v = omega arith
spot-low owns (alone k) v = omega arith
spot-low owns (own n k) v = v.2

-- ---- what comes to a table, by source

-- One attribute, which comes to a cell where its source is heard and it has the cell's code.
pub adds-by : {owns table after : List (List ℕ)} {c : ℕ → ℕ → ℕ} (h : Source → Bool) (t : Attribute) → Ground owns table → Given table after c
    → ((x : Spot) → Valid owns x → c (slot_in owns x) (cell_at x) ≡ cond (h (source_of x) && eqb (code_of x) t.code) (cell_of t.at t.len) 0)
    → Adds owns table after (told h (t ∷ []))
adds-by {owns} {table} {after} {c} h t g d e = record {
  same = d.same;
  cells = λ x v. d.cells (slot_in owns x) (cell_at x) (spot-inside g x v) (spot-low owns x v)
      ∙ ap (first (cell table (slot_in owns x) (cell_at x))) (e x v ∙ comes (code_of x) (h (source_of x)));
}
  where
    comes : (i : ℕ) (b : Bool) → cond (b && eqb i t.code) (cell_of t.at t.len) 0 ≡ cell_in i (cond b (t ∷ []) [])
    comes i true = sym (cell-one i t)
    comes i false = sym (cell-none i)

pub adds_then : {owns table mid after : List (List ℕ)} {f h : Source → List Attribute} → Adds owns table mid f → Adds owns mid after h
    → Adds owns table after (λ src. f src ++ h src)
adds_then {owns} {table} {mid} {after} {f} {h} a b = record {
  same = b.same ∙ a.same;
  cells = λ x v.
      b.cells x v ∙ ap (λ (y : ℕ). first y (cell_in (code_of x) (h (source_of x)))) (a.cells x v)
      ∙ first-assoc (cell table (slot_in owns x) (cell_at x)) (cell_in (code_of x) (f (source_of x))) (cell_in (code_of x) (h (source_of x)))
      ∙ ap (first (cell table (slot_in owns x) (cell_at x))) (sym (cell-append (code_of x) (f (source_of x)) (h (source_of x))));
}

pub adds-cells : {owns table after : List (List ℕ)} {f h : Source → List Attribute}
    → ((x : Spot) → Valid owns x → cell_in (code_of x) (f (source_of x)) ≡ cell_in (code_of x) (h (source_of x))) → Adds owns table after f → Adds owns table after h
adds-cells {owns} {table} e a = record { same = a.same; cells = λ x v. a.cells x v ∙ ap (first (cell table (slot_in owns x) (cell_at x))) (e x v) }

pub adds-as : {owns table after : List (List ℕ)} {f h : Source → List Attribute} → ((x : Spot) → Valid owns x → f (source_of x) ≡ h (source_of x))
    → Adds owns table after f → Adds owns table after h
adds-as e a = adds-cells (λ x v. ap (cell_in (code_of x)) (e x v)) a

pub adds_none : (owns table : List (List ℕ)) (f : Source → List Attribute) → ((src : Source) → f src ≡ []) → Adds owns table table f
adds_none owns table f e = record {
  same = refl;
  cells = λ x v. sym (ap (λ (ts : List Attribute). first (cell table (slot_in owns x) (cell_at x)) (cell_in (code_of x) ts)) (e (source_of x))
      ∙ ap (first (cell table (slot_in owns x) (cell_at x))) (cell-none (code_of x)) ∙ first-none (cell table (slot_in owns x) (cell_at x)) 0 0);
}

-- ---- the slots of applications

pub own-high : (owns : List (List ℕ)) (n : ℕ) → owning owns (turned_place n) ≡ true → 3 ≤ slot_at owns (turned_place n)
own-high owns n e = leb-true 3 (slot_at owns (turned_place n)) e

pub kept-only : {table after : List (List ℕ)} (s k c : ℕ) → s < 3 → Given table after (only_at s k c) → Kept table after
kept-only {table} {after} s k c l g = record {
  same = g.same;
  above = λ t j h i m. g.cells t j i m ∙ ap (λ (b : Bool). first (cell table t j) (cond (b && eqb j k) c 0)) (ne_eqb t s (λ e. omega arith))
      ∙ first-none (cell table t j) 0 0;
}

pub kept-none : (table : List (List ℕ)) → Kept table table
kept-none table = record { same = refl; above = λ s k a b c. refl }

pub kept_then : {table mid after : List (List ℕ)} → Kept table mid → Kept mid after → Kept table after
kept_then a b = record { same = b.same ∙ a.same; above = λ s k h i m. b.above s k h (omega (arith, a.same)) m ∙ a.above s k h i m }

-- ---- one attribute: the cells it comes to

-- Two tests that agree.
test-as : (p q : Bool) (c : ℕ) → p ≡ q → cond p c 0 ≡ cond q c 0
test-as p q c e = ap (λ (b : Bool). cond b c 0) e

module _ (owns : List (List ℕ)) (code c : ℕ) where
  -- Legacy: one of the ten kinds, one of the link's, or none.
  pub legacy-grid : (k : ℕ) → k < 10 → code ≡ get_or grid_codes k 0 → (x : Spot) → Valid owns x
      → only_at 1 k c (slot_in owns x) (cell_at x) ≡ cond (from_legacy (source_of x) && eqb (code_of x) code) c 0
  unfolding from_legacy
  legacy-grid k h e (general j) v = refl
  legacy-grid k h e (old j) v = test-as (eqb j k) (eqb (get_or grid_codes j 0) code) c (sym (ap (eqb (get_or grid_codes j 0)) e ∙ grid-same j k v h))
  legacy-grid k h e (bandwidth j) v = test-as false (eqb (get_or link_codes j 0) code) c (sym (ap (eqb (get_or link_codes j 0)) e ∙ link-grid j k v h))
  legacy-grid k h e maximum v = refl
  legacy-grid k h e (alone j) v = refl
  legacy-grid k h e (own n j) v = ap (λ (b : Bool). cond (b && eqb j k) c 0) (ne_eqb (slot_at owns (turned_place n)) 1 (λ i. omega (arith, own-high owns n v.1)))

  pub legacy-link : (k : ℕ) → k < 3 → code ≡ get_or link_codes k 0 → (x : Spot) → Valid owns x
      → only_at 2 k c (slot_in owns x) (cell_at x) ≡ cond (from_legacy (source_of x) && eqb (code_of x) code) c 0
  unfolding from_legacy
  legacy-link k h e (general j) v = refl
  legacy-link k h e (old j) v = test-as false (eqb (get_or grid_codes j 0) code) c (sym (ap (eqb (get_or grid_codes j 0)) e ∙ grid-link j k v h))
  legacy-link k h e (bandwidth j) v = test-as (eqb j k) (eqb (get_or link_codes j 0) code) c (sym (ap (eqb (get_or link_codes j 0)) e ∙ link-same j k v h))
  legacy-link k h e maximum v = test-as (eqb 3 k) false c (ne_eqb 3 k (λ i. omega arith))
  legacy-link k h e (alone j) v = test-as (eqb (4 + j) k) false c (ne_eqb (4 + j) k (λ i. omega arith))
  legacy-link k h e (own n j) v = ap (λ (b : Bool). cond (b && eqb j k) c 0) (ne_eqb (slot_at owns (turned_place n)) 2 (λ i. omega (arith, own-high owns n v.1)))

  -- A code of none.
  pub no_code : code ≡ 0 → (x : Spot) → Valid owns x → eqb (code_of x) code ≡ false
  no_code e (general j) v = ap (eqb (get_or grid_codes j 0)) e ∙ grid-some j v
  no_code e (old j) v = ap (eqb (get_or grid_codes j 0)) e ∙ grid-some j v
  no_code e (bandwidth j) v = ap (eqb (get_or link_codes j 0)) e ∙ link-some j v
  no_code e maximum v = ap (eqb 1089) e
  no_code e (alone j) v = ap (eqb (get_or link_codes (1 + j) 0)) e ∙ link-some (1 + j) (omega arith)
  no_code e (own n j) v = ap (eqb (get_or grid_codes j 0)) e ∙ grid-some j v.2

  pub nothing : (h : Source → Bool) → code ≡ 0 → (x : Spot) → Valid owns x → 0 ≡ cond (h (source_of x) && eqb (code_of x) code) c 0
  nothing h e x v = sym (ap (λ (b : Bool). cond (h (source_of x) && b) c 0) (no_code e x v) ∙ ap (λ (b : Bool). cond b c 0) (and-false (h (source_of x))))

-- Nothing came.
pub given_nothing : (table : List (List ℕ)) → Given table table (λ s k. 0)
given_nothing table = given-none table (λ s k. 0) (λ s k l m. first-none (cell table s k) 0 0)

-- The list of a general advertisement.
module _ (owns : List (List ℕ)) (code c : ℕ) where
  pub general-grid : (k : ℕ) → k < 10 → code ≡ get_or grid_codes k 0 → (x : Spot) → Valid owns x
      → only_at 0 k c (slot_in owns x) (cell_at x) ≡ cond (heard_by_all (source_of x) && eqb (code_of x) code) c 0
  unfolding heard_by_all
  general-grid k h e (general j) v = test-as (eqb j k) (eqb (get_or grid_codes j 0) code) c (sym (ap (eqb (get_or grid_codes j 0)) e ∙ grid-same j k v h))
  general-grid k h e (old j) v = refl
  general-grid k h e (bandwidth j) v = refl
  general-grid k h e maximum v = test-as false (eqb 1089 code) c (sym (ap₂ eqb (sym link-first) e ∙ link-grid 0 k (omega arith) h))
  general-grid k h e (alone j) v = refl
  general-grid k h e (own n j) v = ap (λ (b : Bool). cond (b && eqb j k) c 0) (ne_eqb (slot_at owns (turned_place n)) 0 (λ i. omega (arith, own-high owns n v.1)))

  -- Maximum bandwidth, of any list without L; the other two, which a general list gives to nobody.
  pub maximum-only : (h : Source → Bool) → h (live WithoutL) ≡ true → h legacy ≡ false → code ≡ get_or link_codes 0 0 → (x : Spot) → Valid owns x
      → only_at 2 3 c (slot_in owns x) (cell_at x) ≡ cond (h (source_of x) && eqb (code_of x) code) c 0
  maximum-only h w l e (general j) v = sym (ap (λ (b : Bool). cond (h (live General) && b) c 0) (ap (eqb (get_or grid_codes j 0)) e ∙ grid-link j 0 v (omega arith)) ∙ ap (λ (b : Bool). cond b c 0) (and-false (h (live General))))
  maximum-only h w l e (old j) v = sym (ap (λ (b : Bool). cond (b && eqb (get_or grid_codes j 0) code) c 0) l)
  maximum-only h w l e (bandwidth j) v = ap (λ (b : Bool). cond b c 0) (ne_eqb j 3 (λ i. omega arith))
      ∙ sym (ap (λ (b : Bool). cond (b && eqb (get_or link_codes j 0) code) c 0) l)
  maximum-only h w l e maximum v = sym (ap₂ (λ (a b : Bool). cond (a && b) c 0) w (ap (eqb 1089) (e ∙ link-first)))
  maximum-only h w l e (alone j) v =
      ap (λ (b : Bool). cond b c 0) (ne_eqb (4 + j) 3 (λ i. omega arith))
      ∙ sym (ap (λ (b : Bool). cond (h (live RsvpTeAlone) && b) c 0) (ap (eqb (get_or link_codes (1 + j) 0)) e ∙ link-same (1 + j) 0 (omega arith) (omega arith) ∙ ne_eqb (1 + j) 0 (λ i. omega arith)) ∙ ap (λ (b : Bool). cond b c 0) (and-false (h (live RsvpTeAlone))))
  maximum-only h w l e (own n j) v =
      ap (λ (b : Bool). cond (b && eqb j 3) c 0) (ne_eqb (slot_at owns (turned_place n)) 2 (λ i. omega (arith, own-high owns n v.1)))
      ∙ sym (ap (λ (b : Bool). cond (h (live (Naming n)) && b) c 0) (ap (eqb (get_or grid_codes j 0)) e ∙ grid-link j 0 v.2 (omega arith)) ∙ ap (λ (b : Bool). cond b c 0) (and-false (h (live (Naming n)))))

  pub unheard-link : (h : Source → Bool) → h legacy ≡ false → h (live RsvpTeAlone) ≡ false → (k : ℕ) → k < 3 → (k ≡ 0 → ⊥) → code ≡ get_or link_codes k 0
      → (x : Spot) → Valid owns x → 0 ≡ cond (h (source_of x) && eqb (code_of x) code) c 0
  unheard-link h l w k m d e (general j) v = sym (ap (λ (b : Bool). cond (h (live General) && b) c 0) (ap (eqb (get_or grid_codes j 0)) e ∙ grid-link j k v m) ∙ ap (λ (b : Bool). cond b c 0) (and-false (h (live General))))
  unheard-link h l w k m d e (old j) v = sym (ap (λ (b : Bool). cond (b && eqb (get_or grid_codes j 0) code) c 0) l)
  unheard-link h l w k m d e (bandwidth j) v = sym (ap (λ (b : Bool). cond (b && eqb (get_or link_codes j 0) code) c 0) l)
  unheard-link h l w k m d e maximum v =
      sym (ap (λ (b : Bool). cond (h (live WithoutL) && b) c 0) (ap₂ eqb (sym link-first) e ∙ link-same 0 k (omega arith) m ∙ ne_eqb 0 k (λ i. d (sym i))) ∙ ap (λ (b : Bool). cond b c 0) (and-false (h (live WithoutL))))
  unheard-link h l w k m d e (alone j) v = sym (ap (λ (b : Bool). cond (b && eqb (get_or link_codes (1 + j) 0) code) c 0) w)
  unheard-link h l w k m d e (own n j) v = sym (ap (λ (b : Bool). cond (h (live (Naming n)) && b) c 0) (ap (eqb (get_or grid_codes j 0)) e ∙ grid-link j k v.2 m) ∙ ap (λ (b : Bool). cond b c 0) (and-false (h (live (Naming n)))))

-- ---- one attribute entered

module _ (run : List ℕ) (table after : List (List ℕ)) (h : Source → Bool) (t place n : ℕ) (v : List ℕ) where
  pub took-only : (s k : ℕ) → s < 3 → Table run after → Given table after (only_at s k (cell_of place n))
      → ((owns : List (List ℕ)) (x : Spot) → Valid owns x → only_at s k (cell_of place n) (slot_in owns x) (cell_at x) ≡ cond (h (source_of x) && eqb (code_of x) (code_of_type t)) (cell_of place n) 0)
      → Took run table after h (attribute_at t place n v ∷ [])
  took-only s k l holds g e = record {
    holds = holds;
    kept = kept-only s k (cell_of place n) l g;
    adds = λ owns y. adds-by h (attribute_at t place n v) y g (e owns);
  }

pub took-none : (run : List ℕ) (table : List (List ℕ)) (h : Source → Bool) (t place n : ℕ) (v : List ℕ) → Table run table
    → ((owns : List (List ℕ)) (x : Spot) → Valid owns x → 0 ≡ cond (h (source_of x) && eqb (code_of x) (code_of_type t)) (cell_of place n) 0)
    → Took run table table h (attribute_at t place n v ∷ [])
took-none run table h t place n v holds e = record {
  holds = holds;
  kept = kept-none table;
  adds = λ owns y. adds-by h (attribute_at t place n v) y (given_nothing table) (e owns);
}

pub a-set : {table : List (List ℕ)} (s : ℕ) → 3 ≤ length table → s < 2 → IsSet table s
a-set s h l = record { inside = omega arith; other = λ e. omega arith }

-- Who hears a general list.
pub all_without : heard_by_all (live WithoutL) ≡ true
unfolding heard_by_all
all_without = refl

pub all-legacy : heard_by_all legacy ≡ false
unfolding heard_by_all
all-legacy = refl

pub all-alone : heard_by_all (live RsvpTeAlone) ≡ false
unfolding heard_by_all
all-alone = refl
