-- The slots of a table whose cells are those of attributes that stand in run A. Assumes nothing.
use mathlib.Core.Path.{◌≡◌, refl, sym, ap, ap₂, ◌∙◌, subst}
use mathlib.Core.Bool.{Bool, true, false, cond, false≢true}
use mathlib.Core.List.{List, [], ◌∷◌, map}
use Prim.Native.Nat.{ℕ, zero, suc, ◌+◌, ◌/◌, ◌≤◌, ◌<◌}
use native.Mathlib.Omega.{arith}
use borrow.Author.Tests.{ltb-true, ltb-false}
use lib.Dec.{eqb, ltb}
use lib.ListN.{length, get_or, set, length-set, get_or-eq_default}
use lib.Seq.{get_or-set_same, get_or-set_other}
use Rattle.linkstate.specs.Lists.{numbers}
use Rattle.linkstate.specs.Kinds.{link_codes}
use Rattle.linkstate.specs.Attributes.{Attribute, value_of}
use Rattle.masks.specs.Sets.{turned_place}
use Rattle.kinds.specs.Rules.{grid_codes, row_in}
use Rattle.isis_kinds.proofs.Computing.{computing}
use Rattle.isis.proofs.TypeLaws.{wrong_of_code}
use Rattle.rules.specs.declared.Names.{Names}
use Rattle.masks.specs.Applications.{in_set}
use Rattle.grids.specs.Grids.{row_value, grid_value, bandwidth_of, Alike}
use Rattle.grids.specs.Slots.{cell, cell_row, slot_grid, link_rows, IsSet}
use Rattle.grids.proofs.Laws.{grid-at, row-numbers, slot_row, length-slot}
use Rattle.set_table.specs.Tables.{first, CellFits, Fitting, Table, slot_at}
use Rattle.set_table.proofs.Tables.{set-fitting, row-table}
use Rattle.isis_grids.proofs.Types.{ten-codes, three-codes}
use Rattle.isis_grids.proofs.Grids.{All}
use Rattle.isis_grids.proofs.Places.{Stands}
use Rattle.isis_index.specs.Index.{cell_in, Walked}
use Rattle.isis_index.specs.Started.{Started}
use Rattle.isis_index.specs.Settled.{with_maximum, settled, Settled}
use Rattle.isis_index.specs.Indexed.{Holds}
use Rattle.isis_index.proofs.Values.{grid-code, link-code, cell-right, cell-means}

-- Cells of the attributes that f gives by code.
pub record Filled (a : List ℕ) (table : List (List ℕ)) (s : ℕ) (f : ℕ → List Attribute) : Type 0 where
  pub is : IsSet table s
  pub cells : (k : ℕ) → k < 10 → cell table s k ≡ cell_in (get_or grid_codes k 0) (f (get_or grid_codes k 0))
  pub stands : (c : ℕ) → All (Stands a) (f c)

-- What two functions say of each code of a list.
map-by : (f g : ℕ → List ℕ) (cs : List ℕ) → ((k : ℕ) → k < length cs → f (get_or cs k 0) ≡ g (get_or cs k 0)) → map f cs ≡ map g cs
map-by f g [] h = refl
map-by f g (c ∷ cs) h = ap₂ (λ (x : List ℕ) (xs : List (List ℕ)). x ∷ xs) (h 0 (omega arith)) (map-by f g cs (λ k l. h (suc k) (omega arith)))

-- ---- values

module _ {a : List ℕ} (small : length a < 65536) {table : List (List ℕ)} where
  pub filled-holds : {s : ℕ} {f : ℕ → List Attribute} → Filled a table s f → Holds a table s f
  filled-holds {s} {f} y = record {
    stands = y.is;
    values = map-by (grid_value a (slot_grid table s)) (λ c. value_of c (f c)) grid_codes (λ k l. value k (omega (arith, ten-codes)));
  }
    where
      value : (k : ℕ) → k < 10 → grid_value a (slot_grid table s) (get_or grid_codes k 0) ≡ value_of (get_or grid_codes k 0) (f (get_or grid_codes k 0))
      value k h =
          let c = get_or grid_codes k 0 in
          grid-at a (slot_grid table s) k h
          ∙ ap (row_value a) (slot_row table s k h ∙ ap cell_row (y.cells k h))
          ∙ cell-means a c (f c) (y.stands c) (grid-code k h) small

  -- A length of a kind is right.
  kind-right : {s : ℕ} {f : ℕ → List Attribute} → Filled a table s f → (k : ℕ) → k < 10 → (n : ℕ) → get_or (get_or (slot_grid table s) k []) 1 0 ≡ n → (n ≡ 0 → ⊥)
      → wrong_of_code (get_or grid_codes k 0) n ≡ false
  kind-right {s} {f} y k h n e d =
      let c = get_or grid_codes k 0 in
      cell-right a c (f c) (y.stands c) (grid-code k h) small n (ap (λ (x : ℕ). x / 65536) (sym (y.cells k h)) ∙ sym (ap (λ (r : List ℕ). get_or r 1 0) (slot_row table s k h)) ∙ e) d

  -- So no kind has a value of three bytes and one of four.
  pub filled-alike : {s t : ℕ} {f g : ℕ → List Attribute} → Filled a table s f → Filled a table t g → (k : ℕ)
      → Alike (get_or (slot_grid table s) k []) (get_or (slot_grid table t) k [])
  filled-alike {s} {t} y z k = go (ltb k 10) refl
    where
      differ : k < 10 → wrong_of_code (get_or grid_codes k 0) 3 ≡ false → wrong_of_code (get_or grid_codes k 0) 4 ≡ false → ⊥
      differ h e f = false≢true ((grid-code k h).three 4 f ∙ sym ((grid-code k h).three 3 e))

      no_row : 10 ≤ k → (i : ℕ) → get_or (get_or (slot_grid table i) k []) 1 0 ≡ 0
      no_row h i = ap (λ (r : List ℕ). get_or r 1 0) (get_or-eq_default (slot_grid table i) [] {n = k} (omega (arith, length-slot table i)))

      go : (b : Bool) → ltb k 10 ≡ b → Alike (get_or (slot_grid table s) k []) (get_or (slot_grid table t) k [])
      go true e =
          let h = ltb-true k 10 e in (
            λ p q. differ h (kind-right y k h 3 p (λ i. omega arith)) (kind-right z k h 4 q (λ i. omega arith)),
            λ p q. differ h (kind-right z k h 3 q (λ i. omega arith)) (kind-right y k h 4 p (λ i. omega arith)),
          )
      go false e = let h = ltb-false k 10 e in (λ p q. omega (arith, no_row h s), λ p q. omega (arith, no_row h s))

-- ---- the link's bandwidths

link_row : (k : ℕ) → k < 3 → row_in link_codes (get_or link_codes k 0) ≡ k
unfolding computing
link_row zero h = refl
link_row (suc zero) h = refl
link_row (suc (suc zero)) h = refl
link_row (suc (suc (suc k))) h = absurd (omega arith)

module _ (a : List ℕ) (small : length a < 65536) (table : List (List ℕ)) (f : ℕ → List Attribute) (stands : (c : ℕ) → All (Stands a) (f c)) where
  pub link-values : ((k : ℕ) → k < 3 → cell table 2 k ≡ cell_in (get_or link_codes k 0) (f (get_or link_codes k 0)))
      → map (bandwidth_of a (link_rows table)) link_codes ≡ map (λ c. value_of c (f c)) link_codes
  unfolding bandwidth_of link_rows
  link-values e = map-by (bandwidth_of a (link_rows table)) (λ c. value_of c (f c)) link_codes (λ k l. value k (omega (arith, three-codes)))
    where
      value : (k : ℕ) → k < 3 → bandwidth_of a (link_rows table) (get_or link_codes k 0) ≡ value_of (get_or link_codes k 0) (f (get_or link_codes k 0))
      value k h =
          let c = get_or link_codes k 0 in
          let z : 0 + k ≡ k = omega arith in
          ap (λ (i : ℕ). row_value a (get_or (map (λ j. cell_row (cell table 2 j)) (numbers 0 3)) i [])) (link_row k h)
          ∙ ap (row_value a) (row-numbers (λ j. cell_row (cell table 2 j)) 3 0 k h ∙ ap (λ (j : ℕ). cell_row (cell table 2 j)) z ∙ ap cell_row (e k h))
          ∙ cell-means a c (f c) (stands c) (link-code k h) small

-- ---- the link's row, settled

fits-first : (run : List ℕ) (x y : ℕ) → CellFits run x → CellFits run y → CellFits run (first x y)
unfolding first
fits-first run x y f g = go (eqb x 0)
  where
    go : (b : Bool) → CellFits run (cond b y x)
    go true = g
    go false = f

module _ (run row : List ℕ) (f : Fitting run row) where
  maximum-fits : Fitting run (with_maximum row)
  maximum-fits = set-fitting run row f 0 _ (omega arith) (fits-first run (get_or row 0 0) (get_or row 3 0) (f.fits 0 (omega arith)) (f.fits 3 (omega arith)))

  settled-fits : (l : Bool) → Fitting run (settled row l)
  settled-fits true = maximum-fits
  settled-fits false =
      set-fitting run (set (with_maximum row) 1 (first (get_or row 4 0) (get_or row 1 0)))
      (set-fitting run (with_maximum row) maximum-fits 1 _ (omega arith) (fits-first run (get_or row 4 0) (get_or row 1 0) (f.fits 4 (omega arith)) (f.fits 1 (omega arith))))
      2 _ (omega arith) (fits-first run (get_or row 5 0) (get_or row 2 0) (f.fits 5 (omega arith)) (f.fits 2 (omega arith)))

pub settled-table : {run : List ℕ} {table : List (List ℕ)} → Table run table → 2 < length table → (l : Bool)
    → Table run (set table 2 (settled (get_or table 2 []) l))
settled-table {run} {table} t h l = row-table table 2 h (settled (get_or table 2 []) l) run t (settled-fits run (get_or table 2 []) (t.rows 2 h) l) (λ d. absurd (d refl))

-- Its three cells.
module _ (row : List ℕ) (twelve : length row ≡ 12) where
  abbrev one : List ℕ
  one = set (with_maximum row) 1 (first (get_or row 4 0) (get_or row 1 0))

  sizes : (length (with_maximum row) ≡ 12) × (length one ≡ 12)
  sizes = let s = length-set row 0 (first (get_or row 0 0) (get_or row 3 0)) ∙ twelve in
      (s, length-set (with_maximum row) 1 (first (get_or row 4 0) (get_or row 1 0)) ∙ s)

  maximum-cell : get_or (with_maximum row) 0 0 ≡ first (get_or row 0 0) (get_or row 3 0)
  maximum-cell = get_or-set_same row 0 _ 0 (omega arith)

  pub settled-first : (l : Bool) → get_or (settled row l) 0 0 ≡ first (get_or row 0 0) (get_or row 3 0)
  settled-first true = maximum-cell
  settled-first false = get_or-set_other one 2 0 _ 0 (λ e. omega arith) ∙ get_or-set_other (with_maximum row) 1 0 _ 0 (λ e. omega arith) ∙ maximum-cell

  pub settled-second : (l : Bool) → get_or (settled row l) 1 0 ≡ cond l (get_or row 1 0) (first (get_or row 4 0) (get_or row 1 0))
  settled-second true = get_or-set_other row 0 1 _ 0 (λ e. omega arith)
  settled-second false = get_or-set_other one 2 1 _ 0 (λ e. omega arith) ∙ get_or-set_same (with_maximum row) 1 _ 0 (omega (arith, sizes.0))

  pub settled-third : (l : Bool) → get_or (settled row l) 2 0 ≡ cond l (get_or row 2 0) (first (get_or row 5 0) (get_or row 2 0))
  settled-third true = get_or-set_other row 0 2 _ 0 (λ e. omega arith)
  settled-third false = get_or-set_same one 2 _ 0 (omega (arith, sizes.1))

-- ---- the table with the settled row

pub settled-of : {a : List ℕ} {own begun walked table : List (List ℕ)} {l : Bool} → length walked ≡ length begun → Walked a own walked → (b : Bool) → b ≡ l
    → table ≡ set walked 2 (settled (get_or walked 2 []) b) → Settled a own begun table l
settled-of {a} {own} {begun} {walked} h w b e i = record { walked = walked; same = h; walk = w; settles = i ∙ ap (λ (x : Bool). set walked 2 (settled (get_or walked 2 []) x)) e }

pub settled-ready : {a : List ℕ} {named : Names} {own begun table : List (List ℕ)} {l : Bool} → Started named begun own → Settled a own begun table l
    → Table a table × (1 < length table) × (in_set named.named 0 ≡ true → IsSet table (slot_at own 7))
unfolding turned_place
settled-ready {a} {named} {own} {begun} {table} {l} y s = (
  subst (Table a) (sym s.settles) (settled-table s.walk.holds (omega (arith, s.same, y.three)) l),
  omega (arith, long, y.three),
  λ e. let i = y.slots 0 (omega arith) e in record { inside = omega (arith, long, i.1); other = λ z. omega (arith, i.0) },
)
  where
    long : length table ≡ length begun
    long = ap length s.settles ∙ length-set s.walked 2 _ ∙ s.same
