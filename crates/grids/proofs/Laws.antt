-- Laws of rows, of grids, and of the slots that they are read from. Assumes nothing.
use Rattle.std.specs.Prelude.{Option, Some, None}
use Prim.Native.Nat.{ℕ, zero, suc, ◌+◌, ◌≤◌, ◌<◌}
use mathlib.Core.Path.{◌≡◌, refl, sym, ◌∙◌, ap, ap₂}
use mathlib.Core.Bool.{Bool, true, false, cond, ◌&&◌}
use mathlib.Core.List.{List, [], ◌∷◌, ◌++◌, map}
use lib.Dec.{eqb}
use lib.ListN.{length, get_or, take, drop, drop_of_length-le}
use lib.Seq.{drop-cons, get_or-take, ext_get_or}
use native.Mathlib.Omega.{arith}
use native.Mathlib.Numerals.{add-one}
use borrow.Author.Tests.{eq-eqb, eqb-true, eqb-false}
use Rattle.linkstate.specs.Lists.{numbers, same_bytes, same_rows}
use Rattle.linkstate.specs.Bytes.{bytes_at}
use Rattle.linkstate.proofs.ListLaws.{and_l, and_r}
use Rattle.kinds.specs.Rules.{grid_codes, row_in}
use Rattle.kinds.proofs.Computing.{computing}
use Rattle.octets.proofs.Laws.{same-lengths, length-bytes_at}
use Rattle.tlv_bytes.specs.Tlvs.{front, value_at}
use Rattle.tlv_bytes.proofs.Laws.{length-value, value_none, front-three, front-none}
use Rattle.grids.specs.Grids.{row_value, grid_value, RowFits, Alike, row_read}
use Rattle.grids.specs.Slots.{cell, cell_row, row_grid, slot_grid}
use Rattle.octets.specs.declared.Span.{Span}

-- ---- rows

module _ (r : List ℕ) where
  -- A row that is there: its place and length, which is not 0.
  pub row_is : (v : Span) → row_read r ≡ Some v → (v.place ≡ get_or r 0 0) × (v.len ≡ get_or r 1 0) × (0 < v.len)
  row_is v e = go (eqb (get_or r 1 0) 0) refl e
    where
      go : (b : Bool) → eqb (get_or r 1 0) 0 ≡ b → cond b None (Some record { place = get_or r 0 0; len = get_or r 1 0 }) ≡ Some v → (v.place ≡ get_or r 0 0) × (v.len ≡ get_or r 1 0) × (0 < v.len)
      go true t e = absurd cc
      go false t e =
          let f : record { place = get_or r 0 0; len = get_or r 1 0 } ≡ v = cc in
          let d = eqb-false (get_or r 1 0) 0 t in
          let n : v.len ≡ get_or r 1 0 = ap (λ (w : Span). w.len) (sym f) in
          (ap (λ (w : Span). w.place) (sym f), n, omega arith)

  pub row-present : (run : List ℕ) (v : Span) → row_read r ≡ Some v → row_value run r ≡ value_at run v.place v.len
  row-present run v e = let s = row_is v e in cc

  -- One that is absent has no length.
  pub row-none : row_read r ≡ None → get_or r 1 0 ≡ 0
  row-none e = go (eqb (get_or r 1 0) 0) refl e
    where
      go : (b : Bool) → eqb (get_or r 1 0) 0 ≡ b → cond {A = Option Span} b None (Some record { place = get_or r 0 0; len = get_or r 1 0 }) ≡ None → get_or r 1 0 ≡ 0
      go true t e = eqb-true (get_or r 1 0) 0 t
      go false t e = absurd cc

  pub row-absent : (run : List ℕ) → row_read r ≡ None → row_value run r ≡ []
  row-absent run e = value_none run (get_or r 0 0) (get_or r 1 0) (row-none e)

-- ---- equal values

same-front : (w u v : List ℕ) → same_bytes (w ++ u) (w ++ v) ≡ same_bytes u v
unfolding same_bytes
same-front [] u v = refl
same-front (b ∷ w) u v = rw (eq-eqb b b refl) (same-front w u v)

-- Values of different lengths differ, but for three bytes and four.
lengths_differ : (n m : ℕ) → (n ≡ m → ⊥) → (n ≡ 3 → m ≡ 4 → ⊥) → (n ≡ 4 → m ≡ 3 → ⊥) → length (front n) + n ≡ length (front m) + m → ⊥
lengths_differ n m d a b e = go (eqb n 3) refl (eqb m 3) refl
  where
    go : (s : Bool) → eqb n 3 ≡ s → (t : Bool) → eqb m 3 ≡ t → ⊥
    go true p true q = d (eqb-true n 3 p ∙ sym (eqb-true m 3 q))
    go true p false q =
        let x = eqb-true n 3 p in
        let y = ap length (front-three n x) in
        let z = ap length (front-none m (eqb-false m 3 q)) in
        a x (omega arith)
    go false p true q =
        let x = eqb-true m 3 q in
        let y = ap length (front-three m x) in
        let z = ap length (front-none n (eqb-false n 3 p)) in
        b (omega arith) x
    go false p false q =
        let y = ap length (front-none n (eqb-false n 3 p)) in
        let z = ap length (front-none m (eqb-false m 3 q)) in
        d (omega arith)

module _ (run x y : List ℕ) (f : RowFits run x) (g : RowFits run y) (alike : Alike x y) where
  pub rows-differ : (get_or x 1 0 ≡ get_or y 1 0 → ⊥) → false ≡ same_bytes (row_value run x) (row_value run y)
  rows-differ d =
      same-lengths (row_value run x) (row_value run y) (λ z.
      lengths_differ (get_or x 1 0) (get_or y 1 0) d alike.0 alike.1
      (sym (length-value run (get_or x 0 0) (get_or x 1 0) f.within) ∙ z ∙ length-value run (get_or y 0 0) (get_or y 1 0) g.within))

  rows-bytes : (r : Bool) → get_or x 1 0 ≡ get_or y 1 0 → r ≡ same_bytes (bytes_at run (get_or x 0 0) (get_or x 1 0)) (bytes_at run (get_or y 0 0) (get_or x 1 0)) → r ≡ same_bytes (row_value run x) (row_value run y)
  unfolding value_at
  rows-bytes r e is =
      is ∙ sym (same-front (front (get_or x 1 0)) (bytes_at run (get_or x 0 0) (get_or x 1 0)) (bytes_at run (get_or y 0 0) (get_or x 1 0)))
      ∙ ap (λ (n : ℕ). same_bytes (row_value run x) (front n ++ bytes_at run (get_or y 0 0) n)) e

  pub rows-say : (r : Bool) → r ≡ same_bytes (bytes_at run (get_or x 0 0) (get_or x 1 0)) (bytes_at run (get_or y 0 0) (get_or y 1 0)) → r ≡ same_bytes (row_value run x) (row_value run y)
  rows-say r is = go (eqb (get_or x 1 0) (get_or y 1 0)) refl
    where
      go : (b : Bool) → eqb (get_or x 1 0) (get_or y 1 0) ≡ b → r ≡ same_bytes (row_value run x) (row_value run y)
      go true e = let n = eqb-true (get_or x 1 0) (get_or y 1 0) e in rows-bytes r n (is ∙ ap (λ (m : ℕ). same_bytes (bytes_at run (get_or x 0 0) (get_or x 1 0)) (bytes_at run (get_or y 0 0) m)) (sym n))
      go false e =
          let d = eqb-false (get_or x 1 0) (get_or y 1 0) e in
          is ∙ sym (same-lengths (bytes_at run (get_or x 0 0) (get_or x 1 0)) (bytes_at run (get_or y 0 0) (get_or y 1 0)) (λ z. d (sym (length-bytes_at run (get_or x 0 0) (get_or x 1 0) f.within) ∙ z ∙ length-bytes_at run (get_or y 0 0) (get_or y 1 0) g.within)))
          ∙ rows-differ d

-- Two that are absent are the same.
pub none-say : (run x y : List ℕ) → get_or x 1 0 ≡ 0 → get_or y 1 0 ≡ 0 → true ≡ same_bytes (row_value run x) (row_value run y)
unfolding same_bytes
none-say run x y e f = rw (value_none run (get_or x 0 0) (get_or x 1 0) e, value_none run (get_or y 0 0) (get_or y 1 0) f)

-- ---- grids

pub ten : length grid_codes ≡ 10
unfolding computing
ten = refl

row_of : (k : ℕ) → k < 10 → row_in grid_codes (get_or grid_codes k 0) ≡ k
unfolding computing
row_of zero h = refl
row_of (suc zero) h = refl
row_of (suc (suc zero)) h = refl
row_of (suc (suc (suc zero))) h = refl
row_of (suc (suc (suc (suc zero)))) h = refl
row_of (suc (suc (suc (suc (suc zero))))) h = refl
row_of (suc (suc (suc (suc (suc (suc zero)))))) h = refl
row_of (suc (suc (suc (suc (suc (suc (suc zero))))))) h = refl
row_of (suc (suc (suc (suc (suc (suc (suc (suc zero)))))))) h = refl
row_of (suc (suc (suc (suc (suc (suc (suc (suc (suc zero))))))))) h = refl
row_of (suc (suc (suc (suc (suc (suc (suc (suc (suc (suc k)))))))))) h = absurd (omega arith)

pub grid-at : (run : List ℕ) (g : List (List ℕ)) (k : ℕ) → k < 10 → grid_value run g (get_or grid_codes k 0) ≡ row_value run (get_or g k [])
unfolding grid_value
grid-at run g k h = ap (λ (j : ℕ). row_value run (get_or g j [])) (row_of k h)

-- Two grids from a row on.
module _ (run : List ℕ) (g h : List (List ℕ)) (k : ℕ) where
  abbrev pub From : Bool
  From = same_rows (map (grid_value run g) (drop k grid_codes)) (map (grid_value run h) (drop k grid_codes))

  pub grids-end : 10 ≤ k → true ≡ From
  unfolding same_rows
  grids-end l = rw (drop_of_length-le grid_codes {i = k} (omega (arith, ten)))

  module _ (l : k < 10) (r : Bool) (is : r ≡ same_bytes (row_value run (get_or g k [])) (row_value run (get_or h k []))) where
    here : same_bytes (grid_value run g (get_or grid_codes k 0)) (grid_value run h (get_or grid_codes k 0)) ≡ r
    here = rw (grid-at run g k l, grid-at run h k l) (sym is)

    pub grids-next : r ≡ true → From ≡ same_rows (map (grid_value run g) (drop (k + 1) grid_codes)) (map (grid_value run h) (drop (k + 1) grid_codes))
    unfolding same_rows
    grids-next t = rw (add-one k, drop-cons grid_codes k 0 (omega (arith, ten)), here ∙ t)

    pub grids-differ : r ≡ false → From ≡ false
    unfolding same_rows
    grids-differ t = rw (drop-cons grid_codes k 0 (omega (arith, ten)), here ∙ t)

-- ---- the grid of a slot

pub row-numbers : (f : ℕ → List ℕ) (n from k : ℕ) → k < n → get_or (map f (numbers from n)) k [] ≡ f (from + k)
unfolding numbers
row-numbers f zero from k h = absurd (omega arith)
row-numbers f (suc n) from zero h = ap f (omega arith)
row-numbers f (suc n) from (suc k) h = row-numbers f n (suc from) k (omega arith) ∙ ap f (omega arith)

pub slot_row : (sets : List (List ℕ)) (s k : ℕ) → k < 10 → get_or (slot_grid sets s) k [] ≡ cell_row (cell sets s k)
unfolding slot_grid
slot_row sets s k h = row-numbers (λ j. cell_row (cell sets s j)) 10 0 k h ∙ ap (λ (j : ℕ). cell_row (cell sets s j)) (omega arith)

pub length-slot : (sets : List (List ℕ)) (s : ℕ) → length (slot_grid sets s) ≡ 10
unfolding slot_grid numbers
length-slot sets s = refl

-- The grid of a slot is that of its row in the table.
pub row_at : (r : List ℕ) (k : ℕ) → k < 10 → get_or (row_grid r) k [] ≡ cell_row (get_or r k 0)
unfolding row_grid
row_at r k h = row-numbers (λ j. cell_row (get_or r j 0)) 10 0 k h ∙ ap (λ (j : ℕ). cell_row (get_or r j 0)) (omega arith)

pub row-slot : (sets : List (List ℕ)) (s : ℕ) → row_grid (get_or sets s []) ≡ slot_grid sets s
unfolding row_grid slot_grid
row-slot sets s = refl

-- Slots whose ten cells are the same have the same grid.
pub cells-grid : (sets : List (List ℕ)) (s t : ℕ) → take 10 (get_or sets s []) ≡ take 10 (get_or sets t []) → slot_grid sets s ≡ slot_grid sets t
cells-grid sets s t e =
    ext_get_or [] (slot_grid sets s) (slot_grid sets t) (length-slot sets s ∙ sym (length-slot sets t)) (λ i l.
    let b : i < 10 = omega (arith, length-slot sets s) in
    slot_row sets s i b ∙ ap cell_row (sym (get_or-take 10 (get_or sets s []) i 0 b) ∙ ap (λ (r : List ℕ). get_or r i 0) e ∙ get_or-take 10 (get_or sets t []) i 0 b) ∙ sym (slot_row sets t i b))

-- Two lists, of which the rests are left: the same, if all that were passed are and the rests are.
pub record Passed (x y : List ℕ) (same : Bool) (xs ys : List ℕ) : Type 0 where
  pub lengths : length xs ≡ length ys
  pub tells : same ≡ true → xs ≡ ys → x ≡ y

pub passed-next : {x y : List ℕ} {same : Bool} {xs ys xs' ys' : List ℕ} {a b : ℕ} → xs ≡ a ∷ xs' → ys ≡ b ∷ ys' → Passed x y same xs ys → Passed x y (same && eqb a b) xs' ys'
passed-next {same = same} {a = a} {b = b} e f p = record {
  lengths = omega (arith, ap length e, ap length f, p.lengths);
  tells = λ t h. p.tells (and_l same (eqb a b) t) (e ∙ ap₂ (λ (i : ℕ) (l : List ℕ). i ∷ l) (eqb-true a b (and_r same (eqb a b) t)) h ∙ sym f);
}
