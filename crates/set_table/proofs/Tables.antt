-- Laws of the table while it is filled: values that come to cells, and a row with a value more. Assumes nothing.
use Prim.Native.Nat.{ℕ, ◌+◌, ◌/◌, ◌%◌, ◌≤◌, ◌<◌}
use mathlib.Core.Path.{◌≡◌, refl, sym, ◌∙◌, ap, subst}
use mathlib.Core.Bool.{Bool, true, false, cond, ◌&&◌}
use mathlib.Core.List.{List, []}
use lib.Dec.{eqb, ltb}
use lib.ListN.{length, get_or, set, length-set, get_or-eq_default}
use lib.Seq.{get_or-set_same, get_or-set_other}
use native.Mathlib.Omega.{arith}
use borrow.Author.Tests.{eqb-true, eqb-false, eq-eqb, ne_eqb, ltb-true, ltb-false}
use Rattle.linkstate.specs.Lists.{numbers}
use Rattle.linkstate.proofs.ListLaws.{and_l, and_r}
use Rattle.kinds.specs.Rules.{grid_codes}
use Rattle.kinds.proofs.Computing.{computing}
use Rattle.tlv_bytes.specs.Tlvs.{front, value_at}
use Rattle.tlv_bytes.proofs.Laws.{length-value, value_none, front-most}
use Rattle.grids.specs.Grids.{row_value, grid_value, RowFits, Fits, Alike}
use Rattle.grids.specs.Slots.{cell, cell_row, slot_grid, slot_values, slot_size, IsSet, Slots}
use Rattle.grids.proofs.Laws.{row-numbers, slot_row, length-slot}
use Rattle.srlg_sources.proofs.Marks.{At, here, there, at_row}
use Rattle.set_table.specs.Marks.{value_mark, value_size, total, set_mark, set_size}
use Rattle.set_table.specs.Tables.{cell_of, first, CellFits, row_values, Fitting, Summed, Table, Given, only_at, Value, entered_row, entered}
use Rattle.set_table.proofs.Marks.{size_is, none-mark, none-size, total-one, total-most, tlvs-size, more-mod}

-- ---- values that come to a cell

module _ (x y z : ℕ) where
  pub first_taken : (x ≡ 0 → ⊥) → first x y ≡ x
  unfolding first
  first_taken n = rw (ne_eqb x 0 n)

  pub first-free : x ≡ 0 → first x y ≡ y
  unfolding first
  first-free e = rw (eq-eqb x 0 e)

  pub first-none : first x 0 ≡ x
  unfolding first
  first-none = go (eqb x 0) refl
    where
      go : (b : Bool) → eqb x 0 ≡ b → cond b 0 x ≡ x
      go true e = sym (eqb-true x 0 e)
      go false e = refl

  -- One that comes later changes nothing.
  pub first-assoc : first (first x y) z ≡ first x (first y z)
  unfolding first
  first-assoc = go (eqb x 0) refl
    where
      go : (b : Bool) → eqb x 0 ≡ b → cond (eqb (cond b y x) 0) z (cond b y x) ≡ cond b (cond (eqb y 0) z y) x
      go true e = refl
      go false e = rw e

-- ---- what comes to a table

-- A table as it is, where nothing comes to a free cell.
pub given-none : (sets : List (List ℕ)) (g : ℕ → ℕ → ℕ) → ((s k : ℕ) → s < length sets → k < 10 → first (cell sets s k) (g s k) ≡ cell sets s k) → Given sets sets g
given-none sets g h = record { same = refl; cells = λ s k l m. sym (h s k l m) }

-- What comes first, and what comes then.
pub given-then : {sets mid after : List (List ℕ)} {g h : ℕ → ℕ → ℕ} → Given sets mid g → Given mid after h → Given sets after (λ s k. first (g s k) (h s k))
given-then {sets} {mid} {after} {g} {h} a b = record {
  same = b.same ∙ a.same;
  cells = λ s k l m.
      b.cells s k (omega (arith, a.same)) m ∙ ap (λ (x : ℕ). first x (h s k)) (a.cells s k l m) ∙ first-assoc (cell sets s k) (g s k) (h s k);
}

pub given-as : {sets after : List (List ℕ)} {g h : ℕ → ℕ → ℕ} → ((s k : ℕ) → s < length sets → k < 10 → g s k ≡ h s k) → Given sets after g → Given sets after h
given-as {sets} {after} {g} {h} e a = record { same = a.same; cells = λ s k l m. a.cells s k l m ∙ ap (first (cell sets s k)) (e s k l m) }

-- ---- a row with one value more

module _ (row : List ℕ) (twelve : length row ≡ 12) (k : ℕ) (low : k < 10) (c m z : ℕ) where
  abbrev pub After : List ℕ
  After = entered_row row k c m z

  abbrev one : List ℕ
  one = set row 10 ((get_or row 10 0 + m) % 4294967296)

  abbrev two : List ℕ
  two = set one 11 (get_or row 11 0 + z)

  one-length : length one ≡ 12
  one-length = length-set row 10 _ ∙ twelve

  two-length : length two ≡ 12
  two-length = length-set one 11 _ ∙ one-length

  pub entered-length : length After ≡ 12
  entered-length = length-set two k c ∙ two-length

  pub entered-size : get_or After 11 0 ≡ get_or row 11 0 + z
  entered-size = get_or-set_other two k 11 c 0 (λ e. omega arith) ∙ get_or-set_same one 11 _ 0 (omega (arith, one-length))

  pub entered-mark : get_or After 10 0 ≡ (get_or row 10 0 + m) % 4294967296
  entered-mark = get_or-set_other two k 10 c 0 (λ e. omega arith) ∙ get_or-set_other one 11 10 _ 0 (λ e. omega arith) ∙ get_or-set_same row 10 _ 0 (omega arith)

  pub entered-cell : get_or After k 0 ≡ c
  entered-cell = get_or-set_same two k c 0 (omega (arith, two-length))

  pub entered-other : (j : ℕ) → j < 10 → (j ≡ k → ⊥) → get_or After j 0 ≡ get_or row j 0
  entered-other j h n = get_or-set_other two k j c 0 n ∙ get_or-set_other one 11 j _ 0 (λ e. omega arith) ∙ get_or-set_other row 10 j _ 0 (λ e. omega arith)

module _ (run : List ℕ) where
  pub value-at : (row : List ℕ) (j : ℕ) → j < 10 → get_or (row_values run row) j [] ≡ row_value run (cell_row (get_or row j 0))
  unfolding row_values
  value-at row j h = row-numbers (λ i. row_value run (cell_row (get_or row i 0))) 10 0 j h ∙ ap (λ (i : ℕ). row_value run (cell_row (get_or row i 0))) (omega arith)

  pub ten-values : (row : List ℕ) → length (row_values run row) ≡ 10
  unfolding row_values numbers
  ten-values row = refl

  pub no_value : (c : ℕ) → c ≡ 0 → row_value run (cell_row c) ≡ []
  no_value c e = value_none run (c % 65536) (c / 65536) (omega arith)

  pub cell-value : (place n : ℕ) → Value run place n → row_value run (cell_row (cell_of place n)) ≡ value_at run place n
  cell-value place n v =
      let l = v.low in
      let p : cell_of place n % 65536 ≡ place = omega arith in
      let q : cell_of place n / 65536 ≡ n = omega arith in
      rw (p, q)

  pub cell-fits : (place n : ℕ) → Value run place n → CellFits run (cell_of place n)
  cell-fits place n v =
      let l = v.low in
      let i = v.within in
      let s = v.short in
      let o = v.some in
      record { within = omega arith; short = omega arith; some = λ e. omega arith }

  -- In a row with a value where there was none, its values give so much more.
  module _ (row : List ℕ) (f : Fitting run row) (k : ℕ) (low : k < 10) (free : get_or row k 0 ≡ 0) (place n : ℕ) (v : Value run place n) where
    abbrev value : List ℕ
    value = value_at run place n

    value-some : 0 < length value
    value-some = omega (arith, length-value run place n v.within, v.some)

    module _ (m z : ℕ) where
      abbrev next : List ℕ
      next = entered_row row k (cell_of place n) m z

      other-value : (j : ℕ) → j < length (row_values run row) → (j ≡ k → ⊥) → get_or (row_values run next) j [] ≡ get_or (row_values run row) j []
      other-value j h d =
          let b : j < 10 = omega (arith, ten-values row) in
          value-at next j b ∙ ap (λ (c : ℕ). row_value run (cell_row c)) (entered-other row f.twelve k low (cell_of place n) m z j b d) ∙ sym (value-at row j b)

      this-value : get_or (row_values run next) k [] ≡ value
      this-value = value-at next k low ∙ ap (λ (c : ℕ). row_value run (cell_row c)) (entered-cell row f.twelve k low (cell_of place n) m z) ∙ cell-value place n v

      gives : (g : ℕ → List ℕ → ℕ) → ((i : ℕ) → g i [] ≡ 0) → total g 0 (row_values run next) ≡ total g 0 (row_values run row) + g k value
      gives g none =
          total-one g none k (row_values run row) (row_values run next) (ten-values row ∙ sym (ten-values next)) (omega (arith, ten-values row))
          (value-at row k low ∙ no_value (get_or row k 0) free) other-value
          ∙ ap (λ (w : List ℕ). total g 0 (row_values run row) + g k w) this-value

      pub entered-fitting : Fitting run next
      entered-fitting = record {
        twelve = entered-length row f.twelve k low (cell_of place n) m z;
        fits = λ j h. go j h (eqb j k) refl;
      }
        where
          go : (j : ℕ) → j < 10 → (b : Bool) → eqb j k ≡ b → CellFits run (get_or next j 0)
          go j h true e = subst (CellFits run) (sym (ap (λ (i : ℕ). get_or next i 0) (eqb-true j k e) ∙ entered-cell row f.twelve k low (cell_of place n) m z)) (cell-fits place n v)
          go j h false e = subst (CellFits run) (sym (entered-other row f.twelve k low (cell_of place n) m z j h (eqb-false j k e))) (f.fits j h)

      pub entered-summed : Summed run row → m ≡ value_mark k value → z ≡ 4 + (length (front n) + n) → Summed run next
      unfolding set_mark set_size
      entered-summed s em ez = record {
        mark =
            entered-mark row f.twelve k low (cell_of place n) m z ∙ ap (λ (x : ℕ). (x + m) % 4294967296) s.mark
            ∙ more-mod _ _ m (gives value_mark none-mark ∙ ap (λ (x : ℕ). total value_mark 0 (row_values run row) + x) (sym em));
        size =
            entered-size row f.twelve k low (cell_of place n) m z
            ∙ omega (arith, s.size, gives value_size none-size, size_is k value value-some, length-value run place n v.within);
      }

-- A row's size is small.
module _ (run row : List ℕ) (f : Fitting run row) where
  value-small : (j : ℕ) → j < length (row_values run row) → length (get_or (row_values run row) j []) ≤ 4097
  value-small j h =
      let b : j < 10 = omega (arith, ten-values run row) in
      let c = get_or row j 0 in
      let g = f.fits j b in
      omega (arith, ap length (value-at run row j b), length-value run (c % 65536) (c / 65536) g.within, front-most (c / 65536), g.short)

  pub size_small : Summed run row → get_or row 11 0 ≤ 41010
  unfolding set_size
  size_small s = omega (arith, s.size, total-most 4097 0 (row_values run row) value-small, ten-values run row)

-- A row with another cell.
pub set-fitting : (run row : List ℕ) → Fitting run row → (k c : ℕ) → k < 10 → CellFits run c → Fitting run (set row k c)
set-fitting run row f k c low g = record { twelve = length-set row k c ∙ f.twelve; fits = λ j h. go j h (eqb j k) refl }
  where
    go : (j : ℕ) → j < 10 → (b : Bool) → eqb j k ≡ b → CellFits run (get_or (set row k c) j 0)
    go j h true e = subst (CellFits run) (sym (ap (λ (i : ℕ). get_or (set row k c) i 0) (eqb-true j k e) ∙ get_or-set_same row k c 0 (omega (arith, f.twelve)))) g
    go j h false e = subst (CellFits run) (sym (get_or-set_other row k j c 0 (eqb-false j k e))) (f.fits j h)

-- ---- a table with another row

module _ (sets : List (List ℕ)) (s : ℕ) (inside : s < length sets) (row : List ℕ) where
  abbrev pub Next : List (List ℕ)
  Next = set sets s row

  pub next-length : length Next ≡ length sets
  next-length = length-set sets s row

  pub row-given : (k c : ℕ) → ((j : ℕ) → j < 10 → get_or row j 0 ≡ first (cell sets s j) (cond (eqb j k) c 0)) → Given sets Next (only_at s k c)
  row-given k c h = record { same = next-length; cells = λ t j l m. go t j m (at_row sets s row t inside) }
    where
      go : (t j : ℕ) → j < 10 → At sets s row t → cell Next t j ≡ first (cell sets t j) (only_at s k c t j)
      go t j m (here e f) = ap (λ (r : List ℕ). get_or r j 0) f ∙ h j m ∙ rw (e, eq-eqb s s refl)
      go t j m (there n f) = ap (λ (r : List ℕ). get_or r j 0) f ∙ sym (rw (ne_eqb t s n) (first-none (cell sets t j) 0 0))

  pub row-table : (run : List ℕ) → Table run sets → Fitting run row → ((s ≡ 2 → ⊥) → Summed run row) → Table run Next
  row-table run t f z = record {
    rows = λ i h. fitting i h (at_row sets s row i inside);
    sums = λ i h. summed i h (at_row sets s row i inside);
  }
    where
      fitting : (i : ℕ) → i < length Next → At sets s row i → Fitting run (get_or Next i [])
      fitting i h (here e g) = subst (Fitting run) (sym g) f
      fitting i h (there n g) = subst (Fitting run) (sym g) (t.rows i (omega (arith, next-length)))

      summed : (i : ℕ) → IsSet Next i → At sets s row i → Summed run (get_or Next i [])
      summed i h (here e g) = subst (Summed run) (sym g) (z (λ x. h.other (e ∙ x)))
      summed i h (there n g) = let b = h.inside in subst (Summed run) (sym g) (t.sums i (record { inside = omega (arith, next-length); other = h.other }))

-- A cell that is taken keeps its value.
pub kept-given : (sets : List (List ℕ)) (s k c : ℕ) → (cell sets s k ≡ 0 → ⊥) → Given sets sets (only_at s k c)
kept-given sets s k c n = given-none sets (only_at s k c) (λ t j l m. go t j (eqb t s && eqb j k) refl)
  where
    go : (t j : ℕ) (b : Bool) → eqb t s && eqb j k ≡ b → first (cell sets t j) (cond b c 0) ≡ cell sets t j
    go t j true e =
        let p = eqb-true t s (and_l (eqb t s) (eqb j k) e) in
        let q = eqb-true j k (and_r (eqb t s) (eqb j k) e) in
        rw (p, q) (first_taken (cell sets s k) c 0 n)
    go t j false e = first-none (cell sets t j) 0 0

-- A free one takes it.
module _ (sets : List (List ℕ)) (s k c : ℕ) (inside : s < length sets) (low : k < 10) (free : cell sets s k ≡ 0) (row : List ℕ) (this : get_or row k 0 ≡ c)
    (other : (j : ℕ) → j < 10 → (j ≡ k → ⊥) → get_or row j 0 ≡ cell sets s j) where
  pub free-given : Given sets (set sets s row) (only_at s k c)
  free-given = row-given sets s inside row k c (λ j h. go j h (eqb j k) refl)
    where
      go : (j : ℕ) → j < 10 → (b : Bool) → eqb j k ≡ b → get_or row j 0 ≡ first (cell sets s j) (cond b c 0)
      go j h true e = let i = eqb-true j k e in rw i (this ∙ sym (first-free (cell sets s k) c 0 free))
      go j h false e = other j h (eqb-false j k e) ∙ sym (first-none (cell sets s j) 0 0)

-- ---- one value for one slot

module _ (run : List ℕ) (sets : List (List ℕ)) (t : Table run sets) (s k place n m z : ℕ) (is : IsSet sets s) (low : k < 10) (v : Value run place n) (free : cell sets s k ≡ 0) where
  abbrev row : List ℕ
  row = get_or sets s []

  pub entered-given : Given sets (entered sets s k (cell_of place n) m z) (only_at s k (cell_of place n))
  entered-given =
      let w = (t.rows s is.inside).twelve in
      free-given sets s k (cell_of place n) is.inside low free (entered_row row k (cell_of place n) m z)
      (entered-cell row w k low (cell_of place n) m z) (λ j h d. entered-other row w k low (cell_of place n) m z j h d)

  pub entered-table : m ≡ value_mark k (value_at run place n) → z ≡ 4 + (length (front n) + n) → Table run (entered sets s k (cell_of place n) m z)
  entered-table em ez =
      let f = t.rows s is.inside in
      row-table sets s is.inside (entered_row row k (cell_of place n) m z) run t (entered-fitting run row f k low free place n v m z)
      (λ d. entered-summed run row f k low free place n v m z (t.sums s is) em ez)

  pub entered-room : z ≡ 4 + (length (front n) + n) → slot_size sets s + z < 4294967296
  entered-room e = omega (arith, size_small run row (t.rows s is.inside) (t.sums s is), front-most n, v.short, e)

  -- as the code has it
  pub entered-is : (c : ℕ) → c ≡ cell_of place n → m ≡ value_mark k (value_at run place n) → z ≡ 4 + (length (front n) + n) → (after : List (List ℕ)) → after ≡ entered sets s k c m z
      → Table run after × Given sets after (only_at s k (cell_of place n))
  entered-is c ec em ez after e =
      let i : after ≡ entered sets s k (cell_of place n) m z = e ∙ ap (λ (x : ℕ). entered sets s k x m z) ec in
      (subst (Table run) (sym i) (entered-table em ez), subst (λ (x : List (List ℕ)). Given sets x (only_at s k (cell_of place n))) (sym i) entered-given)

-- ---- the link's slot

module _ (sets : List (List ℕ)) (k place n : ℕ) (inside : 2 < length sets) (twelve : length (get_or sets 2 []) ≡ 12) (low : k < 10) (free : cell sets 2 k ≡ 0) (c : ℕ) (is : c ≡ cell_of place n) where
  pub link-given : Given sets (set sets 2 (set (get_or sets 2 []) k c)) (only_at 2 k (cell_of place n))
  link-given =
      free-given sets 2 k (cell_of place n) inside low free (set (get_or sets 2 []) k c)
      (get_or-set_same (get_or sets 2 []) k c 0 (omega arith) ∙ is) (λ j h d. get_or-set_other (get_or sets 2 []) k j c 0 d)

  pub link-table : (run : List ℕ) → Table run sets → Value run place n → Table run (set sets 2 (set (get_or sets 2 []) k c))
  link-table run t v =
      row-table sets 2 inside (set (get_or sets 2 []) k c) run t (set-fitting run (get_or sets 2 []) (t.rows 2 inside) k c low (subst (CellFits run) (sym is) (cell-fits run place n v)))
      (λ d. absurd (d refl))

-- ---- the table that groups and bytes are made of

pub slot-values : (run : List ℕ) (sets : List (List ℕ)) (s : ℕ) → slot_values run sets s ≡ row_values run (get_or sets s [])
unfolding computing grid_value slot_grid row_values numbers
slot-values run sets s = refl

module _ (run : List ℕ) (sets : List (List ℕ)) (t : Table run sets) where
  cell-row-fits : (c : ℕ) → CellFits run c → RowFits run (cell_row c)
  cell-row-fits c f = record { within = f.within; short = f.short }

  slot-fits : (s : ℕ) → s < length sets → Fits run (slot_grid sets s)
  slot-fits s h k = go (ltb k 10) refl
    where
      none : RowFits run []
      none = record { within = omega arith; short = omega arith }

      go : (b : Bool) → ltb k 10 ≡ b → RowFits run (get_or (slot_grid sets s) k [])
      go true e = let l = ltb-true k 10 e in subst (RowFits run) (sym (slot_row sets s k l)) (cell-row-fits (cell sets s k) ((t.rows s h).fits k l))
      go false e = subst (RowFits run) (sym (get_or-eq_default (slot_grid sets s) [] {n = k} (omega (arith, ltb-false k 10 e, length-slot sets s)))) none

  -- Where no kind has values of three bytes and of four, the table is one that sets are read from.
  pub slots-of : ((s u k : ℕ) → IsSet sets s → IsSet sets u → Alike (get_or (slot_grid sets s) k []) (get_or (slot_grid sets u) k [])) → Slots run sets
  unfolding set_size
  slots-of alike = record {
    fits = slot-fits;
    alike = alike;
    marked = λ s u a b e. (t.sums s a).mark ∙ ap set_mark (sym (slot-values run sets s) ∙ e ∙ slot-values run sets u) ∙ sym (t.sums u b).mark;
    sized = λ s a. (t.sums s a).size ∙ ap (total value_size 0) (sym (slot-values run sets s)) ∙ sym (tlvs-size (grid_value run (slot_grid sets s)) grid_codes 0);
  }
