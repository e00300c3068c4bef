-- Cells of attributes that stand in run A, and the values that they stand for. Assumes nothing.
use mathlib.Core.Path.{◌≡◌, refl, sym, ap, ap₂, ◌∙◌}
use mathlib.Core.Bool.{Bool, true, false, cond, ◌&&◌, ◌||◌, not, false≢true}
use mathlib.Core.List.{List, [], ◌∷◌, ◌++◌}
use Prim.Native.Nat.{ℕ, zero, suc, ◌/◌, ◌%◌, ◌<◌}
use native.Mathlib.Omega.{arith}
use borrow.Author.Tests.{eqb-true, eq-eqb, ne_eqb}
use lib.Dec.{eqb, leb}
use lib.ListN.{length, get_or}
use Rattle.linkstate.specs.Lists.{keep, empty}
use Rattle.linkstate.specs.Bytes.{bytes_at}
use Rattle.linkstate.specs.Kinds.{link_codes}
use Rattle.linkstate.specs.Attributes.{Attribute, of_kind, first_value, value_of}
use Rattle.kinds.specs.Rules.{grid_codes}
use Rattle.isis_kinds.proofs.Computing.{computing}
use Rattle.isis.proofs.TypeLaws.{wrong_of_code}
use Rattle.tlv_bytes.specs.Tlvs.{front, value_at}
use Rattle.grids.specs.Grids.{row_value}
use Rattle.grids.specs.Slots.{cell_row}
use Rattle.set_table.specs.Tables.{cell_of, first}
use Rattle.set_table.proofs.Tables.{first-free, first_taken, no_value}
use Rattle.isis_grids.specs.Grid.{bgpls_value}
use Rattle.std.specs.Prelude.{is_none}
use Rattle.octets.specs.Spans.{found_in}
use Rattle.isis_grids.proofs.Types.{ten-codes, three-codes}
use Rattle.isis_grids.proofs.Grids.{All}
use Rattle.isis_grids.proofs.Places.{Stands, First, absent, present, first-of, some_bytes, within, value_none}
use Rattle.isis_index.specs.Index.{cell_in}

-- ---- lengths by codes

-- A code of run A other than 1096: its values have a byte, and three of them where it is the TE metric, and only there.
pub record Sized (c : ℕ) : Type 0 where
  pub single : eqb c 1096 ≡ false
  pub some : wrong_of_code c 0 ≡ true
  pub three : (n : ℕ) → wrong_of_code c n ≡ false → eqb n 3 ≡ eqb c 1092

exact : (k n : ℕ) → not (eqb n k) || false ≡ false → n ≡ k
exact k n e = go (eqb n k) refl e
  where
    go : (b : Bool) → eqb n k ≡ b → not b || false ≡ false → n ≡ k
    go true i e = eqb-true n k i
    go false i e = absurd (false≢true (sym e))

fours : (n : ℕ) → not (eqb (n % 4) 0 && leb 4 n && leb n 252) || false ≡ false → n % 4 ≡ 0
fours n e = go (eqb (n % 4) 0) refl e
  where
    go : (b : Bool) → eqb (n % 4) 0 ≡ b → not (b && leb 4 n && leb n 252) || false ≡ false → n % 4 ≡ 0
    go true i e = eqb-true (n % 4) 0 i
    go false i e = absurd (false≢true (sym e))

sized-by : (c k : ℕ) → ((n : ℕ) → wrong_of_code c n ≡ not (eqb n k) || false) → (k ≡ 3 → ⊥) → wrong_of_code c 0 ≡ true → eqb c 1096 ≡ false → eqb c 1092 ≡ false
    → Sized c
sized-by c k e d s m t = record { single = m; some = s; three = λ n h. let i = exact k n (sym (e n) ∙ h) in ne_eqb n 3 (λ z. d (omega arith)) ∙ sym t }

grid-sized : All Sized grid_codes
unfolding computing wrong_of_code
grid-sized = (
  sized-by 1088 4 (λ n. refl) (λ z. omega arith) refl refl refl,
  (
    record { single = refl; some = refl; three = λ n h. eq-eqb n 3 (exact 3 n h) },
    (
      sized-by 1114 4 (λ n. refl) (λ z. omega arith) refl refl refl,
      (
        sized-by 1115 8 (λ n. refl) (λ z. omega arith) refl refl refl,
        (
          sized-by 1116 4 (λ n. refl) (λ z. omega arith) refl refl refl,
          (
            sized-by 1117 4 (λ n. refl) (λ z. omega arith) refl refl refl,
            (
              sized-by 1118 4 (λ n. refl) (λ z. omega arith) refl refl refl,
              (
                sized-by 1119 4 (λ n. refl) (λ z. omega arith) refl refl refl,
                (
                  sized-by 1120 4 (λ n. refl) (λ z. omega arith) refl refl refl,
                  (record { single = refl; some = refl; three = λ n h. let i = fours n h in ne_eqb n 3 (λ z. omega arith) }, tt),
                ),
              ),
            ),
          ),
        ),
      ),
    ),
  ),
)

link-sized : All Sized link_codes
unfolding computing wrong_of_code
link-sized = (
  sized-by 1089 4 (λ n. refl) (λ z. omega arith) refl refl refl,
  (sized-by 1090 4 (λ n. refl) (λ z. omega arith) refl refl refl, (sized-by 1091 32 (λ n. refl) (λ z. omega arith) refl refl refl, tt)),
)

all_here : (P : ℕ → Type 0) (cs : List ℕ) → All P cs → (k : ℕ) → k < length cs → P (get_or cs k 0)
all_here P [] h k l = absurd (omega arith)
all_here P (c ∷ cs) h zero l = h.0
all_here P (c ∷ cs) h (suc k) l = all_here P cs h.1 k (omega arith)

pub grid-code : (k : ℕ) → k < 10 → Sized (get_or grid_codes k 0)
grid-code k h = all_here Sized grid_codes grid-sized k (omega (arith, ten-codes))

pub link-code : (k : ℕ) → k < 3 → Sized (get_or link_codes k 0)
link-code k h = all_here Sized link_codes link-sized k (omega (arith, three-codes))

-- ---- the cell of attributes that stand

cell_first : List Attribute → ℕ
cell_first [] = 0
cell_first (t ∷ ts) = cell_of t.at t.len

module _ (a : List ℕ) (c : ℕ) where
  cell-first : (ts : List Attribute) → All (Stands a) ts → cell_in c ts ≡ cell_first (of_kind c ts)
  unfolding cell_in of_kind keep cell_first
  cell-first [] h = refl
  cell-first (t ∷ ts) h = go (eqb c t.code) (cell-first ts h.1)
    where
      kept : List Attribute
      kept = keep (λ x. eqb c x.code) ts

      go : (b : Bool) → cell_in c ts ≡ cell_first kept → first (cond b (cell_of t.at t.len) 0) (cell_in c ts) ≡ cell_first (cond b (t ∷ kept) kept)
      go true e = first_taken (cell_of t.at t.len) (cell_in c ts) 0 (λ z. omega (arith, h.0.placed))
      go false e = first-free 0 (cell_in c ts) 0 refl ∙ e

  module _ (ts : List Attribute) (h : All (Stands a) ts) where
    none-cell : of_kind c ts ≡ [] → cell_in c ts ≡ 0
    unfolding cell_first
    none-cell e = cell-first ts h ∙ ap cell_first e

    some-cell : (t : Attribute) (us : List Attribute) → of_kind c ts ≡ t ∷ us → cell_in c ts ≡ cell_of t.at t.len
    unfolding cell_first
    some-cell t us e = cell-first ts h ∙ ap cell_first e

    module _ (z : Sized c) where
      -- An absent value has cell 0, and no other has.
      pub cell-empty : empty (value_of c ts) ≡ eqb (cell_in c ts) 0
      unfolding found_in
      cell-empty = value_none a c ts z.single z.some h ∙ go (first-of a c ts h)
        where
          go : First a c ts → is_none (found_in (of_kind c ts)) ≡ eqb (cell_in c ts) 0
          go (absent e) = ap (λ (us : List Attribute). is_none (found_in us)) e ∙ sym (ap (λ (x : ℕ). eqb x 0) (none-cell e))
          go (present t us e i s) =
              let p = s.placed in
              ap (λ (us : List Attribute). is_none (found_in us)) e
              ∙ sym (ap (λ (x : ℕ). eqb x 0) (some-cell t us e) ∙ ne_eqb (cell_of t.at t.len) 0 (λ x. omega arith))

      module _ (small : length a < 65536) where
        right_of : (t : Attribute) → t.code ≡ c → Stands a t → wrong_of_code c t.len ≡ false
        right_of t i s = ap (λ (x : ℕ). wrong_of_code x t.len) (sym i) ∙ s.right

        some_of : (t : Attribute) → t.code ≡ c → Stands a t → 0 < t.len
        some_of t i s = some_bytes a t s (ap (λ (x : ℕ). wrong_of_code x 0) i ∙ z.some)

        -- The length of a cell is right for its code.
        pub cell-right : (n : ℕ) → cell_in c ts / 65536 ≡ n → (n ≡ 0 → ⊥) → wrong_of_code c n ≡ false
        cell-right n e d = go (first-of a c ts h)
          where
            go : First a c ts → wrong_of_code c n ≡ false
            go (absent i) = absurd (d (omega (arith, none-cell i)))
            go (present t us i j s) =
                let k = some_of t j s in
                let w = within a t s k in
                let p : t.len ≡ n = omega (arith, some-cell t us i) in
                ap (wrong_of_code c) (sym p) ∙ right_of t j s

        value-first : value_of c ts ≡ first_value (of_kind c ts)
        unfolding value_of
        value-first = rw z.single

        -- A cell stands for its code's value.
        pub cell-means : row_value a (cell_row (cell_in c ts)) ≡ value_of c ts
        unfolding first_value value_at front bgpls_value
        cell-means = go (first-of a c ts h) ∙ sym value-first
          where
            go : First a c ts → row_value a (cell_row (cell_in c ts)) ≡ first_value (of_kind c ts)
            go (absent e) = no_value a (cell_in c ts) (none-cell e) ∙ sym (ap first_value e)
            go (present t us e i s) =
                let k = some_of t i s in
                let w = within a t s k in
                let p : cell_in c ts % 65536 ≡ t.at = omega (arith, some-cell t us e) in
                let q : cell_in c ts / 65536 ≡ t.len = omega (arith, some-cell t us e) in
                ap₂ (value_at a) p q
                ∙ ap (λ (b : Bool). cond b (0 ∷ []) [] ++ bytes_at a t.at t.len) (z.three t.len (right_of t i s) ∙ ap (λ (x : ℕ). eqb x 1092) (sym i))
                ∙ in-front (eqb t.code 1092) (bytes_at a t.at t.len) ∙ sym s.value ∙ sym (ap first_value e)
              where
                in-front : (b : Bool) (v : List ℕ) → cond b (0 ∷ []) [] ++ v ≡ cond b (0 ∷ v) v
                in-front true v = refl
                in-front false v = refl
