-- What is done when run A has been walked: the link's bandwidths, and legacy's values and slot for others. Assumes nothing.
use Rattle.std.specs.Prelude.{Some, None}
use mathlib.Core.Path.{◌≡◌, refl, sym, ap, ap₂, ◌∙◌, subst}
use mathlib.Core.Bool.{Bool, true, false, cond, ◌&&◌, ◌||◌, and-false}
use mathlib.Core.List.{List}
use Prim.Native.Nat.{ℕ, ◌+◌, ◌-◌, ◌^◌, ◌≤◌, ◌<◌}
use native.Mathlib.Omega.{arith}
use native.Mathlib.Nat.{div-eq_of_lt, lt_of_lt_of_le}
use lib.Pow.{pow_mono}
use borrow.Author.Tests.{eqb-true, eqb-false, ltb-true, ltb-false, lt-ltb, le-ltb, le-leb, lt-leb}
use lib.Dec.{eqb, ltb, leb}
use lib.ListN.{length, get_or, set}
use lib.Seq.{get_or-set_other}
use Rattle.linkstate.specs.Masks.{in_number}
use Rattle.octets.specs.declared.Span.{Span}
use Rattle.grids.specs.Grids.{row_read}
use Rattle.grids.specs.Slots.{cell, cell_row, IsSet}
use Rattle.grids.proofs.Laws.{row_is, row-none}
use Rattle.set_table.specs.Tables.{cell_of, first, CellFits, Table, Value, Given, only_at, has_place, Gave}
use Rattle.masks.specs.declared.Applications.{Applications}
use Rattle.masks.specs.Applications.{at_place}
use Rattle.set_table.proofs.Tables.{first-none, given-none, given-then, given-as}
use Rattle.set_table.proofs.Owns.{gave_then, gave-as}
use Rattle.isis_index.specs.Settled.{with_maximum, settled, from_old}

-- ---- the link's bandwidths

module _ (row : List ℕ) (x : ℕ) (is : x ≡ first (get_or row 0 0) (get_or row 3 0)) where
  pub settled-l : (l : Bool) → l ≡ true → set row 0 x ≡ settled row l
  settled-l l e = ap (set row 0) is
      ∙ ap (λ (b : Bool). cond b (with_maximum row) (set (set (with_maximum row) 1 (first (get_or row 4 0) (get_or row 1 0))) 2 (first (get_or row 5 0) (get_or row 2 0)))) (sym e)

  pub settled_plain : (l : Bool) → l ≡ false → (y z : ℕ) → y ≡ first (get_or (set row 0 x) 4 0) (get_or (set row 0 x) 1 0)
      → z ≡ first (get_or (set (set row 0 x) 1 y) 5 0) (get_or (set (set row 0 x) 1 y) 2 0) → set (set (set row 0 x) 1 y) 2 z ≡ settled row l
  settled_plain l e y z p q =
      ap₂ (λ (v w : ℕ). set (set (set row 0 x) 1 v) 2 w)
      (p ∙ ap₂ first (get_or-set_other row 0 4 x 0 (λ i. omega arith)) (get_or-set_other row 0 1 x 0 (λ i. omega arith)))
      (q ∙ ap₂ first (far 5 (λ i. omega arith) (λ i. omega arith)) (far 2 (λ i. omega arith) (λ i. omega arith)))
      ∙ ap (λ (v : ℕ). set (set (set row 0 v) 1 (first (get_or row 4 0) (get_or row 1 0))) 2 (first (get_or row 5 0) (get_or row 2 0))) is
      ∙ ap (λ (b : Bool). cond b (with_maximum row) (set (set (with_maximum row) 1 (first (get_or row 4 0) (get_or row 1 0))) 2 (first (get_or row 5 0) (get_or row 2 0)))) (sym e)
    where
      far : (k : ℕ) → (k ≡ 0 → ⊥) → (k ≡ 1 → ⊥) → get_or (set (set row 0 x) 1 y) k 0 ≡ get_or row k 0
      far k a b = get_or-set_other (set row 0 x) 1 k y 0 b ∙ get_or-set_other row 0 k x 0 a

-- ---- legacy's values for a slot

-- A cell as it is read: none, or a value of the run.
module _ {run : List ℕ} {c : ℕ} (f : CellFits run c) where
  pub cell-none : row_read (cell_row c) ≡ None → c ≡ 0
  cell-none e = go (eqb c 0) refl
    where
      go : (b : Bool) → eqb c 0 ≡ b → c ≡ 0
      go true i = eqb-true c 0 i
      go false i = absurd (omega (arith, row-none (cell_row c) e, f.some (eqb-false c 0 i)))

  module _ (v : Span) (e : row_read (cell_row c) ≡ Some v) where
    pub cell-stands : Value run v.place v.len
    cell-stands = let r = row_is (cell_row c) v e in record { within = omega (arith, r, f.within); low = omega (arith, r); some = r.2; short = omega (arith, r, f.short) }

    pub cell-back : cell_of v.place v.len ≡ c
    cell-back = let r = row_is (cell_row c) v e in omega (arith, r)

-- Nothing for a slot.
pub nothing-given : (table : List (List ℕ)) (s k c : ℕ) → c ≡ 0 → Given table table (only_at s k c)
nothing-given table s k c e = given-none table (only_at s k c) (λ t j l m. ap (first (cell table t j)) (none t j) ∙ first-none (cell table t j) 0 0)
  where
    none : (t j : ℕ) → only_at s k c t j ≡ 0
    none t j = rw e (go (eqb t s && eqb j k))
      where
        go : (b : Bool) → ◌≡◌ {A = ℕ} (cond b 0 0) 0
        go true = refl
        go false = refl

pub given-cell : {table after : List (List ℕ)} (s k : ℕ) {x y : ℕ} → x ≡ y → Given table after (only_at s k x) → Given table after (only_at s k y)
given-cell {table} {after} s k e g = subst (λ (x : ℕ). Given table after (only_at s k x)) e g

-- Kinds below k have been taken.
abbrev up_to : List (List ℕ) → ℕ → ℕ → ℕ → ℕ → ℕ
up_to table s k t j = cond (eqb t s && ltb j k) (cell table 1 j) 0

-- The kinds below k, and then k.
up_next : (f : ℕ → ℕ) (k : ℕ) (x : Bool) (j : ℕ) (y : Bool) → eqb j k ≡ y → (z : Bool) → ltb j k ≡ z
    → first (cond (x && z) (f j) 0) (cond (x && y) (f k) 0) ≡ cond (x && ltb j (k + 1)) (f j) 0
unfolding first
up_next f k false j y e z g = refl
up_next f k true j true e true g = let p = eqb-true j k e in absurd (omega (arith, ltb-true j k g))
up_next f k true j true e false g = let p = eqb-true j k e in ap f (sym p) ∙ sym (ap (λ (b : Bool). cond b (f j) 0) (lt-ltb j (k + 1) (omega arith)))
up_next f k true j false e true g = first-none (f j) 0 0 ∙ sym (ap (λ (b : Bool). cond b (f j) 0) (lt-ltb j (k + 1) (omega (arith, ltb-true j k g))))
up_next f k true j false e false g =
    let p = eqb-false j k e in
    let q = ltb-false j k g in
    sym (ap (λ (b : Bool). cond b (f j) 0) (le-ltb j (k + 1) (omega arith)))

pub record Copying (run : List ℕ) (begun table : List (List ℕ)) (s k : ℕ) : Type 0 where
  pub low : k ≤ 10
  pub holds : Table run table
  pub given : Given begun table (up_to begun s k)

pub copying-begin : {run : List ℕ} {table : List (List ℕ)} (s : ℕ) → Table run table → Copying run table table s 0
copying-begin {run} {table} s t = record {
  low = omega arith;
  holds = t;
  given = given-none table (up_to table s 0) (λ i j l m. ap (first (cell table i j)) (ap (λ (b : Bool). cond (eqb i s && b) (cell table 1 j) 0) (le-ltb j 0 (omega arith)) ∙ ap (λ (b : Bool). cond b (cell table 1 j) 0) (and-false (eqb i s))) ∙ first-none (cell table i j) 0 0);
}

module _ {run : List ℕ} {begun table : List (List ℕ)} {s k : ℕ} (c : Copying run begun table s k) where
  pub copying-set : IsSet begun s → IsSet table s
  copying-set i = record { inside = let h = i.inside in omega (arith, c.given.same); other = i.other }

  -- legacy's cell of the kind that comes is as it was
  old-same : 1 < length begun → k < 10 → cell table 1 k ≡ cell begun 1 k
  old-same i l =
      c.given.cells 1 k i l
      ∙ ap (first (cell begun 1 k)) (ap (λ (b : Bool). cond (eqb 1 s && b) (cell begun 1 k) 0) (le-ltb k k (omega arith)) ∙ ap (λ (b : Bool). cond b (cell begun 1 k) 0) (and-false (eqb 1 s)))
      ∙ first-none (cell begun 1 k) 0 0

  pub copying-next : {after : List (List ℕ)} → 1 < length begun → k < 10 → Table run after → Given table after (only_at s k (cell table 1 k))
      → Copying run begun after s (k + 1)
  copying-next {after} i l t g = record {
    low = omega arith;
    holds = t;
    given = given-as (λ u j a b. ap (λ (x : ℕ). first (up_to begun s k u j) (only_at s k x u j)) (old-same i l) ∙ up_next (cell begun 1) k (eqb u s) j (eqb j k) refl (ltb j k) refl) (given-then c.given g);
  }

  pub copying-end : 10 ≤ k → Given begun table (from_old begun s)
  copying-end h = given-as (λ t j a b. ap (λ (x : Bool). cond x (cell begun 1 j) 0) (ap (λ (x : Bool). eqb t s && x) (lt-ltb j k (omega arith)) ∙ and-true (eqb t s))) c.given
    where
      and-true : (b : Bool) → b && true ≡ b
      and-true true = refl
      and-true false = refl

pub first-again : (x : ℕ) → first x x ≡ x
unfolding first
first-again x = go (eqb x 0)
  where
    go : (b : Bool) → cond b x x ≡ x
    go true = refl
    go false = refl

-- Legacy's slot has legacy's values already.
pub old-given : (table : List (List ℕ)) → Given table table (from_old table 1)
old-given table = given-none table (from_old table 1) (λ t j l m. go t j (eqb t 1) refl)
  where
    go : (t j : ℕ) (b : Bool) → eqb t 1 ≡ b → first (cell table t j) (cond b (cell table 1 j) 0) ≡ cell table t j
    go t j true e = ap (λ (i : ℕ). first (cell table t j) (cell table i j)) (sym (eqb-true t 1 e)) ∙ first-again (cell table t j)
    go t j false e = first-none (cell table t j) 0 0

-- ---- the places of both masks

beyond : (m n : ℕ) → m < 2 ^ 64 → 64 ≤ n → in_number m n ≡ false
unfolding in_number
beyond m n f h = rw (div-eq_of_lt (lt_of_lt_of_le f (pow_mono h)))

pub both-places : (who : Applications) → who.standard < 2 ^ 64 → (p : ℕ) → has_place 0 who.standard p || has_place 64 who.user p ≡ at_place who p
unfolding has_place at_place
both-places who f p = go (ltb p 64) refl
  where
    all : leb 0 p && in_number who.standard (p - 0) ≡ in_number who.standard p
    all = let e : p - 0 ≡ p = omega arith in rw (le-leb 0 p (omega arith), e)

    go : (b : Bool) → ltb p 64 ≡ b
        → (leb 0 p && in_number who.standard (p - 0)) || (leb 64 p && in_number who.user (p - 64)) ≡ cond b (in_number who.standard p) (in_number who.user (p - 64))
    go true e = ap₂ (λ (x y : Bool). x || (y && in_number who.user (p - 64))) all (lt-leb 64 p (ltb-true p 64 e)) ∙ or-false (in_number who.standard p)
      where
        or-false : (b : Bool) → b || false ≡ b
        or-false true = refl
        or-false false = refl
    go false e = let h = ltb-false p 64 e in ap₂ (λ (x y : Bool). x || (y && in_number who.user (p - 64))) (all ∙ beyond who.standard p f h) (le-leb 64 p h)

pub gave-both : {own mid after : List (List ℕ)} {s : ℕ} (who : Applications) → who.standard < 2 ^ 64 → Gave own mid (has_place 0 who.standard) s
    → Gave mid after (has_place 64 who.user) s → Gave own after (at_place who) s
gave-both who f a b = gave-as (λ p h. both-places who f p) (gave_then a b)
