-- Slots given to applications, from the lowest on. Assumes nothing.
use Prim.Native.Nat.{ℕ, zero, suc, ◌+◌, ◌-◌, ◌%◌, ◌≤◌, ◌<◌}
use mathlib.Core.Path.{◌≡◌, refl, sym, ◌∙◌, ap, ap₂, subst}
use mathlib.Core.Bool.{Bool, true, false, ◌&&◌, not, and-true, false≢true}
use mathlib.Core.List.{List, []}
use lib.Dec.{eqb, ltb}
use lib.ListN.{length, get_or, set, replicate, length-set}
use lib.Seq.{get_or-set_same, get_or-set_other}
use native.Mathlib.Omega.{arith}
use borrow.Author.Tests.{eqb-true, eqb-false, ne_eqb, ltb-true, ltb-false}
use Rattle.linkstate.specs.Masks.{one, in_number}
use Rattle.linkstate.proofs.ListLaws.{and_l, and_r}
use Rattle.masks.specs.Sets.{turned_place}
use Rattle.masks.proofs.Steps.{zero-none}
use Rattle.masks.specs.Sets.{Lowest}
use Rattle.grids.specs.Slots.{cell}
use Rattle.set_table.specs.Marks.{value_mark, value_size, total, set_mark, set_size}
use Rattle.set_table.specs.Tables.{CellFits, row_values, Fitting, Summed, Table, slot_at, how_many, empty_row, Assigned, Begun}
use Rattle.masks.specs.declared.Applications.{Applications}
use Rattle.masks.specs.Applications.{at_place}
use Rattle.set_table.proofs.Marks.{none-mark, none-size, total-none}
use Rattle.set_table.proofs.Tables.{value-at, ten-values, no_value}
use Rattle.set_table.proofs.Bits.{other-was, gone}
use Rattle.set_table.proofs.Owns.{placed-here, placed-other, placed-owned, placed-class}
use Rattle.masks.proofs.Sets as sets

-- ---- how many there are

pub many-none : (k : ℕ) → how_many (in_number 0) k ≡ 0
unfolding how_many one
many-none zero = refl
many-none (suc k) = ap₂ (λ (x : ℕ) (b : Bool). x + one b) (many-none k) (zero-none k)

pub many-same : (p q : ℕ → Bool) (k : ℕ) → ((j : ℕ) → j < k → p j ≡ q j) → how_many p k ≡ how_many q k
unfolding how_many
many-same p q zero h = refl
many-same p q (suc k) h = ap₂ (λ (x : ℕ) (b : Bool). x + one b) (many-same p q k (λ j l. h j (omega arith))) (h k (omega arith))

many-out : (p q : ℕ → Bool) (k t : ℕ) → t < k → ((j : ℕ) → j < k → (j ≡ t → ⊥) → q j ≡ p j) → p t ≡ true → q t ≡ false → how_many p k ≡ how_many q k + 1
unfolding how_many one
many-out p q zero t h e a b = absurd (omega arith)
many-out p q (suc k) t h e a b = go (eqb t k) refl (many-out p q k t)
  where
    go : (x : Bool) → eqb t k ≡ x → (t < k → ((j : ℕ) → j < k → (j ≡ t → ⊥) → q j ≡ p j) → p t ≡ true → q t ≡ false → how_many p k ≡ how_many q k + 1)
        → how_many p k + one (p k) ≡ how_many q k + one (q k) + 1
    go true i ih =
        let f : t ≡ k = eqb-true t k i in
        let x : p k ≡ true = ap p (sym f) ∙ a in
        let y : q k ≡ false = ap q (sym f) ∙ b in
        let z = many-same p q k (λ j l. sym (e j (omega arith) (λ d. omega arith))) in
        rw (x, y) (omega arith)
    go false i ih =
        let d = eqb-false t k i in
        let z = ih (omega arith) (λ j l n. e j (omega arith) n) a b in
        let y : q k ≡ p k = e k (omega arith) (λ f. d (sym f)) in
        rw y (omega arith)

pub many-next : {x t rest : ℕ} → Lowest 64 x t rest → how_many (in_number x) 64 ≡ how_many (in_number rest) 64 + 1
many-next {x} {t} {rest} r =
    many-out (in_number x) (in_number rest) 64 t r.inside (λ j h n. r.cleared j ∙ ap (λ (b : Bool). in_number x j && not b) (ne_eqb j t n) ∙ and-true (in_number x j)) r.there (gone r)

-- ---- places

pub turned_apart : (base i j : ℕ) → base + turned_place i ≡ base + turned_place j → i ≡ j
unfolding turned_place
turned_apart base i j e = omega arith

pub turned-low : (i : ℕ) → i < 64 → turned_place i < 64
unfolding turned_place
turned-low i h = omega arith

-- ---- a turn

-- Those of a set that are no more in x.
abbrev pub done : ℕ → ℕ → ℕ → Bool
done m x n = in_number m n && not (in_number x n)

not-both : (b : Bool) → b && not b ≡ true → ⊥
not-both true e = false≢true e
not-both false e = false≢true e

pub record Assigning (own table after filled : List (List ℕ)) (base m x from k : ℕ) : Type 0 where
  pub part : (n : ℕ) → in_number x n ≡ true → in_number m n ≡ true
  pub count : k + how_many (in_number x) 64 ≡ from + how_many (in_number m) 64
  pub is : Assigned own table after filled base (done m x) from k

pub assigning-end : {own table after filled : List (List ℕ)} {base m x from k : ℕ} → Assigning own table after filled base m x from k → x ≡ 0
    → (k ≡ from + how_many (in_number m) 64) × Assigned own table after filled base (in_number m) from k
assigning-end {own} {table} {after} {filled} {base} {m} {x} {from} {k} a e =
    let s = a.is in
    let z : how_many (in_number x) 64 ≡ 0 = ap (λ (y : ℕ). how_many (in_number y) 64) e ∙ many-none 64 in (
      omega (arith, a.count, z),
      record {
        same = s.same;
        owned = s.owned;
        order = s.order;
        slots = λ n l d. s.slots n l (was n d);
        apart = λ i j g h d f y. s.apart i j g h (was i d) (was j f) y;
        others = λ p h. s.others p (λ n l d. h n l (and_l (in_number m n) (not (in_number x n)) d));
        emptied = s.emptied;
        kept = s.kept;
        classes = s.classes;
        taken = λ i g h. let t = s.taken i g h in (t.0, t.1, and_l (in_number m t.0) (not (in_number x t.0)) t.2, t.3);
      },
    )
  where
    was : (n : ℕ) → in_number m n ≡ true → done m x n ≡ true
    was n d = ap₂ (λ (a b : Bool). a && not b) d (ap (λ (y : ℕ). in_number y n) e ∙ zero-none n)

module _ {own table after filled : List (List ℕ)} {base m x from k : ℕ} (a : Assigning own table after filled base m x from k) {low rest : ℕ} (r : Lowest 64 x low rest) where
  pub room-left : from + how_many (in_number m) 64 ≤ length table → k < length filled
  room-left h = omega (arith, a.count, many-next r, a.is.same)

  -- one that is done now was, or is the lowest
  was-done : (n : ℕ) → (n ≡ low → ⊥) → done m rest n ≡ true → done m x n ≡ true
  was-done n d e =
      sym (ap (λ (b : Bool). in_number m n && not b) (r.cleared n ∙ ap (λ (b : Bool). in_number x n && not b) (ne_eqb n low d) ∙ and-true (in_number x n))) ∙ e

  still-done : (n : ℕ) → done m x n ≡ true → done m rest n ≡ true
  still-done n e = ap₂ (λ (y z : Bool). y && not z) (and_l (in_number m n) (not (in_number x n)) e) (out (in_number rest n) refl)
    where
      out : (b : Bool) → in_number rest n ≡ b → b ≡ false
      out true f = absurd (false≢true (sym (ap not (other-was r n f)) ∙ and_r (in_number m n) (not (in_number x n)) e))
      out false f = refl

  low-done : done m rest low ≡ true
  low-done = ap₂ (λ (y z : Bool). y && not z) (a.part low r.there) (gone r)

  module _ (p : ℕ) (ep : p ≡ turned_place low) (base-low : base ≤ 64) (room : from + how_many (in_number m) 64 ≤ length table) where
    abbrev place : ℕ
    place = base + p

    place-low : place < 128
    place-low = omega (arith, ep, turned-low low r.inside)

    abbrev own' : List (List ℕ)
    own' = set after place (set (get_or after place []) 0 k)

    abbrev sets' : List (List ℕ)
    sets' = set filled k empty_row

    here-slot : slot_at own' (base + turned_place low) ≡ k
    here-slot = ap (λ (i : ℕ). slot_at own' (base + i)) (sym ep) ∙ placed-here after a.is.owned place place-low k

    there-slot : (n : ℕ) → (n ≡ low → ⊥) → slot_at own' (base + turned_place n) ≡ slot_at after (base + turned_place n)
    there-slot n d = ap (λ (r : List ℕ). get_or r 0 0) (placed-other after a.is.owned place place-low k (base + turned_place n) (λ e. d (turned_apart base n low (e ∙ ap (λ (i : ℕ). base + i) ep))))

    slots_next : (n : ℕ) → n < 64 → done m rest n ≡ true → (b : Bool) → eqb n low ≡ b → (from ≤ slot_at own' (base + turned_place n)) × (slot_at own' (base + turned_place n) < k + 1)
    slots_next n l d true e =
        let i : slot_at own' (base + turned_place n) ≡ k = ap (λ (y : ℕ). slot_at own' (base + turned_place y)) (eqb-true n low e) ∙ here-slot in
        (omega (arith, i, a.is.order), omega (arith, i))
    slots_next n l d false e =
        let f = eqb-false n low e in
        let s = a.is.slots n l (was-done n f d) in
        (omega (arith, there-slot n f, s.0), omega (arith, there-slot n f, s.1))

    apart_next : (i j : ℕ) → i < 64 → j < 64 → done m rest i ≡ true → done m rest j ≡ true → slot_at own' (base + turned_place i) ≡ slot_at own' (base + turned_place j)
        → (b : Bool) → eqb i low ≡ b → (c : Bool) → eqb j low ≡ c → i ≡ j
    apart_next i j g h d e y true u true v = eqb-true i low u ∙ sym (eqb-true j low v)
    apart_next i j g h d e y true u false v =
        let f = eqb-false j low v in
        let z : slot_at own' (base + turned_place i) ≡ k = ap (λ (n : ℕ). slot_at own' (base + turned_place n)) (eqb-true i low u) ∙ here-slot in
        absurd (omega (arith, y, z, there-slot j f, (a.is.slots j h (was-done j f e)).1))
    apart_next i j g h d e y false u true v =
        let f = eqb-false i low u in
        let z : slot_at own' (base + turned_place j) ≡ k = ap (λ (n : ℕ). slot_at own' (base + turned_place n)) (eqb-true j low v) ∙ here-slot in
        absurd (omega (arith, y, z, there-slot i f, (a.is.slots i g (was-done i f d)).1))
    apart_next i j g h d e y false u false v =
        let f = eqb-false i low u in
        let q = eqb-false j low v in
        a.is.apart i j g h (was-done i f d) (was-done j q e) (sym (there-slot i f) ∙ y ∙ there-slot j q)

    emptied-next : (s : ℕ) → from ≤ s → s < k + 1 → (b : Bool) → eqb s k ≡ b → get_or sets' s [] ≡ empty_row
    emptied-next s g h true e = ap (λ (i : ℕ). get_or sets' i []) (eqb-true s k e) ∙ get_or-set_same filled k empty_row [] (room-left room)
    emptied-next s g h false e = let d = eqb-false s k e in get_or-set_other filled k s empty_row [] d ∙ a.is.emptied s g (omega arith)

    taken_next : (s : ℕ) → from ≤ s → s < k + 1 → (b : Bool) → eqb s k ≡ b → (n : ℕ) × (n < 64) × (done m rest n ≡ true) × (slot_at own' (base + turned_place n) ≡ s)
    taken_next s g h true e = (low, r.inside, low-done, here-slot ∙ sym (eqb-true s k e))
    taken_next s g h false e =
        let d = eqb-false s k e in
        let t = a.is.taken s g (omega arith) in
        let n = t.0 in
        let other : n ≡ low → ⊥ = λ i. false≢true (sym (ap not (ap (in_number x) i ∙ r.there)) ∙ and_r (in_number m n) (not (in_number x n)) t.2) in
        (n, t.1, still-done n t.2, there-slot n other ∙ t.3)

    pub assigning-next : Assigning own table own' sets' base m rest from (k + 1)
    assigning-next = record {
      part = λ n e. a.part n (other-was r n e);
      count = omega (arith, a.count, many-next r);
      is = record {
        same = length-set filled k empty_row ∙ a.is.same;
        owned = placed-owned after a.is.owned place place-low k;
        order = let o = a.is.order in omega arith;
        slots = λ n l d. slots_next n l d (eqb n low) refl;
        apart = λ i j g h d e y. apart_next i j g h d e y (eqb i low) refl (eqb j low) refl;
        others = λ q h.
            placed-other after a.is.owned place place-low k q (λ e. h low r.inside low-done (e ∙ ap (λ (i : ℕ). base + i) ep))
            ∙ a.is.others q (λ n l d. h n l (still-done n d));
        emptied = λ s g h. emptied-next s g h (eqb s k) refl;
        kept = λ s h. get_or-set_other filled k s empty_row [] (λ e. let o = a.is.order in omega arith) ∙ a.is.kept s h;
        classes = λ q. placed-class after a.is.owned place place-low k q ∙ a.is.classes q;
        taken = λ s g h. taken_next s g h (eqb s k) refl;
      };
    }

    -- as the code has it
    pub assigning-as : (y : ℕ) → y ≡ k → Assigning own table (set after place (set (get_or after place []) 0 y)) sets' base m rest from (k + 1)
    assigning-as y e = subst (λ (z : ℕ). Assigning own table (set after place (set (get_or after place []) 0 z)) sets' base m rest from (k + 1)) (sym e) assigning-next

-- ---- both masks

pub many-split : (p : ℕ → Bool) (n k : ℕ) → how_many p (n + k) ≡ how_many p n + how_many (λ j. p (n + j)) k
unfolding how_many
many-split p n zero = let e : n + 0 ≡ n = omega arith in ap (how_many p) e ∙ omega arith
many-split p n (suc k) = let e : n + suc k ≡ suc (n + k) = omega arith in ap (how_many p) e ∙ omega (arith, many-split p n k)

pub many-pair : (m : Applications) → how_many (at_place m) 128 ≡ how_many (in_number m.standard) 64 + how_many (in_number m.user) 64
many-pair m =
    many-split (at_place m) 64 64
    ∙ ap₂ (λ (x y : ℕ). x + y) (many-same (at_place m) (in_number m.standard) 64 (λ j h. sets.place-low m j h))
    (many-same (λ j. at_place m (64 + j)) (in_number m.user) 64 (λ j h. sets.place-high m j))

turned-high : (n : ℕ) → turned_place (64 + n) ≡ 64 + turned_place n
unfolding turned_place
turned-high n = omega arith

turned-side : (i j : ℕ) → i < 64 → 64 + turned_place j ≡ turned_place i → ⊥
unfolding turned_place
turned-side i j h e = omega arith

-- A number below 128 as one of a standard or of a user mask.
data Side (n : ℕ) : Type 0 where
  low-side : n < 64 → Side n
  high-side : (j : ℕ) → j < 64 → n ≡ 64 + j → Side n

side : (n : ℕ) → n < 128 → Side n
side n h = go (ltb n 64) refl
  where
    go : (b : Bool) → ltb n 64 ≡ b → Side n
    go true e = low-side (ltb-true n 64 e)
    go false e = let l = ltb-false n 64 e in high-side (n - 64) (omega arith) (omega arith)

module _ (m : Applications) {own table mid middle after filled : List (List ℕ)} {j k : ℕ} (z : (s : ℕ) → s < 3 → get_or table s [] ≡ empty_row)
    (a : Assigned own table mid middle 0 (in_number m.standard) 3 j) (b : Assigned mid middle after filled 64 (in_number m.user) j k) where
  low-place : (n : ℕ) → n < 64 → get_or after (turned_place n) [] ≡ get_or mid (0 + turned_place n) []
  low-place n h =
      let e : 0 + turned_place n ≡ turned_place n = omega arith in
      b.others (turned_place n) (λ i l d x. turned-side n i h (sym x)) ∙ ap (λ (p : ℕ). get_or mid p []) (sym e)

  low-slot : (n : ℕ) → n < 64 → slot_at after (turned_place n) ≡ slot_at mid (0 + turned_place n)
  low-slot n h = ap (λ (r : List ℕ). get_or r 0 0) (low-place n h)

  high-slot : (n i : ℕ) → n ≡ 64 + i → slot_at after (turned_place n) ≡ slot_at after (64 + turned_place i)
  high-slot n i e = ap (slot_at after) (ap turned_place e ∙ turned-high i)

  in-low : (n : ℕ) → n < 64 → at_place m n ≡ true → in_number m.standard n ≡ true
  in-low n h e = sym (sets.place-low m n h) ∙ e

  in-high : (n i : ℕ) → n ≡ 64 + i → at_place m n ≡ true → in_number m.user i ≡ true
  in-high n i f e = sym (sets.place-high m i) ∙ ap (at_place m) (sym f) ∙ e

  pub begun : Begun own after filled m k
  begun = record {
    owned = b.owned;
    slots = λ n h e. slots n e (side n h);
    apart = λ x y g h d e f. apart x y d e f (side x g) (side y h);
    others = λ n h e. keeps n e (side n h);
    emptied = λ s h. empties s h (ltb s j) refl;
    classes = λ p. b.classes p ∙ a.classes p;
    taken = λ s g h. takes s g h (ltb s j) refl;
  }
    where
      takes : (s : ℕ) → 3 ≤ s → s < k → (x : Bool) → ltb s j ≡ x → (n : ℕ) × (n < 128) × (at_place m n ≡ true) × (slot_at after (turned_place n) ≡ s)
      takes s g h true e = let t = a.taken s g (ltb-true s j e) in let i = t.1 in (t.0, omega arith, sets.place-low m t.0 i ∙ t.2, low-slot t.0 i ∙ t.3)
      takes s g h false e =
          let t = b.taken s (ltb-false s j e) h in let i = t.1 in (64 + t.0, omega arith, sets.place-high m t.0 ∙ t.2, high-slot (64 + t.0) t.0 refl ∙ t.3)

      slots : (n : ℕ) → at_place m n ≡ true → Side n → (3 ≤ slot_at after (turned_place n)) × (slot_at after (turned_place n) < k)
      slots n e (low-side h) =
          let s = a.slots n h (in-low n h e) in
          let o = b.order in
          (omega (arith, low-slot n h, s.0), omega (arith, low-slot n h, s.1))
      slots n e (high-side i h f) =
          let s = b.slots i h (in-high n i f e) in
          let o = a.order in
          (omega (arith, high-slot n i f, s.0), omega (arith, high-slot n i f, s.1))

      apart : (x y : ℕ) → at_place m x ≡ true → at_place m y ≡ true → slot_at after (turned_place x) ≡ slot_at after (turned_place y) → Side x → Side y → x ≡ y
      apart x y d e f (low-side g) (low-side h) = a.apart x y g h (in-low x g d) (in-low y h e) (sym (low-slot x g) ∙ f ∙ low-slot y h)
      apart x y d e f (low-side g) (high-side i h u) =
          absurd (omega (arith, f, low-slot x g, (a.slots x g (in-low x g d)).1, high-slot y i u, (b.slots i h (in-high y i u e)).0))
      apart x y d e f (high-side i g u) (low-side h) =
          absurd (omega (arith, f, low-slot y h, (a.slots y h (in-low y h e)).1, high-slot x i u, (b.slots i g (in-high x i u d)).0))
      apart x y d e f (high-side i g u) (high-side l h v) =
          omega (arith, u, v, b.apart i l g h (in-high x i u d) (in-high y l v e) (sym (high-slot x i u) ∙ f ∙ high-slot y l v))

      no-low : (n : ℕ) → n < 64 → at_place m n ≡ false → (i : ℕ) → i < 64 → in_number m.standard i ≡ true → 0 + turned_place n ≡ 0 + turned_place i → ⊥
      no-low n h e i l d f = false≢true (sym e ∙ sets.place-low m n h ∙ ap (in_number m.standard) (turned_apart 0 n i f) ∙ d)

      no-high : (n x : ℕ) → n ≡ 64 + x → at_place m n ≡ false → (i : ℕ) → i < 64 → in_number m.user i ≡ true → turned_place n ≡ 64 + turned_place i → ⊥
      no-high n x u e i l d f =
          let y : x ≡ i = turned_apart 64 x i (sym (ap turned_place u ∙ turned-high x) ∙ f) in
          false≢true (sym e ∙ ap (at_place m) u ∙ sets.place-high m x ∙ ap (in_number m.user) y ∙ d)

      keeps : (n : ℕ) → at_place m n ≡ false → Side n → get_or after (turned_place n) [] ≡ get_or own (turned_place n) []
      keeps n e (low-side h) =
          let q : 0 + turned_place n ≡ turned_place n = omega arith in
          low-place n h ∙ a.others (0 + turned_place n) (no-low n h e) ∙ ap (λ (p : ℕ). get_or own p []) q
      keeps n e (high-side i h u) =
          b.others (turned_place n) (no-high n i u e)
          ∙ a.others (turned_place n) (λ x l d f. turned-side x i l (sym (ap turned_place u ∙ turned-high i) ∙ f ∙ omega arith))

      empties : (s : ℕ) → s < k → (x : Bool) → ltb s j ≡ x → get_or filled s [] ≡ empty_row
      empties s h true e = b.kept s (ltb-true s j e) ∙ first_rows s (ltb-true s j e) (ltb s 3) refl
        where
          first_rows : (s : ℕ) → s < j → (y : Bool) → ltb s 3 ≡ y → get_or middle s [] ≡ empty_row
          first_rows s l true f = a.kept s (ltb-true s 3 f) ∙ z s (ltb-true s 3 f)
          first_rows s l false f = a.emptied s (ltb-false s 3 f) l
      empties s h false e = b.emptied s (ltb-false s j e) h

-- ---- empty rows

zeros : (n k : ℕ) → get_or (replicate {A = ℕ} n 0) k 0 ≡ 0
zeros zero k = refl
zeros (suc n) zero = refl
zeros (suc n) (suc k) = zeros n k

pub no_cell : (k : ℕ) → get_or empty_row k 0 ≡ 0
no_cell k = zeros 12 k

-- A table of empty rows.
module _ (run : List ℕ) (sets : List (List ℕ)) (h : (s : ℕ) → s < length sets → get_or sets s [] ≡ empty_row) where
  pub empty-cell : (s k : ℕ) → s < length sets → cell sets s k ≡ 0
  empty-cell s k l = ap (λ (r : List ℕ). get_or r k 0) (h s l) ∙ no_cell k

  no-values : (f : ℕ → List ℕ → ℕ) → ((k : ℕ) → f k [] ≡ 0) → total f 0 (row_values run empty_row) ≡ 0
  no-values f none = total-none f none 0 (row_values run empty_row) (λ j l. value-at run empty_row j (omega (arith, ten-values run empty_row)) ∙ no_value run (get_or empty_row j 0) (no_cell j))

  pub empty-table : Table run sets
  unfolding set_mark set_size
  empty-table = record {
    rows = λ s l. subst (Fitting run) (sym (h s l)) (record { twelve = refl; fits = λ k g. subst (CellFits run) (sym (no_cell k)) none });
    sums = λ s i. subst (Summed run) (sym (h s i.inside)) (record { mark = no_cell 10 ∙ sym (ap (λ (x : ℕ). x % 4294967296) (no-values value_mark none-mark)); size = no_cell 11 ∙ sym (no-values value_size none-size) });
  }
    where
      none : CellFits run 0
      none = record { within = omega arith; short = omega arith; some = λ d. absurd (d refl) }

-- There are at most k numbers below k.
pub many-most : (p : ℕ → Bool) (k : ℕ) → how_many p k ≤ k
unfolding how_many one
many-most p zero = omega arith
many-most p (suc k) = go (p k) (many-most p k)
  where
    go : (b : Bool) → how_many p k ≤ k → how_many p k + one b ≤ suc k
    go true h = omega arith
    go false h = omega arith
