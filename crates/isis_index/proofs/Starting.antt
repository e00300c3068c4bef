-- The tables that the walk starts from: as they were assigned, and what the walk asks for. Assumes nothing.
use mathlib.Core.Path.{◌≡◌, refl, sym, ap, ◌∙◌}
use mathlib.Core.Bool.{Bool, true, false}
use mathlib.Core.List.{List, []}
use Prim.Native.Nat.{ℕ, zero, suc, ◌-◌, ◌≤◌, ◌<◌}
use native.Mathlib.Omega.{arith}
use borrow.Author.Tests.{leb-true, le-leb}
use lib.ListN.{length, take, drop, get_or, replicate, length-take}
use lib.Seq.{get_or-take}
use Rattle.linkstate.specs.Sides.{Advertisement}
use Rattle.masks.specs.Sets.{turned_place}
use Rattle.masks.proofs.Steps.{turned-back}
use Rattle.rules.specs.declared.Names.{Names}
use Rattle.rules.specs.Names.{Tells}
use Rattle.masks.specs.declared.Applications.{Applications}
use Rattle.masks.specs.Applications.{in_set, at_place}
use Rattle.set_table.specs.Tables.{slot_at, Owned, Begun}
use Rattle.isis_index.specs.Index.{owning, Ground, Owning}
use Rattle.isis_index.specs.Started.{Started}
use Rattle.isis_index.proofs.Cells.{place-low}
use Rattle.isis_index.proofs.Walking.{no-mask}

-- ---- as they were assigned

-- No slot and no class yet.
abbrev pub unowned : List (List ℕ)
unowned = replicate 128 (replicate 2 0)

pub unowned-rows : Owned unowned
unowned-rows = record { size = refl; pairs = λ p h. row 128 p h }
  where
    row : (n p : ℕ) → p < n → length (get_or (replicate n (replicate {A = ℕ} 2 0)) p []) ≡ 2
    row zero p h = absurd (omega arith)
    row (suc n) zero h = refl
    row (suc n) (suc p) h = row n p (omega arith)

-- The slots that `set_table::assign_slots` gave, of a table that has just these.
module _ (named : Names) (by : Applications) (is-named : (n : ℕ) → at_place by n ≡ in_set named.named n) where
  pub started : {own filled : List (List ℕ)} {k : ℕ} → Begun unowned own filled by k → 3 ≤ k → k ≤ 256 → k ≤ length filled → (sets : List (List ℕ))
      → sets ≡ take k filled → Started named sets own
  started {own} {filled} {k} b three most room sets e = record {
    owned = b.owned;
    three = omega (arith, size);
    most = omega (arith, size);
    rows = λ s h. ap (λ (t : List (List ℕ)). get_or t s []) e ∙ row s (omega (arith, size)) ∙ b.emptied s (omega (arith, size));
    slots = λ n h i. let s = b.slots n h (is-named n ∙ i) in (s.0, omega (arith, size, s.1));
    apart = λ i j g h p q. b.apart i j g h (is-named i ∙ p) (is-named j ∙ q);
    others = λ n h i. ap (λ (r : List ℕ). get_or r 0 0) (b.others n h (is-named n ∙ i)) ∙ no-mask 128 (turned_place n) 0;
    taken = λ s g h. let t = b.taken s g (omega (arith, size)) in (t.0, t.1, sym (is-named t.0) ∙ t.2, t.3);
    unclassed = λ p h. b.classes p ∙ no-mask 128 p 1;
  }
    where
      size : length sets ≡ k
      size = ap length e ∙ length-take k filled ∙ omega arith

      row : (s : ℕ) → s < k → get_or (take k filled) s [] ≡ get_or filled s []
      row s h = get_or-take k filled s [] h

  -- As the front of the table is lent.
  pub started-front : {own filled : List (List ℕ)} {k : ℕ} → Begun unowned own filled by k → 3 ≤ k → k ≤ 256 → k ≤ length filled
      → Started named (take (k - 0) (drop 0 filled)) own
  started-front {own} {filled} {k} b three most room =
      let e : k - 0 ≡ k = omega arith in
      started b three most room (take (k - 0) (drop 0 filled)) (ap (λ (i : ℕ). take i filled) e)

-- ---- what the walk asks for

module _ {named : Names} {sets own : List (List ℕ)} (y : Started named sets own) where
  -- A place with a slot of its own is that of an application that is named.
  at-place : (p : ℕ) → p < 128 → owning own p ≡ true → in_set named.named (turned_place p) ≡ true
  at-place p h e = go (in_set named.named (turned_place p)) refl
    where
      go : (b : Bool) → in_set named.named (turned_place p) ≡ b → b ≡ true
      go true i = refl
      go false i = absurd (omega (arith, leb-true 3 (slot_at own p) e, ap (slot_at own) (turned-back p), y.others (turned_place p) (place-low p h) i))

  pub started-ground : Ground own sets
  started-ground = record {
    three = y.three;
    slotted = record {
      stand = λ p h e.
          let s = y.slots (turned_place p) (place-low p h) (at-place p h e) in
          record { inside = omega (arith, s.1, ap (slot_at own) (turned-back p)); other = λ z. omega (arith, leb-true 3 (slot_at own p) e) };
      apart = λ p q g h d e i.
          sym (turned-back p)
          ∙ ap turned_place (y.apart (turned_place p) (turned_place q) (place-low p g) (place-low q h) (at-place p g d) (at-place q h e) (ap (slot_at own) (turned-back p) ∙ i ∙ sym (ap (slot_at own) (turned-back q))))
          ∙ turned-back q;
    };
  }

  pub started-owning : {ds : List Advertisement} → Tells ds named → Owning own ds
  started-owning t n h e = le-leb 3 (slot_at own (turned_place n)) (y.slots n h (t.named n ∙ e)).0
