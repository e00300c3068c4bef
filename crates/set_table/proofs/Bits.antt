-- A value for the slots of a mask's bits, one after the other. Assumes nothing.
use Prim.Native.Nat.{ℕ, ◌+◌, ◌<◌}
use mathlib.Core.Path.{◌≡◌, refl, sym, ◌∙◌, ap, subst}
use mathlib.Core.Bool.{Bool, true, false, cond, ◌&&◌, ◌||◌, not, and-false, false≢true}
use mathlib.Core.List.{List, []}
use lib.Dec.{eqb}
use lib.ListN.{length, get_or}
use native.Mathlib.Omega.{arith}
use borrow.Author.Tests.{eqb-true, eqb-false, eq-eqb, ne_eqb}
use Rattle.linkstate.specs.Lists.{any, numbers}
use Rattle.linkstate.specs.Masks.{in_number}
use Rattle.linkstate.proofs.ListLaws.{and_l, and_r}
use Rattle.masks.proofs.Steps.{zero-none}
use Rattle.masks.specs.Sets.{Lowest}
use Rattle.srlg_sources.proofs.Joins.{any_out, any_none}
use Rattle.grids.specs.Slots.{cell, IsSet}
use Rattle.set_table.specs.Tables.{first, Table, Given, only_at, entered, Entry, slot_at, reached, to_reached, Free}
use Rattle.set_table.proofs.Tables.{first-none, given-none, given-then, given-as, entered-is, entered-room}

and-not : (a : Bool) (j t : ℕ) → (j ≡ t → ⊥) → a && not (eqb j t) ≡ a
and-not true j t n = rw (ne_eqb j t n)
and-not false j t n = refl

-- What is left of a mask without its lowest bit.
module _ {x t rest : ℕ} (r : Lowest 64 x t rest) where
  pub other-was : (j : ℕ) → in_number rest j ≡ true → in_number x j ≡ true
  other-was j e = and_l (in_number x j) (not (eqb j t)) (sym (r.cleared j) ∙ e)

  pub other-not : (j : ℕ) → in_number rest j ≡ true → j ≡ t → ⊥
  other-not j e i = let z = and_r (in_number x j) (not (eqb j t)) (sym (r.cleared j) ∙ e) in false≢true (sym (ap not (eq-eqb j t i)) ∙ z)

  pub gone : in_number rest t ≡ false
  gone = r.cleared t ∙ ap (λ (b : Bool). in_number x t && not b) (eq-eqb t t refl) ∙ and-false (in_number x t)

  -- A test at the bits of a mask: at the lowest, or at the others.
  pub any-bit : (p : ℕ → Bool) → any (λ j. in_number x j && p j) (numbers 0 64) ≡ p t || any (λ j. in_number rest j && p j) (numbers 0 64)
  any-bit p =
      any_out (λ j. in_number x j && p j) (λ j. in_number rest j && p j) 64 t r.inside
      (λ j l n. ap (λ (b : Bool). b && p j) (r.cleared j ∙ and-not (in_number x j) j t n))
      (ap (λ (b : Bool). b && p t) gone)
      ∙ ap (λ (b : Bool). (b && p t) || any (λ j. in_number rest j && p j) (numbers 0 64)) r.there

-- ---- what comes to the slots

pub reached-none : (own : List (List ℕ)) (base s : ℕ) → reached own base 0 s ≡ false
unfolding reached
reached-none own base s = any_none (λ j. in_number 0 j && eqb (slot_at own (base + j)) s) 64 (λ j l. rw (zero-none j))

swap : (x y : ℕ) → eqb x y ≡ eqb y x
swap x y = go (eqb x y) refl
  where
    go : (b : Bool) → eqb x y ≡ b → b ≡ eqb y x
    go true e = sym (eq-eqb y x (sym (eqb-true x y e)))
    go false e = sym (ne_eqb y x (λ h. eqb-false x y e (sym h)))

-- The same value twice is the value.
twice : (a b r : Bool) (c : ℕ) → first (cond (a && b) c 0) (cond (b && r) c 0) ≡ cond (b && (a || r)) c 0
unfolding first
twice true true true c = go (eqb c 0) refl
  where
    go : (b : Bool) → eqb c 0 ≡ b → cond b c c ≡ c
    go true e = refl
    go false e = refl
twice true true false c = go (eqb c 0) refl
  where
    go : (b : Bool) → eqb c 0 ≡ b → cond b 0 c ≡ c
    go true e = sym (eqb-true c 0 e)
    go false e = refl
twice true false r c = refl
twice false true r c = refl
twice false false r c = refl

module _ (own : List (List ℕ)) (base k c : ℕ) where
  pub reached-next : {x t rest : ℕ} (r : Lowest 64 x t rest) (s j : ℕ) → first (only_at (slot_at own (base + t)) k c s j) (to_reached own base rest k c s j) ≡ to_reached own base x k c s j
  unfolding reached
  reached-next {x} {t} {rest} r s j =
      let i = slot_at own (base + t) in
      twice (eqb s i) (eqb j k) (reached own base rest s) c
      ∙ ap (λ (b : Bool). cond (eqb j k && (b || reached own base rest s)) c 0) (swap s i)
      ∙ ap (λ (b : Bool). cond (eqb j k && b) c 0) (sym (any-bit r (λ n. eqb (slot_at own (base + n)) s)))

  pub reached-end : (sets : List (List ℕ)) (x : ℕ) → x ≡ 0 → Given sets sets (to_reached own base x k c)
  reached-end sets x e =
      given-none sets (to_reached own base x k c) (λ s j l m.
      ap (λ (y : ℕ). first (cell sets s j) y) (none s j) ∙ first-none (cell sets s j) 0 0)
    where
      none : (s j : ℕ) → to_reached own base x k c s j ≡ 0
      none s j = rw (e, reached-none own base s) (go (eqb j k))
        where
          go : (b : Bool) → cond (b && false) c 0 ≡ 0
          go true = refl
          go false = refl

-- ---- a turn

module _ (sets own : List (List ℕ)) (base k : ℕ) {x t rest : ℕ} (r : Lowest 64 x t rest) (f : Free sets own base x k) where
  abbrev slot : ℕ
  slot = slot_at own (base + t)

  pub slot-set : IsSet sets slot
  slot-set = f.stand t r.inside r.there

  pub slot-free : cell sets slot k ≡ 0
  slot-free = f.free t r.inside r.there

  -- The others are free as before.
  pub others-free : k < 10 → (c : ℕ) (after : List (List ℕ)) → Given sets after (only_at slot k c) → Free after own base rest k
  others-free low c after g = record {
    stand = λ j l e. let i = f.stand j l (other-was r j e) in record { inside = let a = i.inside in omega (arith, g.same); other = i.other };
    free = λ j l e.
        g.cells (slot_at own (base + j)) k (f.stand j l (other-was r j e)).inside low
        ∙ ap (λ (b : Bool). first (cell sets (slot_at own (base + j)) k) (cond (b && eqb k k) c 0)) (ne_eqb (slot_at own (base + j)) slot (differ j l e))
        ∙ first-none (cell sets (slot_at own (base + j)) k) 0 0 ∙ f.free j l (other-was r j e);
    apart = λ i j l m a b. f.apart i j l m (other-was r i a) (other-was r j b);
  }
    where
      differ : (j : ℕ) → j < 64 → in_number rest j ≡ true → slot_at own (base + j) ≡ slot → ⊥
      differ j l e i = other-not r j e (f.apart j t l r.inside (other-was r j e) r.there i)

-- A value entered: where it is an entry over some run, the table stays one.
pub entry-table : (sets after : List (List ℕ)) (s k c m z : ℕ) → IsSet sets s → k < 10 → cell sets s k ≡ 0 → after ≡ entered sets s k c m z
    → (run : List ℕ) (place n : ℕ) → Table run sets → Entry run k place n c m z → Table run after × Given sets after (only_at s k c)
entry-table sets after s k c m z is low free e run place n t y =
    let r = entered-is run sets t s k place n m z is low y.value free c y.cell y.mark y.size after e in
    (r.0, subst (λ (x : ℕ). Given sets after (only_at s k x)) (sym y.cell) r.1)

pub entry-room : (sets : List (List ℕ)) (s k c m z : ℕ) → IsSet sets s → k < 10 → cell sets s k ≡ 0 → (run : List ℕ) (place n : ℕ) → Table run sets → Entry run k place n c m z → get_or (get_or sets s []) 11 0 + z < 4294967296
entry-room sets s k c m z is low free run place n t y = entered-room run sets t s k place n m z is low y.value free y.size

-- What has been entered, while the slots of x are left.
pub record Filling (sets₀ sets own : List (List ℕ)) (base bits x k c m z : ℕ) : Type 0 where
  pub left : Free sets own base x k
  pub tables : (run : List ℕ) (place n : ℕ) → Table run sets₀ → Entry run k place n c m z → Table run sets
  pub gives : (after : List (List ℕ)) → Given sets after (to_reached own base x k c) → Given sets₀ after (to_reached own base bits k c)

module _ {sets₀ sets own : List (List ℕ)} {base bits x k c m z : ℕ} (f : Filling sets₀ sets own base bits x k c m z) where
  pub filling-end : x ≡ 0 → Given sets₀ sets (to_reached own base bits k c)
  filling-end e = f.gives sets (reached-end own base k c sets x e)

  module _ (low : k < 10) (run : List ℕ) (place n : ℕ) (table : Table run sets₀) (y : Entry run k place n c m z) {t rest : ℕ} (r : Lowest 64 x t rest) where
    abbrev at_slot : ℕ
    at_slot = slot_at own (base + t)

    pub filling-room : (s : ℕ) → s ≡ at_slot → (s < length sets) × (k < 10) × (get_or (get_or sets s []) 11 0 + z < 4294967296)
    filling-room s e =
        let is = slot-set sets own base k r f.left in
        subst (λ (i : ℕ). (i < length sets) × (k < 10) × (get_or (get_or sets i []) 11 0 + z < 4294967296)) (sym e)
        (is.inside, low, entry-room sets at_slot k c m z is low (slot-free sets own base k r f.left) run place n (f.tables run place n table y) y)

    pub filling-next : (s : ℕ) → s ≡ at_slot → (after : List (List ℕ)) → after ≡ entered sets s k c m z → Filling sets₀ after own base bits rest k c m z
    filling-next s i after e' =
        let e : after ≡ entered sets at_slot k c m z = e' ∙ ap (λ (j : ℕ). entered sets j k c m z) i in
        let is = slot-set sets own base k r f.left in
        let free = slot-free sets own base k r f.left in
        let g = (entry-table sets after at_slot k c m z is low free e run place n (f.tables run place n table y) y).1 in
        record {
          left = others-free sets own base k r f.left low c after g;
          tables = λ q p l u v. (entry-table sets after at_slot k c m z is low free e q p l (f.tables q p l u v) v).0;
          gives = λ last h. f.gives last (given-as (λ u j a b. reached-next own base k c r u j) (given-then g h));
        }
