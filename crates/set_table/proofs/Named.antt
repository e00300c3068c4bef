-- A value for the applications of a set: those that have one of its kind keep it, the others take it. Assumes nothing.
use Prim.Native.Nat.{ℕ, ◌+◌, ◌<◌}
use mathlib.Core.Path.{◌≡◌, refl, sym, ◌∙◌, ap, ap₂}
use mathlib.Core.Bool.{Bool, true, false, cond, ◌&&◌, ◌||◌, not, and-false, false≢true}
use mathlib.Core.Logic.{◌⊎◌, inl, inr}
use mathlib.Core.List.{List, [], ◌∷◌}
use lib.Dec.{eqb}
use lib.ListN.{get_or, set, length-set}
use lib.Seq.{get_or-set_same, get_or-set_other}
use native.Mathlib.Omega.{arith}
use borrow.Author.Tests.{eqb-true, eqb-false, eq-eqb, ne_eqb}
use Rattle.linkstate.specs.Lists.{any, numbers}
use Rattle.linkstate.specs.Masks.{in_number}
use Rattle.linkstate.proofs.ListLaws.{and_l, and_r}
use Rattle.srlg_sources.proofs.Joins.{any-split, any_same, any_none, any_some}
use Rattle.grids.specs.Slots.{cell, IsSet}
use Rattle.set_table.specs.Tables.{first, Given, slot_at, reached, to_reached, Free, reaches, to_named, Fresh, Slotted, Having, set_in, Within}
use Rattle.masks.specs.declared.Applications.{Applications}
use Rattle.masks.specs.Applications.{at_place}
use Rattle.masks.proofs.Sets.{place-low, place-high}
use Rattle.set_table.proofs.Tables.{first-none, first_taken, given-none, given-then, given-as}
use Rattle.set_table.proofs.Bits.{reached-none}

-- ---- a set reaches the slots of its two masks

pub reaches-two : (own : List (List ℕ)) (m : Applications) (s : ℕ) → reached own 0 m.standard s || reached own 64 m.user s ≡ reaches own m s
unfolding reached reaches
reaches-two own m s =
    let p : ℕ → Bool = λ i. at_place m i && eqb (slot_at own i) s in
    sym (any-split p 64 64
    ∙ ap₂ (λ (a b : Bool). a || b)
    (any_same p (λ j. in_number m.standard j && eqb (slot_at own (0 + j)) s) 64 (λ j h. let z : 0 + j ≡ j = omega arith in rw (place-low m j h, z)))
    (any_same (λ j. p (64 + j)) (λ j. in_number m.user j && eqb (slot_at own (64 + j)) s) 64 (λ j h. ap (λ (b : Bool). b && eqb (slot_at own (64 + j)) s) (place-high m j))))

-- A named place's slot is reached where the masks have the place.
module _ (table own : List (List ℕ)) (names : ℕ → Bool) (sl : Slotted table own names) (m : Applications) (w : Within m names) where
  pub reaches-own : (p : ℕ) → p < 128 → names p ≡ true → reaches own m (slot_at own p) ≡ at_place m p
  unfolding reaches
  reaches-own p h n = go (at_place m p) refl
    where
      test : ℕ → Bool
      test q = at_place m q && eqb (slot_at own q) (slot_at own p)

      none : at_place m p ≡ false → (q : ℕ) → q < 128 → (b : Bool) → at_place m q ≡ b → (c : Bool) → eqb (slot_at own q) (slot_at own p) ≡ c → b && c ≡ false
      none e q l true f true g = absurd (false≢true (sym e ∙ ap (at_place m) (sym (sl.apart q p l h (w q l f) n (eqb-true (slot_at own q) (slot_at own p) g))) ∙ f))
      none e q l true f false g = refl
      none e q l false f c g = refl

      go : (b : Bool) → at_place m p ≡ b → any (λ q. at_place m q && eqb (slot_at own q) (slot_at own p)) (numbers 0 128) ≡ b
      go true e = any_some (λ q. at_place m q && eqb (slot_at own q) (slot_at own p)) 128 p h (ap₂ (λ (a b : Bool). a && b) e (eq-eqb (slot_at own p) (slot_at own p) refl))
      go false e = any_none (λ q. at_place m q && eqb (slot_at own q) (slot_at own p)) 128 (λ q l. none e q l (at_place m q) refl (eqb (slot_at own q) (slot_at own p)) refl)

-- ---- entered for one mask and then for the other

module _ (own : List (List ℕ)) (fr : Applications) (k c : ℕ) where
  both_first : (s j : ℕ) → first (to_reached own 0 fr.standard k c s j) (to_reached own 64 fr.user k c s j) ≡ to_named own fr k c s j
  unfolding first
  both_first s j = go (eqb j k) (reached own 0 fr.standard s) (reached own 64 fr.user s) ∙ ap (λ (b : Bool). cond (eqb j k && b) c 0) (reaches-two own fr s)
    where
      same : (x : Bool) → eqb c 0 ≡ x → (y : ℕ) → (y ≡ c) ⊎ (y ≡ 0) → cond x y c ≡ c
      same true e y (inl i) = i
      same true e y (inr i) = i ∙ sym (eqb-true c 0 e)
      same false e y h = refl

      go : (b r q : Bool) → cond (eqb (cond (b && r) c 0) 0) (cond (b && q) c 0) (cond (b && r) c 0) ≡ cond (b && (r || q)) c 0
      go false r q = refl
      go true true true = same (eqb c 0) refl c (inl refl)
      go true true false = same (eqb c 0) refl 0 (inr refl)
      go true false q = refl

  pub both-given : {table mid after : List (List ℕ)} → Given table mid (to_reached own 0 fr.standard k c) → Given mid after (to_reached own 64 fr.user k c) → Given table after (to_named own fr k c)
  both-given g h = given-as (λ s j a b. both_first s j) (given-then g h)

module _ (table own : List (List ℕ)) (fr : Applications) (k : ℕ) (f : Fresh table own fr k) where
  at_low : (j : ℕ) → j < 64 → in_number fr.standard j ≡ true → at_place fr (0 + j) ≡ true
  at_low j h e = let z : 0 + j ≡ j = omega arith in ap (at_place fr) z ∙ place-low fr j h ∙ e

  at_high : (j : ℕ) → in_number fr.user j ≡ true → at_place fr (64 + j) ≡ true
  at_high j e = place-high fr j ∙ e

  pub free-low : Free table own 0 fr.standard k
  free-low = record {
    stand = λ j h e. f.stand (0 + j) (omega arith) (at_low j h e);
    free = λ j h e. f.free (0 + j) (omega arith) (at_low j h e);
    apart = λ i j g h a b x. omega (arith, f.apart (0 + i) (0 + j) (omega arith) (omega arith) (at_low i g a) (at_low j h b) x);
  }

  -- A slot of the user mask is no slot of the standard mask.
  not_low : (j : ℕ) → j < 64 → in_number fr.user j ≡ true → reached own 0 fr.standard (slot_at own (64 + j)) ≡ false
  unfolding reached
  not_low j h e = any_none (λ i. in_number fr.standard i && eqb (slot_at own (0 + i)) (slot_at own (64 + j))) 64 (λ i l. go i l (in_number fr.standard i) refl (eqb (slot_at own (0 + i)) (slot_at own (64 + j))) refl)
    where
      go : (i : ℕ) → i < 64 → (b : Bool) → in_number fr.standard i ≡ b → (c : Bool) → eqb (slot_at own (0 + i)) (slot_at own (64 + j)) ≡ c → b && c ≡ false
      go i l true a true g =
          let x = f.apart (0 + i) (64 + j) (omega arith) (omega arith) (at_low i l a) (at_high j e) (eqb-true (slot_at own (0 + i)) (slot_at own (64 + j)) g) in
          absurd (omega arith)
      go i l true a false g = refl
      go i l false a c g = refl

  pub free-high : k < 10 → (c : ℕ) (mid : List (List ℕ)) → Given table mid (to_reached own 0 fr.standard k c) → Free mid own 64 fr.user k
  free-high low c mid g = record {
    stand = λ j h e. let i = stands j h e in record { inside = let a = i.inside in omega (arith, g.same); other = i.other };
    free = λ j h e.
        g.cells (slot_at own (64 + j)) k (stands j h e).inside low
        ∙ ap (λ (b : Bool). first (cell table (slot_at own (64 + j)) k) (cond (eqb k k && b) c 0)) (not_low j h e)
        ∙ ap (λ (b : Bool). first (cell table (slot_at own (64 + j)) k) (cond b c 0)) (and-false (eqb k k))
        ∙ first-none (cell table (slot_at own (64 + j)) k) 0 0 ∙ f.free (64 + j) (omega arith) (at_high j e);
    apart = λ i j a b d e x. omega (arith, f.apart (64 + i) (64 + j) (omega arith) (omega arith) (at_high i d) (at_high j e) x);
  }
    where
      stands : (j : ℕ) → j < 64 → in_number fr.user j ≡ true → IsSet table (slot_at own (64 + j))
      stands j h e = f.stand (64 + j) (omega arith) (at_high j e)

-- ---- those that have none yet

module _ (table own have : List (List ℕ)) (names : ℕ → Bool) (sl : Slotted table own names) (hv : Having table own have names) (k : ℕ) (low : k < 10)
    (m : Applications) (w : Within m names) (fr : Applications)
    (fresh : (p : ℕ) → at_place fr p ≡ at_place m p && not (at_place (set_in (get_or have k [])) p)) where
  abbrev had : Applications
  had = set_in (get_or have k [])

  fresh_in : (p : ℕ) → at_place fr p ≡ true → at_place m p ≡ true
  fresh_in p e = and_l (at_place m p) (not (at_place had p)) (sym (fresh p) ∙ e)

  named : (p : ℕ) → p < 128 → at_place fr p ≡ true → names p ≡ true
  named p h e = w p h (fresh_in p e)

  not-not : (b : Bool) → not (not b) ≡ true → b ≡ true
  not-not true e = refl
  not-not false e = e

  none-there : (p : ℕ) → p < 128 → at_place fr p ≡ true → cell table (slot_at own p) k ≡ 0
  none-there p h e =
      let x : not (at_place had p) ≡ true = and_r (at_place m p) (not (at_place had p)) (sym (fresh p) ∙ e) in
      let y : not (not (eqb (cell table (slot_at own p) k) 0)) ≡ true = sym (ap not (hv.told k p low h (named p h e))) ∙ x in
      eqb-true (cell table (slot_at own p) k) 0 (not-not (eqb (cell table (slot_at own p) k) 0) y)

  -- Where a slot has none, the new ones are all of them.
  same-reach : (s : ℕ) → cell table s k ≡ 0 → reaches own fr s ≡ reaches own m s
  unfolding reaches
  same-reach s z = any_same (λ p. at_place fr p && eqb (slot_at own p) s) (λ p. at_place m p && eqb (slot_at own p) s) 128 (λ p h. go p h (eqb (slot_at own p) s) refl (at_place m p) refl)
    where
      go : (p : ℕ) → p < 128 → (b : Bool) → eqb (slot_at own p) s ≡ b → (x : Bool) → at_place m p ≡ x → at_place fr p && b ≡ x && b
      go p h false e x f = and-false (at_place fr p) ∙ sym (and-false x)
      go p h true e true f =
          let i : cell table (slot_at own p) k ≡ 0 = ap (λ (t : ℕ). cell table t k) (eqb-true (slot_at own p) s e) ∙ z in
          let n : at_place had p ≡ false = hv.told k p low h (w p h f) ∙ ap not (eq-eqb (cell table (slot_at own p) k) 0 i) in
          ap (λ (b : Bool). b && true) (fresh p ∙ ap₂ (λ (a b : Bool). a && not b) f n)
      go p h true e false f = ap (λ (b : Bool). b && true) (fresh p ∙ ap (λ (a : Bool). a && not (at_place had p)) f)

  first-same : (c s j : ℕ) → first (cell table s j) (to_named own fr k c s j) ≡ first (cell table s j) (to_named own m k c s j)
  first-same c s j = go (eqb j k) refl (eqb (cell table s k) 0) refl
    where
      go : (b : Bool) → eqb j k ≡ b → (x : Bool) → eqb (cell table s k) 0 ≡ x
          → first (cell table s j) (cond (b && reaches own fr s) c 0) ≡ first (cell table s j) (cond (b && reaches own m s) c 0)
      go false e x f = refl
      go true e true f = ap (λ (b : Bool). first (cell table s j) (cond b c 0)) (same-reach s (eqb-true (cell table s k) 0 f))
      go true e false f =
          let n : cell table s j ≡ 0 → ⊥ = λ i. eqb-false (cell table s k) 0 f (ap (cell table s) (sym (eqb-true j k e)) ∙ i) in
          first_taken (cell table s j) _ 0 n ∙ sym (first_taken (cell table s j) _ 0 n)

  pub named-given : (c : ℕ) (after : List (List ℕ)) → Given table after (to_named own fr k c) → Given table after (to_named own m k c)
  named-given c after g = record { same = g.same; cells = λ s j a b. g.cells s j a b ∙ first-same c s j }

  -- Nobody is new.
  pub none-given : (c : ℕ) → fr.standard ≡ 0 → fr.user ≡ 0 → Given table table (to_named own m k c)
  none-given c zs zu = named-given c table (given-none table (to_named own fr k c) (λ s j a b. ap (first (cell table s j)) (none s j) ∙ first-none (cell table s j) 0 0))
    where
      nobody : (s : ℕ) → reaches own fr s ≡ false
      nobody s = sym (reaches-two own fr s) ∙ ap₂ (λ (x y : ℕ). reached own 0 x s || reached own 64 y s) zs zu ∙ ap₂ (λ (x y : Bool). x || y) (reached-none own 0 s) (reached-none own 64 s)

      none : (s j : ℕ) → to_named own fr k c s j ≡ 0
      none s j = ap (λ (b : Bool). cond (eqb j k && b) c 0) (nobody s) ∙ ap (λ (b : Bool). cond b c 0) (and-false (eqb j k))

  -- ---- who has one now

  module _ (c : ℕ) (some : c ≡ 0 → ⊥) (after : List (List ℕ)) (g : Given table after (to_named own m k c)) (new : Applications)
      (all : (p : ℕ) → at_place new p ≡ at_place had p || at_place m p) where
    has-now : (x : ℕ) (b : Bool) → not (eqb (first x (cond b c 0)) 0) ≡ not (eqb x 0) || b
    unfolding first
    has-now x b = go (eqb x 0) refl b
      where
        go : (y : Bool) → eqb x 0 ≡ y → (b : Bool) → not (eqb (cond y (cond b c 0) x) 0) ≡ not y || b
        go true e true = ap not (ne_eqb c 0 some)
        go true e false = refl
        go false e b = ap not e

    pub having-next : Having after own (set have k (new.standard ∷ new.user ∷ [])) names
    having-next = record { ten = length-set have k (new.standard ∷ new.user ∷ []) ∙ hv.ten; told = λ i p l h n. go i p l h n (eqb i k) refl }
      where
        row : ℕ → List ℕ
        row i = get_or (set have k (new.standard ∷ new.user ∷ [])) i []

        go : (i p : ℕ) → i < 10 → p < 128 → names p ≡ true → (b : Bool) → eqb i k ≡ b
            → at_place (set_in (get_or (set have k (new.standard ∷ new.user ∷ [])) i [])) p ≡ not (eqb (cell after (slot_at own p) i) 0)
        go i p l h n true e =
            let f : i ≡ k = eqb-true i k e in
            let s = slot_at own p in
            ap (λ (r : List ℕ). at_place (set_in r) p) (ap (λ (x : ℕ). get_or (set have k (new.standard ∷ new.user ∷ [])) x []) f ∙ get_or-set_same have k (new.standard ∷ new.user ∷ []) [] (omega (arith, hv.ten)))
            ∙ all p
            ∙ ap₂ (λ (a b : Bool). a || b) (hv.told k p low h n) (sym (reaches-own table own names sl m w p h n))
            ∙ sym (ap (λ (x : ℕ). not (eqb (cell after s x) 0)) f ∙ ap (λ (x : ℕ). not (eqb x 0)) (g.cells s k (sl.stand p h n).inside low)
            ∙ ap (λ (b : Bool). not (eqb (first (cell table s k) (cond (b && reaches own m s) c 0)) 0)) (eq-eqb k k refl) ∙ has-now (cell table s k) (reaches own m s))
        go i p l h n false e =
            let d = eqb-false i k e in
            let s = slot_at own p in
            ap (λ (r : List ℕ). at_place (set_in r) p) (get_or-set_other have k i (new.standard ∷ new.user ∷ []) [] d)
            ∙ hv.told i p l h n
            ∙ sym (ap (λ (x : ℕ). not (eqb x 0)) (g.cells s i (sl.stand p h n).inside l ∙ ap (λ (b : Bool). first (cell table s i) (cond (b && reaches own m s) c 0)) e ∙ first-none (cell table s i) 0 0))

pub both_zero : (x y : ℕ) → eqb x 0 && eqb y 0 ≡ true → (x ≡ 0) × (y ≡ 0)
both_zero x y e = (eqb-true x 0 (and_l (eqb x 0) (eqb y 0) e), eqb-true y 0 (and_r (eqb x 0) (eqb y 0) e))
