-- The table of slot and class by place, changed place by place. Assumes nothing.
use Prim.Native.Nat.{ℕ, ◌+◌, ◌-◌, ◌≤◌, ◌<◌}
use mathlib.Core.Path.{◌≡◌, refl, sym, ◌∙◌, ap, ap₂}
use mathlib.Core.Bool.{Bool, true, false, cond, ◌&&◌, ◌||◌, not, and-false, and-true}
use mathlib.Core.List.{List, []}
use lib.Dec.{eqb, leb}
use lib.ListN.{length, get_or, set, length-set}
use lib.Seq.{get_or-set_same, get_or-set_other}
use native.Mathlib.Omega.{arith}
use borrow.Author.Tests.{eqb-true, eqb-false, eq-eqb, ne_eqb, leb-true, leb-false}
use Rattle.linkstate.specs.Masks.{in_number}
use Rattle.masks.proofs.Steps.{zero-none}
use Rattle.masks.specs.Sets.{Lowest}
use Rattle.srlg_sources.proofs.Marks.{At, here, there, at_row}
use Rattle.set_table.specs.Tables.{slot_at, Owned, has_place, Gave}

-- ---- one place

module _ (own : List (List ℕ)) (o : Owned own) (p : ℕ) (low : p < 128) (s : ℕ) where
  abbrev pub Placed : List (List ℕ)
  Placed = set own p (set (get_or own p []) 0 s)

  inside : p < length own
  inside = omega (arith, o.size)

  pub placed-here : slot_at Placed p ≡ s
  placed-here = ap (λ (r : List ℕ). get_or r 0 0) (get_or-set_same own p (set (get_or own p []) 0 s) [] inside) ∙ get_or-set_same (get_or own p []) 0 s 0 (omega (arith, o.pairs p low))

  pub placed-other : (q : ℕ) → (q ≡ p → ⊥) → get_or Placed q [] ≡ get_or own q []
  placed-other q n = get_or-set_other own p q (set (get_or own p []) 0 s) [] n

  pub placed-owned : Owned Placed
  placed-owned = record { size = length-set own p (set (get_or own p []) 0 s) ∙ o.size; pairs = λ q h. go q h (at_row own p (set (get_or own p []) 0 s) q inside) }
    where
      go : (q : ℕ) → q < 128 → At own p (set (get_or own p []) 0 s) q → length (get_or Placed q []) ≡ 2
      go q h (here e f) = ap length f ∙ length-set (get_or own p []) 0 s ∙ o.pairs p low
      go q h (there n f) = ap length f ∙ o.pairs q h

  pub placed-class : (q : ℕ) → get_or (get_or Placed q []) 1 0 ≡ get_or (get_or own q []) 1 0
  placed-class q = go (at_row own p (set (get_or own p []) 0 s) q inside)
    where
      go : At own p (set (get_or own p []) 0 s) q → get_or (get_or Placed q []) 1 0 ≡ get_or (get_or own q []) 1 0
      go (here e f) = ap (λ (r : List ℕ). get_or r 1 0) f ∙ get_or-set_other (get_or own p []) 0 1 s 0 (λ i. omega arith) ∙ ap (λ (i : ℕ). get_or (get_or own i []) 1 0) (sym e)
      go (there n f) = ap (λ (r : List ℕ). get_or r 1 0) f

  pub placed-gave : Gave own Placed (λ q. eqb q p) s
  placed-gave = record { owned = placed-owned; slots = λ q h. go q (eqb q p) refl; classes = λ q h. placed-class q }
    where
      go : (q : ℕ) (b : Bool) → eqb q p ≡ b → slot_at Placed q ≡ cond b s (slot_at own q)
      go q true e = ap (slot_at Placed) (eqb-true q p e) ∙ placed-here
      go q false e = ap (λ (r : List ℕ). get_or r 0 0) (placed-other q (eqb-false q p e))

-- ---- some places, and then others

pub gave_then : {own mid after : List (List ℕ)} {f g : ℕ → Bool} {s : ℕ} → Gave own mid f s → Gave mid after g s → Gave own after (λ p. f p || g p) s
gave_then {own} {mid} {after} {f} {g} {s} a b = record {
  owned = b.owned;
  slots = λ p h. b.slots p h ∙ ap (cond (g p) s) (a.slots p h) ∙ join (f p) (g p) (slot_at own p);
  classes = λ p h. b.classes p h ∙ a.classes p h;
}
  where
    join : (x y : Bool) (z : ℕ) → cond y s (cond x s z) ≡ cond (x || y) s z
    join true true z = refl
    join true false z = refl
    join false true z = refl
    join false false z = refl

pub gave-as : {own after : List (List ℕ)} {f g : ℕ → Bool} {s : ℕ} → ((p : ℕ) → p < 128 → f p ≡ g p) → Gave own after f s → Gave own after g s
gave-as {own} {after} {f} {g} {s} e a = record { owned = a.owned; slots = λ p h. a.slots p h ∙ ap (λ (b : Bool). cond b s (slot_at own p)) (e p h); classes = a.classes }

pub gave-none : {own : List (List ℕ)} (base x s : ℕ) → Owned own → x ≡ 0 → Gave own own (has_place base x) s
unfolding has_place
gave-none {own} base x s o e = record {
  owned = o;
  slots = λ p h. sym (ap (λ (b : Bool). cond b s (slot_at own p)) (ap (λ (y : ℕ). leb base p && in_number y (p - base)) e ∙ ap (λ (b : Bool). leb base p && b) (zero-none (p - base)) ∙ and-false (leb base p)));
  classes = λ p h. refl;
}

-- The places of a mask: that of its lowest bit, and those of the others.
pub place-next : (base : ℕ) {x t rest : ℕ} (r : Lowest 64 x t rest) (p : ℕ) → eqb p (base + t) || has_place base rest p ≡ has_place base x p
unfolding has_place
place-next base {x} {t} {rest} r p = go (leb base p) refl
  where
    pick : (b : Bool) → eqb (p - base) t ≡ b → b || (in_number x (p - base) && not b) ≡ in_number x (p - base)
    pick true e = sym (ap (in_number x) (eqb-true (p - base) t e) ∙ r.there)
    pick false e = and-true (in_number x (p - base))

    move : base ≤ p → (b : Bool) → eqb (p - base) t ≡ b → eqb p (base + t) ≡ b
    move h true e = let i = eqb-true (p - base) t e in eq-eqb p (base + t) (omega arith)
    move h false e = let i = eqb-false (p - base) t e in ne_eqb p (base + t) (λ z. i (omega arith))

    go : (b : Bool) → leb base p ≡ b → eqb p (base + t) || (b && in_number rest (p - base)) ≡ b && in_number x (p - base)
    go true e =
        ap₂ (λ (a b : Bool). a || b) (move (leb-true base p e) (eqb (p - base) t) refl) (r.cleared (p - base)) ∙ pick (eqb (p - base) t) refl
    go false e = let l = leb-false base p e in ap (λ (b : Bool). b || false) (ne_eqb p (base + t) (λ z. omega arith))

-- What has been given, while the places of x are left.
pub record Giving (own₀ own : List (List ℕ)) (base bits x s : ℕ) : Type 0 where
  pub owned : Owned own
  pub gives : (after : List (List ℕ)) → Gave own after (has_place base x) s → Gave own₀ after (has_place base bits) s

pub giving-next : {own₀ own : List (List ℕ)} {base bits x s t rest : ℕ} (g : Giving own₀ own base bits x s) → base ≤ 64 → Lowest 64 x t rest
    → Giving own₀ (set own (base + t) (set (get_or own (base + t) []) 0 s)) base bits rest s
giving-next {own₀} {own} {base} {bits} {x} {s} {t} {rest} g h r =
    let p = base + t in
    let l : p < 128 = omega (arith, r.inside) in
    record {
      owned = placed-owned own g.owned p l s;
      gives = λ after q. g.gives after (gave-as (λ i a. place-next base r i) (gave_then (placed-gave own g.owned p l s) q));
    }
