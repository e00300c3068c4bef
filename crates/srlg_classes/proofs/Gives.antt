-- Classes given to the applications of masks. Assumes nothing.
use Prim.Native.Nat.{ℕ, ◌+◌, ◌-◌, ◌≤◌, ◌<◌}
use mathlib.Core.Path.{◌≡◌, refl, sym, ◌∙◌, ap, ap₂}
use mathlib.Core.Bool.{Bool, true, false, cond, ◌&&◌, not, and-false, and-true}
use mathlib.Core.List.{List, [], ◌∷◌}
use native.Mathlib.Omega.{arith}
use native.Mathlib.Nat.{sub-zero}
use borrow.Author.Tests.{eq-eqb, ne_eqb, lt-ltb, le-leb, lt-leb, ltb-true, ltb-false, leb-true}
use lib.Dec.{eqb, ltb, leb}
use lib.ListN.{length, set, length-set}
use Rattle.linkstate.specs.Masks.{in_number}
use Rattle.masks.proofs.Steps.{zero-none}
use Rattle.srlg_ranks.specs.Ranks.{in_words}
use Rattle.masks.specs.Sets.{Lowest}
use Rattle.srlg_sources.proofs.Marks.{At, here, there, at_row}
use Rattle.srlg_table.proofs.Sizes.{low_bit, high_bit}
use Rattle.srlg_classes.specs.Owned.{class_at, slot_at, Slots, Gave, in_half}

pub slots-then : (own mid after : List (List ℕ)) → Slots own mid → Slots mid after → Slots own after
slots-then own mid after p q = record { size = q.size; slots = λ a. q.slots a ∙ p.slots a }

-- ---- one mask

-- What is given so far, with what the bits that are left would give.
pub record Giving (bits base c x : ℕ) (own₀ own : List (List ℕ)) : Type 0 where
  pub slots : Slots own₀ own
  pub classes : (a : ℕ) → a < 128 → cond (in_half base x a) c (class_at own a) ≡ cond (in_half base bits a) c (class_at own₀ a)

half-none : (base a : ℕ) → in_half base 0 a ≡ false
unfolding in_half
half-none base a = rw (zero-none (a - base), and-false (ltb a (base + 64)), and-false (leb base a))

pub giving-end : (bits base c x : ℕ) (own₀ own : List (List ℕ)) → x ≡ 0 → Giving bits base c x own₀ own → Gave (in_half base bits) c own₀ own
giving-end bits base c x own₀ own z so =
    record { slots = so.slots; classes = λ a l. sym (ap (λ (b : Bool). cond b c (class_at own a)) (ap (λ (y : ℕ). in_half base y a) z ∙ half-none base a)) ∙ so.classes a l }

-- The lowest bit t that is left.
pub record Lower (base x t rest : ℕ) : Type 0 where
  pub there : in_half base x (base + t) ≡ true
  pub gone : in_half base rest (base + t) ≡ false
  pub others : (a : ℕ) → (a ≡ base + t → ⊥) → in_half base rest a ≡ in_half base x a

lower : (base x t rest : ℕ) → Lowest 64 x t rest → Lower base x t rest
unfolding in_half
lower base x t rest r =
    let e : base + t - base ≡ t = omega arith in
    let l = r.inside in
    record {
      there = rw (le-leb base (base + t) (omega arith), lt-ltb (base + t) (base + 64) (omega arith), e) r.there;
      gone = rw (le-leb base (base + t) (omega arith), lt-ltb (base + t) (base + 64) (omega arith), e) (r.cleared t ∙ rw (eq-eqb t t refl) (and-false (in_number x t)));
      others = λ a n. elsewhere a n (leb base a) refl (r.cleared (a - base));
    }
  where
    elsewhere : (a : ℕ) → (a ≡ base + t → ⊥) → (b : Bool) → leb base a ≡ b → in_number rest (a - base) ≡ in_number x (a - base) && not (eqb (a - base) t)
        → b && (ltb a (base + 64) && in_number rest (a - base)) ≡ b && (ltb a (base + 64) && in_number x (a - base))
    elsewhere a n false e g = refl
    elsewhere a n true e g =
        let l = leb-true base a e in
        ap (λ (b : Bool). ltb a (base + 64) && b) (g ∙ rw (ne_eqb (a - base) t (λ q. n (omega arith))) (and-true (in_number x (a - base))))

class-set : (own : List (List ℕ)) (j s c a : ℕ) → At own j (s ∷ c ∷ []) a → class_at (set own j (s ∷ c ∷ [])) a ≡ cond (eqb a j) c (class_at own a)
unfolding class_at
class-set own j s c a (here e f) = rw (f, eq-eqb a j e)
class-set own j s c a (there n f) = rw (f, ne_eqb a j n)

slot-set : (own : List (List ℕ)) (j c a : ℕ) → At own j (slot_at own j ∷ c ∷ []) a → slot_at (set own j (slot_at own j ∷ c ∷ [])) a ≡ slot_at own a
unfolding slot_at
slot-set own j c a (here e f) = rw (f, e)
slot-set own j c a (there n f) = rw f

pub giving-next : (bits base c x t rest : ℕ) (own₀ own : List (List ℕ)) → base ≤ 64 → Lowest 64 x t rest → Giving bits base c x own₀ own
    → Giving bits base c rest own₀ (set own (base + t) (slot_at own (base + t) ∷ c ∷ []))
giving-next bits base c x t rest own₀ own k l so =
    record {
      slots = slots-then own₀ own after so.slots (record { size = length-set own j pair ∙ so.slots.size; slots = λ a. slot-set own j c a (at_row own j pair a inside) });
      classes = λ a h. go a h (at_row own j pair a inside);
    }
  where
    r : Lower base x t rest
    r = lower base x t rest l

    j : ℕ
    j = base + t

    pair : List ℕ
    pair = slot_at own j ∷ c ∷ []

    after : List (List ℕ)
    after = set own j pair

    inside : j < length own
    inside = omega (arith, l.inside, so.slots.size)

    go : (a : ℕ) → a < 128 → At own j pair a → cond (in_half base rest a) c (class_at after a) ≡ cond (in_half base bits a) c (class_at own₀ a)
    go a h (here e g) =
        ap₂ (λ (b : Bool) (y : ℕ). cond b c y) (ap (in_half base rest) e ∙ r.gone) (class-set own j (slot_at own j) c a (here e g) ∙ ap (λ (b : Bool). cond b c (class_at own a)) (eq-eqb a j e))
        ∙ sym (ap (λ (b : Bool). cond b c (class_at own a)) (ap (in_half base x) e ∙ r.there)) ∙ so.classes a h
    go a h (there n g) =
        ap₂ (λ (b : Bool) (y : ℕ). cond b c y) (r.others a n) (class-set own j (slot_at own j) c a (there n g) ∙ ap (λ (b : Bool). cond b c (class_at own a)) (ne_eqb a j n)) ∙ so.classes a h

-- ---- two masks

half-low : (s a : ℕ) → in_half 0 s a ≡ ltb a 64 && in_number s a
unfolding in_half
half-low s a = rw (le-leb 0 a (omega arith), sub-zero a) (let z : 0 + 64 ≡ 64 = refl in refl)

half_high : (u a : ℕ) → a < 128 → in_half 64 u a ≡ not (ltb a 64) && in_number u (a - 64)
unfolding in_half
half_high u a h = rw (lt-ltb a (64 + 64) (omega arith)) (ap (λ (b : Bool). b && in_number u (a - 64)) (turned (ltb a 64) refl))
  where
    turned : (b : Bool) → ltb a 64 ≡ b → leb 64 a ≡ not b
    turned true e = lt-leb 64 a (ltb-true a 64 e)
    turned false e = le-leb 64 a (ltb-false a 64 e)

pub gave-both : (s u c : ℕ) (own mid after : List (List ℕ)) → Gave (in_half 0 s) c own mid → Gave (in_half 64 u) c mid after → Gave (in_words (s ∷ u ∷ [])) c own after
gave-both s u c own mid after p q =
    record {
      slots = slots-then own mid after p.slots q.slots;
      classes = λ a h. q.classes a h ∙ ap₂ (λ (b : Bool) (y : ℕ). cond b c y) (half_high u a h) (p.classes a h ∙ ap (λ (b : Bool). cond b c (class_at own a)) (half-low s a)) ∙ go a h (ltb a 64) refl;
    }
  where
    go : (a : ℕ) → a < 128 → (b : Bool) → ltb a 64 ≡ b → cond (not b && in_number u (a - 64)) c (cond (b && in_number s a) c (class_at own a)) ≡ cond (in_words (s ∷ u ∷ []) a) c (class_at own a)
    go a h true e = ap (λ (b : Bool). cond b c (class_at own a)) (sym (low_bit s u a (ltb-true a 64 e)))
    go a h false e =
        let l = ltb-false a 64 e in
        let z : 64 + (a - 64) ≡ a = omega arith in
        ap (λ (b : Bool). cond b c (class_at own a)) (sym (rw z at (high_bit s u (a - 64) (omega arith))))
