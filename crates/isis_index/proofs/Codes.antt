-- The kind of a type and its code: what the arms of a match know. Assumes nothing.
use mathlib.Core.Path.{◌≡◌, refl, sym, ap, ◌∙◌}
use mathlib.Core.Bool.{Bool, true, false, ◌&&◌, not, false≢true}
use mathlib.Core.List.{List}
use mathlib.Core.Logic.{◌⊎◌, inl, inr}
use Prim.Native.Nat.{ℕ, zero, suc, ◌<◌}
use native.Mathlib.Omega.{arith}
use borrow.Author.Tests.{eqb-true, eqb-false}
use lib.Dec.{eqb}
use lib.ListN.{get_or}
use Rattle.linkstate.specs.Kinds.{link_codes}
use Rattle.kinds.specs.Rules.{grid_codes}
use Rattle.kinds.specs.declared.Rule.{Rule}
use Rattle.kinds.specs.declared.Kind.TheVariants.{Srlg, Asla, Unknown}
use Rattle.isis_kinds.specs.Rules.{rule_of_type}
use Rattle.isis_kinds.proofs.Laws.{kind-read}
use Rattle.isis_kinds.proofs.Computing.{computing}
use Rattle.isis.specs.Types.{code_of_type}
use Rattle.isis.proofs.TypeLaws.{wrong_of_code, right-code}
use Rattle.set_table.specs.Tables.{Value}
use Rattle.isis_index.specs.Index.{Right}

-- ---- codes are different

unfoldable pub every : (ℕ → Bool) → ℕ → Bool
every f zero = true
every f (suc k) = f k && every f k

pub every-at : (f : ℕ → Bool) (k : ℕ) → every f k ≡ true → (n : ℕ) → n < k → f n ≡ true
unfolding every
every-at f zero h n l = absurd (omega arith)
every-at f (suc k) h n l = go (f k) refl h (every-at f k)
  where
    go : (b : Bool) → f k ≡ b → b && every f k ≡ true → (every f k ≡ true → (n : ℕ) → n < k → f n ≡ true) → f n ≡ true
    go true e h ih = pick (eqb n k) refl
      where
        pick : (b : Bool) → eqb n k ≡ b → f n ≡ true
        pick true i = ap f (eqb-true n k i) ∙ e
        pick false i = let d = eqb-false n k i in ih h n (omega arith)
    go false e h ih = absurd (false≢true h)

unfoldable pub same : Bool → Bool → Bool
same true b = b
same false b = not b

pub same-eq : (a b : Bool) → same a b ≡ true → a ≡ b
unfolding same
same-eq true b e = sym e
same-eq false true e = absurd (false≢true e)
same-eq false false e = refl

pub grid-same : (j k : ℕ) → j < 10 → k < 10 → eqb (get_or grid_codes j 0) (get_or grid_codes k 0) ≡ eqb j k
unfolding computing every same
grid-same j k h l = same-eq _ _ (every-at (λ i. same (eqb (get_or grid_codes j 0) (get_or grid_codes i 0)) (eqb j i)) 10 (every-at (λ i. every (λ k. same (eqb (get_or grid_codes i 0) (get_or grid_codes k 0)) (eqb i k)) 10) 10 refl j h) k l)

pub link-same : (j k : ℕ) → j < 3 → k < 3 → eqb (get_or link_codes j 0) (get_or link_codes k 0) ≡ eqb j k
unfolding computing every same
link-same j k h l = same-eq _ _ (every-at (λ i. same (eqb (get_or link_codes j 0) (get_or link_codes i 0)) (eqb j i)) 3 (every-at (λ i. every (λ k. same (eqb (get_or link_codes i 0) (get_or link_codes k 0)) (eqb i k)) 3) 3 refl j h) k l)

not-true : (b : Bool) → not b ≡ true → b ≡ false
not-true true e = absurd (false≢true e)
not-true false e = refl

pub grid-link : (j k : ℕ) → j < 10 → k < 3 → eqb (get_or grid_codes j 0) (get_or link_codes k 0) ≡ false
unfolding computing every
grid-link j k h l = not-true _ (every-at (λ i. not (eqb (get_or grid_codes j 0) (get_or link_codes i 0))) 3 (every-at (λ i. every (λ k. not (eqb (get_or grid_codes i 0) (get_or link_codes k 0))) 3) 10 refl j h) k l)

pub link-grid : (j k : ℕ) → j < 3 → k < 10 → eqb (get_or link_codes j 0) (get_or grid_codes k 0) ≡ false
unfolding computing every
link-grid j k h l = not-true _ (every-at (λ i. not (eqb (get_or link_codes j 0) (get_or grid_codes i 0))) 10 (every-at (λ i. every (λ k. not (eqb (get_or link_codes i 0) (get_or grid_codes k 0))) 10) 3 refl j h) k l)

pub grid-some : (j : ℕ) → j < 10 → eqb (get_or grid_codes j 0) 0 ≡ false
unfolding computing every
grid-some j h = not-true _ (every-at (λ i. not (eqb (get_or grid_codes i 0) 0)) 10 refl j h)

pub link-some : (j : ℕ) → j < 3 → eqb (get_or link_codes j 0) 0 ≡ false
unfolding computing every
link-some j h = not-true _ (every-at (λ i. not (eqb (get_or link_codes i 0) 0)) 3 refl j h)

pub link-first : get_or link_codes 0 0 ≡ 1089
unfolding computing
link-first = refl

-- ---- a right length is not 0

module _ {run : List ℕ} {t place n : ℕ} (r : Right run t place n) where
  of_right : wrong_of_code (code_of_type t) 0 ≡ true → Value run place n
  of_right h = record { within = r.within; low = r.low; some = go (eqb n 0) refl; short = r.short }
    where
      go : (b : Bool) → eqb n 0 ≡ b → 0 < n
      go true e = absurd (false≢true (sym (ap (wrong_of_code (code_of_type t)) (sym (eqb-true n 0 e)) ∙ right-code n t r.right) ∙ h))
      go false e = let d = eqb-false n 0 e in omega arith

  pub value-grid : (k : ℕ) → k < 10 → code_of_type t ≡ get_or grid_codes k 0 → Value run place n
  unfolding computing every wrong_of_code
  value-grid k h e = of_right (ap (λ (c : ℕ). wrong_of_code c 0) e ∙ every-at (λ i. wrong_of_code (get_or grid_codes i 0) 0) 10 refl k h)

  pub value-link : (k : ℕ) → k < 3 → code_of_type t ≡ get_or link_codes k 0 → Value run place n
  unfolding computing every wrong_of_code
  value-link k h e = of_right (ap (λ (c : ℕ). wrong_of_code c 0) e ∙ every-at (λ i. wrong_of_code (get_or link_codes i 0) 0) 3 refl k h)

-- A type that is no link's and of no application has no code in a set.
pub silent : (t : ℕ) (r : Rule) → r ≡ rule_of_type t → (r.kind ≡ Srlg) ⊎ ((r.kind ≡ Asla) ⊎ (r.kind ≡ Unknown)) → code_of_type t ≡ 0
silent t r e (inl h) = absurd (kind-read t r Srlg e h)
silent t r e (inr (inl h)) = kind-read t r Asla e h
silent t r e (inr (inr h)) = kind-read t r Unknown e h
