-- The table of types against the classifier's range, and what a rule says of lengths and codes.
use mathlib.Core.Path.{◌≡◌, refl, sym, ap, ap₂, ◌∙◌, subst}
use mathlib.Core.Bool.{Bool, true, false, cond, ◌||◌, not}
use mathlib.Core.List.{List, [], ◌∷◌}
use Prim.Native.Nat.{ℕ, ◌+◌, ◌-◌, ◌≤◌, ◌<◌}
use native.Mathlib.Omega.{arith}
use borrow.Author.Tests.{eqb-true, ne_eqb}
use lib.Dec.{eqb, lit<}
use lib.ListN.{get_or}
use Rattle.linkstate.specs.Lists.{lookup}
use Rattle.linkstate.specs.Kinds as T
use Rattle.linkstate.specs.Kinds.{link_codes}
use Rattle.isis.specs.Types.{TypeInA, types, has_type, code_of_type, wrong_in_a}
use Rattle.kinds.specs.declared.Kind.{Kind}
use Rattle.kinds.specs.declared.Kind.TheVariants.{Link, Application, Srlg, Asla, Unknown}
use Rattle.kinds.specs.declared.Size.TheVariants.{Exactly, Any}
use Rattle.kinds.specs.declared.Rule.{Rule}
use Rattle.kinds.specs.Rules.{rule, fits_in, grid_codes}
use Rattle.kinds.proofs.Laws.{seven, Once, alone, once, size_fits, by-rule, any-kept}
use Rattle.isis_kinds.specs.Rules.{type_rule, rule_of_type}
use Rattle.isis_kinds.proofs.Computing.{computing}

-- IS-IS types 33 to 39
pub type-range : (b : ℕ) → 33 ≤ b → b < 40 → rule (Application (b - 31)) (Exactly (cond (eqb b 34) 8 4)) (b + 1081) ≡ rule_of_type b
unfolding computing
type-range = seven (λ b. rule (Application (b - 31)) (Exactly (cond (eqb b 34) 8 4)) (b + 1081) ≡ rule_of_type b) 33 refl refl refl refl refl refl refl

-- any other type is unknown
pub type-unknown : (b : ℕ)
    → (b ≡ 3 → ⊥) → (b ≡ 9 → ⊥) → (b ≡ 10 → ⊥) → (b ≡ 11 → ⊥) → (b ≡ 14 → ⊥) → (b ≡ 16 → ⊥) → (b ≡ 18 → ⊥) → ((k : ℕ) → 33 ≤ k → k < 40 → b ≡ k → ⊥)
    → rule Unknown Any 0 ≡ rule_of_type b
unfolding computing
type-unknown b n3 n9 n10 n11 n14 n16 n18 out =
    let away : (k : ℕ) → 33 ≤ k → k < 40 → eqb b k ≡ false = λ k h g. ne_eqb b k (out k h g) in
    simp (ne_eqb b 3 n3, ne_eqb b 9 n9, ne_eqb b 10 n10, ne_eqb b 11 n11, ne_eqb b 14 n14, ne_eqb b 16 n16, ne_eqb b 18 n18, away 33 (omega arith) (omega arith), away 34 (omega arith) (omega arith), away 35 (omega arith) (omega arith), away 36 (omega arith) (omega arith), away 37 (omega arith) (omega arith), away 38 (omega arith) (omega arith), away 39 (omega arith) (omega arith))

-- No type stands twice in the table.
types-once : (t : ℕ) → Once (has_type t) types
unfolding computing alone
types-once = once has_type (λ q. q.type) (λ t q h. sym (eqb-true t q.type h)) types refl

-- A wrong length is one that does not fit the rule's size: the table of types says so of run A.
pub wrong-in-a : (t n : ℕ) → wrong_in_a t n ≡ not (fits_in (rule_of_type t).size n)
unfolding computing
wrong-in-a t n =
    by-rule types has_type type_rule 16 t (λ r. not (fits_in r.size n)) (λ q. not (T.fits q.size n)) (types-once t) (λ q. ap not (size_fits q.size n)) refl refl refl

-- In run A four bytes are wrong for three types; three are right for a type, and eight for two.
pub four-in-a : (t n : ℕ) → n ≡ 4 → (eqb t 11 || eqb t 18) || eqb t 34 ≡ wrong_in_a t n
unfolding computing
four-in-a t n e =
    sym (ap (wrong_in_a t) e ∙ any-kept (has_type t) (λ q. not (T.fits q.size 4)) types ∙ go (eqb t 11) (eqb t 18) (eqb t 34))
  where
    go : (x y z : Bool) → x || (y || (z || false)) ≡ (x || y) || z
    go true y z = refl
    go false true z = refl
    go false false true = refl
    go false false false = refl

pub three-in-a : (t n : ℕ) → n ≡ 3 → t ≡ 18 → wrong_in_a t n ≡ false
unfolding computing
three-in-a t n e f = ap₂ wrong_in_a f e

pub eight-in-a : (t n : ℕ) → n ≡ 8 → eqb t 14 || eqb t 34 ≡ true → wrong_in_a t n ≡ false
unfolding computing
eight-in-a t n e f = go (eqb t 14) refl f
  where
    go : (b : Bool) → eqb t 14 ≡ b → b || eqb t 34 ≡ true → wrong_in_a t n ≡ false
    go true g h = ap₂ wrong_in_a (eqb-true t 14 g) e
    go false g h = ap₂ wrong_in_a (eqb-true t 34 h) e

-- ---- the code of a kind

-- A kind is that of a type with a code: its row is the code's.
abbrev pub TypeOf : Kind → ℕ → Type 0
TypeOf (Link i) c = (i < 3) × (c ≡ get_or link_codes i 0)
TypeOf (Application i) c = (i < 10) × (c ≡ get_or grid_codes i 0)
TypeOf Srlg c = ⊥
TypeOf Asla c = c ≡ 0
TypeOf Unknown c = c ≡ 0

-- every row of the table stands in its place
Placed : List TypeInA → Type 0
Placed [] = Unit {0}
Placed (q ∷ qs) = TypeOf (type_rule q).kind q.code × Placed qs

placed : Placed types
unfolding computing Placed
placed = ((lit< tt, refl), ((lit< tt, refl), ((lit< tt, refl), ((lit< tt, refl), ((lit< tt, refl), ((lit< tt, refl), ((lit< tt, refl), ((lit< tt, refl), ((lit< tt, refl), ((lit< tt, refl), ((lit< tt, refl), ((lit< tt, refl), ((lit< tt, refl), tt)))))))))))))

-- the row that is found, or none
module _ (t : ℕ) where
  found_right : (qs : List TypeInA) → Placed qs → TypeOf (lookup (has_type t) type_rule (rule Unknown Any 0) qs).kind (lookup (has_type t) (λ q. q.code) 0 qs)
  unfolding Placed lookup
  found_right [] h = refl
  found_right (q ∷ qs) h = go (has_type t q) (found_right qs h.1)
    where
      go : (b : Bool) → TypeOf (lookup (has_type t) type_rule (rule Unknown Any 0) qs).kind (lookup (has_type t) (λ q. q.code) 0 qs)
          → TypeOf (cond b (type_rule q) (lookup (has_type t) type_rule (rule Unknown Any 0) qs)).kind (cond b q.code (lookup (has_type t) (λ q. q.code) 0 qs))
      go true r = h.0
      go false r = r

  pub type-of : TypeOf (rule_of_type t).kind (code_of_type t)
  unfolding computing
  type-of = go (eqb t 16) refl
    where
      go : (b : Bool) → eqb t 16 ≡ b → TypeOf (cond b (rule Asla Any 1122) (lookup (has_type t) type_rule (rule Unknown Any 0) types)).kind (lookup (has_type t) (λ q. q.code) 0 types)
      go true e = ap code_of_type (eqb-true t 16 e)
      go false e = found_right types placed

-- As the code has it.
pub kind-read : (t : ℕ) (r : Rule) (k : Kind) → r ≡ rule_of_type t → r.kind ≡ k → TypeOf k (code_of_type t)
kind-read t r k e h = subst (λ (x : Kind). TypeOf x (code_of_type t)) (sym (ap (λ (x : Rule). x.kind) e) ∙ h) (type-of t)
