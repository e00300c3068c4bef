-- IS-IS types and their codes: what holds of every type, shown at the table's own types by computing and at the unknown ones.
use mathlib.Core.Path.{◌≡◌, refl, ap, ◌∙◌}
use mathlib.Core.Bool.{Bool, true, false, cond, ◌&&◌, ◌||◌}
use mathlib.Core.List.{List, [], ◌∷◌}
use Prim.Native.Nat.{ℕ, zero, suc, ◌-◌, ◌≤◌, ◌<◌}
use native.Mathlib.Omega.{arith}
use borrow.Author.Tests.{eqb-true, leb-true}
use lib.Dec.{eqb, leb, ltb}
use lib.ListN.{length, get_or}
use Rattle.linkstate.specs.Lists.{all, any}
use Rattle.linkstate.specs.Kinds as T
use Rattle.linkstate.specs.Kinds.{kinds, link_codes, is_code}
use Rattle.linkstate.proofs.ListLaws.{and_l, and_r}
use Rattle.kinds.specs.Rules.{grid_codes}
use Rattle.isis_kinds.proofs.Computing.{computing}
use Rattle.isis.specs.Types.{code_of_type}

pub ten-codes : length grid_codes ≡ 10
unfolding computing
ten-codes = refl

pub three-codes : length link_codes ≡ 3
unfolding computing
three-codes = refl

-- What holds of every code of a list by a computed test holds at each place.
pub all-at : (p : ℕ → Bool) (cs : List ℕ) → all p cs ≡ true → (k : ℕ) → k < length cs → p (get_or cs k 0) ≡ true
unfolding all
all-at p [] h k l = absurd (omega arith)
all-at p (c ∷ cs) h k l = go (p c) refl h k l (all-at p cs)
  where
    go : (b : Bool) → p c ≡ b → b && all p cs ≡ true → (k : ℕ) → k < suc (length cs) → (all p cs ≡ true → (k : ℕ) → k < length cs → p (get_or cs k 0) ≡ true)
        → p (get_or (c ∷ cs) k 0) ≡ true
    go true e h zero l f = e
    go true e h (suc k) l f = f h k (omega arith)
    go false e h k l f = absurd (let z : ◌≡◌ {A = ℕ} 0 1 = cc in omega arith)

-- ---- the type of a code

-- What a computed test says of every code of the table holds of a known one.
code-tested : (p : ℕ → Bool) (k : ℕ) (qs : List T.Kind) → all (λ q. p q.code) qs ≡ true → any (T.has_code k) qs ≡ true → p k ≡ true
unfolding all any T.has_code
code-tested p k [] h e = absurd (let z : ◌≡◌ {A = ℕ} 0 1 = cc in omega arith)
code-tested p k (q ∷ qs) h e = go (eqb k q.code) refl e (p q.code) refl h (code-tested p k qs)
  where
    go : (b : Bool) → eqb k q.code ≡ b → b || any (T.has_code k) qs ≡ true → (c : Bool) → p q.code ≡ c → c && all (λ q. p q.code) qs ≡ true
        → (all (λ q. p q.code) qs ≡ true → any (T.has_code k) qs ≡ true → p k ≡ true) → p k ≡ true
    go b i e false j h f = absurd (let z : ◌≡◌ {A = ℕ} 0 1 = cc in omega arith)
    go true i e true j h f = ap p (eqb-true k q.code i) ∙ j
    go false i e true j h f = f h e

-- The type as the code tells it.
abbrev pub type_of : ℕ → ℕ
type_of k = cond (eqb k 1088) 3 (cond (eqb k 1092) 18 (cond (eqb k 1173) 14 (cond (ltb k 1092) (k - 1080) (k - 1081))))

module _ (k : ℕ) (known : is_code k ≡ true) where
  pub code-within : (1088 ≤ k) × (k ≤ 1173)
  unfolding computing
  code-within =
      let e : leb 1088 k && leb k 1173 ≡ true = code-tested (λ c. leb 1088 c && leb c 1173) k kinds refl known in
      (leb-true 1088 k (and_l (leb 1088 k) (leb k 1173) e), leb-true k 1173 (and_r (leb 1088 k) (leb k 1173) e))

  pub type-is : eqb k 1096 ≡ false → (t : ℕ) → t ≡ type_of k → code_of_type t ≡ k
  unfolding computing
  type-is n t e =
      ap code_of_type e ∙ eqb-true (code_of_type (type_of k)) k (go (eqb k 1096) n (code-tested
      (λ c. eqb c 1096 || eqb (code_of_type (type_of c)) c) k kinds refl known))
    where
      go : (b : Bool) → b ≡ false → b || eqb (code_of_type (type_of k)) k ≡ true → eqb (code_of_type (type_of k)) k ≡ true
      go true f h = absurd (let z : ◌≡◌ {A = ℕ} 0 1 = cc in omega arith)
      go false f h = h
