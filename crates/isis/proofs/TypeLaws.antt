-- IS-IS types and their codes: what holds of every type, shown at the table's own types by computing and at the unknown ones. Assumes nothing.
use mathlib.Core.Path.{◌≡◌, refl, sym, ap, ◌∙◌, subst}
use mathlib.Core.Bool.{Bool, true, false, cond, ◌&&◌, ◌||◌, not, false≢true}
use mathlib.Core.List.{List, [], ◌∷◌}
use Prim.Native.Nat.{ℕ}
use native.Mathlib.Omega.{arith}
use borrow.Author.Tests.{eqb-true, ne_eqb}
use lib.Dec.{eqb}
use Rattle.linkstate.specs.Lists.{any, all, lookup}
use Rattle.linkstate.specs.Kinds.{kinds, fits, has_code, is_code}
use Rattle.linkstate.proofs.ListLaws.{and_l, and_r, any-mem, all-mem}
use Rattle.isis.specs.Types.{TypeInA, types, has_type, code_of_type, wrong_in_a}
use Rattle.isis.proofs.Computing.{computing}

-- Whether a code is known and its values in run A do not have n bytes.
unfoldable pub wrong_of_code : ℕ → ℕ → Bool
wrong_of_code c n = any (λ q. eqb c q.code && not (fits q.size n)) types

-- ---- every type

abbrev pub OfTypes : (ℕ → Type 0) → List TypeInA → Type 0
OfTypes P [] = Unit {0}
OfTypes P (q ∷ qs) = P q.type × OfTypes P qs

-- A fact at each type of the table, and at each unknown one, holds at every type.
types-in : (P : ℕ → Type 0) (qs : List TypeInA) → OfTypes P qs → (t : ℕ) → (lookup (has_type t) (λ q. q.code) 0 qs ≡ 0 → P t) → P t
unfolding lookup has_type
types-in P [] all t f = f refl
types-in P (q ∷ qs) all t f = go (eqb t q.type) refl f (types-in P qs all.1 t)
  where
    go : (b : Bool) → eqb t q.type ≡ b → (cond b q.code (lookup (has_type t) (λ q. q.code) 0 qs) ≡ 0 → P t) → ((lookup (has_type t) (λ q. q.code) 0 qs ≡ 0 → P t) → P t) → P t
    go true e f r = subst P (sym (eqb-true t q.type e)) all.0
    go false e f r = r f

pub every-type : (P : ℕ → Type 0) → OfTypes P types → ((t : ℕ) → code_of_type t ≡ 0 → P t) → (t : ℕ) → P t
unfolding code_of_type
every-type P all f t = types-in P types all t (f t)

-- A computed test over the table's types.
pub tested : (p : ℕ → Bool) (qs : List TypeInA) → all (λ q. p q.type) qs ≡ true → OfTypes (λ t. p t ≡ true) qs
unfolding all
tested p [] h = tt
tested p (q ∷ qs) h = (and_l (p q.type) (all (λ q. p q.type) qs) h, tested p qs (and_r (p q.type) (all (λ q. p q.type) qs) h))

-- A type whose length is right has a code whose length is.
pub right-code : (n t : ℕ) → wrong_in_a t n ≡ false → wrong_of_code (code_of_type t) n ≡ false
unfolding computing wrong_of_code
right-code n =
    every-type (λ t. wrong_in_a t n ≡ false → wrong_of_code (code_of_type t) n ≡ false)
    (λ h. h, (λ h. h, (λ h. h, (λ h. h, (λ h. h, (λ h. h, (λ h. h, (λ h. h, (λ h. h, (λ h. h, (λ h. h, (λ h. h, (λ h. h, tt)))))))))))))
    (λ t e h. ap (λ (c : ℕ). wrong_of_code c n) e)

-- ---- a type is the only one of its code

agree : Bool → Bool → Bool
agree true b = b
agree false b = not b

agree-eq : (a b : Bool) → agree a b ≡ true → a ≡ b
unfolding agree
agree-eq true b e = sym e
agree-eq false true e = absurd (false≢true e)
agree-eq false false e = refl

module _ (k c : ℕ) where
  keyed : ℕ → Bool
  keyed t = agree (eqb t k) (eqb (code_of_type t) c)

  only-type : all (λ q. keyed q.type) types ≡ true → code_of_type k ≡ c → (c ≡ 0 → ⊥) → (t : ℕ) → eqb t k ≡ eqb (code_of_type t) c
  unfolding keyed agree
  only-type h own n t =
      agree-eq (eqb t k) (eqb (code_of_type t) c)
      (every-type (λ t. keyed t ≡ true) (tested keyed types h)
      (λ x e. rw (ne_eqb x k (λ i. n (sym own ∙ ap code_of_type (sym i) ∙ e)), ne_eqb (code_of_type x) c (λ i. n (sym i ∙ e)))) t)

-- Only type 18 is a TE metric.
pub metric-type : (t : ℕ) → eqb t 18 ≡ eqb (code_of_type t) 1092
unfolding computing keyed agree
metric-type = only-type 18 1092 refl refl (λ z. omega arith)

-- A known type is the only one of its code.
known_alone : ℕ → Bool
known_alone k = eqb (code_of_type k) 0 || all (λ q. keyed k (code_of_type k) q.type) types

known_alone_lem : (k : ℕ) → known_alone k ≡ true
unfolding computing keyed agree known_alone
known_alone_lem = every-type (λ k. known_alone k ≡ true) (tested known_alone types refl) (λ k e. ap (λ (c : ℕ). eqb c 0 || all (λ q. keyed k (code_of_type k) q.type) types) e)

pub type-code : (k : ℕ) → (code_of_type k ≡ 0 → ⊥) → (t : ℕ) → eqb t k ≡ eqb (code_of_type t) (code_of_type k)
unfolding known_alone
type-code k n = only-type k (code_of_type k) (go (eqb (code_of_type k) 0) refl (known_alone_lem k)) refl n
  where
    go : (b : Bool) → eqb (code_of_type k) 0 ≡ b → b || all (λ q. keyed k (code_of_type k) q.type) types ≡ true → all (λ q. keyed k (code_of_type k) q.type) types ≡ true
    go true e h = absurd (n (eqb-true (code_of_type k) 0 e))
    go false e h = h

-- ---- a known code

-- What a computed test says of every code of the table, SRLG apart, holds of a known one.
pub code-tested : (p : ℕ → Bool) → all (λ q. eqb q.code 1096 || p q.code) kinds ≡ true → (k : ℕ) → is_code k ≡ true → eqb k 1096 ≡ false → p k ≡ true
unfolding is_code has_code
code-tested p h k known other =
    let q = any-mem (has_code k) kinds known in
    let e : k ≡ q.0.code = eqb-true k q.0.code q.2 in
    let t : eqb k 1096 || p k ≡ true = rw e (all-mem (λ q. eqb q.code 1096 || p q.code) kinds h q.1) in
    rw other at t

-- No value of a kind other than SRLG is empty.
pub none-wrong : (k : ℕ) → is_code k ≡ true → eqb k 1096 ≡ false → wrong_of_code k 0 ≡ true
unfolding computing wrong_of_code
none-wrong = code-tested (λ k. wrong_of_code k 0) refl
