-- Whether a kind of applications stands outside the ASLA sub-TLVs of run A: by the types that a walk meets, and as the side's legacy attributes have it.
use mathlib.Core.Path.{◌≡◌, refl, sym, ap, ap₂, ◌∙◌, subst}
use mathlib.Core.Bool.{Bool, true, false, cond, ◌&&◌, ◌||◌, not, false≢true}
use mathlib.Core.List.{List, [], ◌∷◌, Memᴰ}
use Prim.Native.Nat.{ℕ, ◌≤◌, ◌<◌}
use native.Mathlib.Omega.{arith}
use native.Mathlib.Nat.{zero-add}
use borrow.Author.Tests.{eqb-true, lt-ltb}
use lib.Dec.{eqb, ltb}
use lib.ListN.{length}
use Rattle.linkstate.specs.Lists.{numbers, any, all, each, keep, empty}
use Rattle.linkstate.specs.Bytes.{words, distinct, bytes_of_words}
use Rattle.linkstate.specs.Kinds.{application_codes, is_code}
use Rattle.linkstate.specs.Masks.{in_number}
use Rattle.linkstate.specs.Replies.{accepted, fault, run_a}
use Rattle.linkstate.specs.Elements.{Element, element, cut, elements, faults}
use Rattle.linkstate.specs.Attributes.{Attribute, attribute, of_kind, srlgs, first_value, value_of}
use Rattle.linkstate.specs.Sides.{has_legacy}
use Rattle.linkstate.proofs.ListLaws.{and-false, all-mem, mem-numbers}
use Rattle.linkstate.proofs.WalkLaws.{then-first, then-second, not-accepted}
use Rattle.isis.specs.Types.{types, code_of_type, wrong_in_a}
use Rattle.isis.specs.RunA.{check_attribute, check_a, attributes_of, side_a}
use Rattle.isis.proofs.TypeLaws.{every-type, tested, wrong_of_code, right-code, none-wrong}
use Rattle.isis.proofs.Computing.{computing}
use Rattle.isis_check_a.specs.Legacy.{for_applications, is_legacy}
use Rattle.isis_check_a.proofs.Laws.{sub-tlv-other}

-- ---- types: below 40 each is a bit of a number, and from 40 on none carries such a kind

agree : Bool → Bool → Bool
agree true b = b
agree false b = not b

agree-eq : (a b : Bool) → agree a b ≡ true → a ≡ b
unfolding agree
agree-eq true b e = sym e
agree-eq false true e = absurd (false≢true e)
agree-eq false false e = refl

unfoldable pub bit_told : ℕ → ℕ → Bool
unfolding agree
bit_told m t = agree (in_number m t) (for_applications t)

pub type-bit : (m : ℕ) → all (bit_told m) (numbers 0 40) ≡ true → (t : ℕ) → t < 40 → in_number m t ≡ for_applications t
unfolding bit_told
type-bit m h t l =
    agree-eq (in_number m t) (for_applications t) (all-mem (bit_told m) (numbers 0 40) h (subst (λ (i : ℕ). Memᴰ i (numbers 0 40)) (zero-add t) (mem-numbers 40 0 t l)))

no-code-0 : any (λ k. eqb k 0) application_codes ≡ false
unfolding computing
no-code-0 = refl

unknown-type : (t : ℕ) → code_of_type t ≡ 0 → for_applications t ≡ false
unfolding for_applications
unknown-type t e = ap (λ (c : ℕ). any (λ k. eqb k c) application_codes) e ∙ no-code-0

low : ℕ → Bool
low t = not (ltb 39 t && for_applications t)

all-low : all (λ q. low q.type) types ≡ true
unfolding computing low for_applications
all-low = refl

every-low : (t : ℕ) → low t ≡ true
unfolding low
every-low = every-type (λ t. low t ≡ true) (tested low types all-low) (λ t e. ap (λ (b : Bool). not (ltb 39 t && b)) (unknown-type t e) ∙ ap not (and-false (ltb 39 t)))

pub type-high : (t : ℕ) → 40 ≤ t → for_applications t ≡ false
unfolding low
type-high t h = go (for_applications t) (ap (λ (b : Bool). not (b && for_applications t)) (sym (lt-ltb 39 t (omega arith))) ∙ every-low t)
  where
    go : (b : Bool) → not (true && b) ≡ true → b ≡ false
    go true e = absurd (false≢true e)
    go false e = refl

-- ---- a walk

or-false : (b : Bool) → b || false ≡ b
or-false true = refl
or-false false = refl

or_assoc : (x y z : Bool) → (x || y) || z ≡ x || (y || z)
or_assoc true y z = refl
or_assoc false y z = refl

asla-apart : for_applications 16 ≡ false
unfolding computing for_applications
asla-apart = refl

module _ (all : List Element) where
  -- What was met, with what is left, is what the whole run has.
  pub record Met (rest : List Element) (x : Bool) : Type 0 where
    pub meets : x || any is_legacy rest ≡ any is_legacy all

  pub met_start : Met all false
  met_start = record { meets = refl }

  module _ {es : List Element} {x : Bool} (m : Met es x) where
    pub met-end : es ≡ [] → x ≡ any is_legacy all
    unfolding any
    met-end e = sym (or-false x) ∙ ap (λ (es : List Element). x || any is_legacy es) (sym e) ∙ m.meets

    module _ {at t : ℕ} {v : List ℕ} {rest : List Element} (e : es ≡ element at t v ∷ rest) where
      pub met-on : (y : Bool) → y ≡ x || for_applications t → Met rest y
      unfolding any is_legacy
      met-on y f =
          record {
            meets = ap (λ (b : Bool). b || any is_legacy rest) f
                ∙ or_assoc x (for_applications t) (any is_legacy rest)
                ∙ ap (λ (es : List Element). x || any is_legacy es) (sym e)
                ∙ m.meets;
          }

      -- an ASLA is none of them
      pub met-asla : t ≡ 16 → Met rest x
      met-asla f = met-on x (sym (ap (λ (t : ℕ). x || for_applications t) f ∙ ap (λ (b : Bool). x || b) asla-apart ∙ or-false x))

-- ---- the side's legacy attributes

unfoldable pub is_of : ℕ → Element → Bool
is_of k (element at t v) = eqb k (code_of_type t)
is_of k (cut at) = false

fits-of : (at t : ℕ) (v : List ℕ) → check_attribute at t v ≡ accepted → wrong_in_a t (length v) ≡ false
unfolding check_attribute
fits-of at t v h = go (wrong_in_a t (length v)) h
  where
    go : (b : Bool) → cond b (fault 4 run_a at) accepted ≡ accepted → b ≡ false
    go true e = absurd (not-accepted 4 run_a at e)
    go false e = refl

-- A value of a known kind that passed its check has bytes.
module _ (k : ℕ) (known : is_code k ≡ true) (other : eqb k 1096 ≡ false) where
  not-asla : (t : ℕ) → k ≡ code_of_type t → t ≡ 16 → ⊥
  unfolding computing
  not-asla t e z = let n : is_code 0 ≡ true = subst (λ (c : ℕ). is_code c ≡ true) (e ∙ ap code_of_type z) known in false≢true n

  some_bytes : (at t : ℕ) (v : List ℕ) → k ≡ code_of_type t → check_a at t v ≡ accepted → empty v ≡ false
  unfolding empty
  some_bytes at t [] e h =
      let w = right-code 0 t (fits-of at t [] (sub-tlv-other at t [] (not-asla t e) ∙ h)) in
      absurd (false≢true (sym (subst (λ (c : ℕ). wrong_of_code c 0 ≡ false) (sym e) w) ∙ none-wrong k known other))
  some_bytes at t (x ∷ v) e h = refl

  -- So the legacy attributes have the kind exactly where an element of its type stands there.
  kind-stands : (es : List Element) → faults run_a check_a es ≡ accepted → not (empty (first_value (of_kind k (each attributes_of es)))) ≡ any (is_of k) es
  unfolding faults of_kind keep each any first_value empty is_of attributes_of attribute
  kind-stands [] h = refl
  kind-stands (cut at ∷ es) h = absurd (not-accepted 3 run_a at h)
  kind-stands (element at t v ∷ es) h =
      go (eqb k (code_of_type t)) refl (then-first (check_a at t v) (faults run_a check_a es) h) (kind-stands es (then-second (check_a at t v) (faults run_a check_a es) h))
    where
      value-some : (b : Bool) → empty v ≡ false → empty (cond b (0 ∷ v) v) ≡ false
      value-some true e = refl
      value-some false e = e

      go : (b : Bool) → eqb k (code_of_type t) ≡ b → check_a at t v ≡ accepted → not (empty (first_value (of_kind k (each attributes_of es)))) ≡ any (is_of k) es
          → not (empty (first_value (cond b (attribute 1 at v (code_of_type t) (cond (eqb t 18) (0 ∷ v) v) ∷ of_kind k (each attributes_of es)) (of_kind k (each attributes_of es))))) ≡ b || any (is_of k) es
      go true e p r = ap not (value-some (eqb t 18) (some_bytes at t v (eqb-true k (code_of_type t) e) p))
      go false e p r = r

-- No type carries SRLGs.
no-srlg : (t : ℕ) → eqb 1096 (code_of_type t) ≡ false
unfolding computing
no-srlg = every-type (λ t. eqb 1096 (code_of_type t) ≡ false) (refl, (refl, (refl, (refl, (refl, (refl, (refl, (refl, (refl, (refl, (refl, (refl, (refl, tt))))))))))))) (λ t e. ap (eqb 1096) e)

none-of-srlg : (es : List Element) → (of_kind 1096 (each attributes_of es) ≡ []) × (any (is_of 1096) es ≡ false)
unfolding of_kind keep each any is_of attributes_of attribute
none-of-srlg [] = (refl, refl)
none-of-srlg (cut at ∷ es) = none-of-srlg es
none-of-srlg (element at t v ∷ es) = rw (no-srlg t) (none-of-srlg es)

no-numbers : bytes_of_words (distinct (each (λ (t : Attribute). words t.value) [])) ≡ []
unfolding computing
no-numbers = refl

module _ (es : List Element) (ok : faults run_a check_a es ≡ accepted) where
  one-kind : (k : ℕ) → is_code k ≡ true → not (empty (value_of k (each attributes_of es))) ≡ any (is_of k) es
  unfolding value_of srlgs empty
  one-kind k known = go (eqb k 1096) refl
    where
      go : (b : Bool) → eqb k 1096 ≡ b
          → not (empty (cond b (bytes_of_words (distinct (each (λ t. words t.value) (of_kind 1096 (each attributes_of es))))) (first_value (of_kind k (each attributes_of es))))) ≡ any (is_of k) es
      go true e =
          let n = none-of-srlg es in
          ap (λ (ts : List Attribute). not (empty (bytes_of_words (distinct (each (λ t. words t.value) ts))))) n.0
          ∙ ap (λ (v : List ℕ). not (empty v)) no-numbers
          ∙ sym (ap (λ (i : ℕ). any (is_of i) es) (eqb-true k 1096 e) ∙ n.1)
      go false e = kind-stands k known e es ok

-- ---- over all kinds

any-alike : {A : Type 0} (p q : A → Bool) (xs : List A) → ((x : A) → Memᴰ x xs → p x ≡ q x) → any p xs ≡ any q xs
unfolding any
any-alike p q [] h = refl
any-alike p q (x ∷ xs) h = ap₂ ◌||◌ (h x (Memᴰ.head refl)) (any-alike p q xs (λ y i. h y (Memᴰ.tail i)))

any_none : {A : Type 0} (xs : List A) → any (λ x. false) xs ≡ false
unfolding any
any_none [] = refl
any_none (x ∷ xs) = any_none xs

or_swap : (a b c d : Bool) → (a || b) || (c || d) ≡ (a || c) || (b || d)
or_swap true b c d = refl
or_swap false true true d = refl
or_swap false true false d = refl
or_swap false false c d = refl

any-or : {A : Type 0} (p q : A → Bool) (xs : List A) → any (λ x. p x || q x) xs ≡ any p xs || any q xs
unfolding any
any-or p q [] = refl
any-or p q (x ∷ xs) = ap (λ (b : Bool). (p x || q x) || b) (any-or p q xs) ∙ or_swap (p x) (q x) (any p xs) (any q xs)

any_swap : {A B : Type 0} (f : A → B → Bool) (ks : List A) (es : List B) → any (λ k. any (f k) es) ks ≡ any (λ e. any (λ k. f k e) ks) es
unfolding any
any_swap f ks [] = any_none ks
any_swap f ks (e ∷ es) = any-or (λ k. f k e) (λ k. any (f k) es) ks ∙ ap (λ (b : Bool). any (λ k. f k e) ks || b) (any_swap f ks es)

all_known : all is_code application_codes ≡ true
unfolding computing
all_known = refl

legacy-of : (e : Element) → any (λ k. is_of k e) application_codes ≡ is_legacy e
unfolding is_of is_legacy for_applications
legacy-of (element at t v) = refl
legacy-of (cut at) = any_none application_codes

-- Of a run that passed its checks.
pub side-legacy : (a : List ℕ) → faults run_a check_a (elements 1 0 a) ≡ accepted → any is_legacy (elements 1 0 a) ≡ has_legacy (side_a a)
unfolding has_legacy side_a
side-legacy a ok =
    sym
    (any-alike (λ k. not (empty (value_of k (each attributes_of (elements 1 0 a))))) (λ k. any (is_of k) (elements 1 0 a)) application_codes
    (λ k i. one-kind (elements 1 0 a) ok k (all-mem is_code application_codes all_known i))
    ∙ any_swap is_of application_codes (elements 1 0 a)
    ∙ any-alike (λ e. any (λ k. is_of k e) application_codes) is_legacy (elements 1 0 a) (λ e i. legacy-of e))
