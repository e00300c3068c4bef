-- Whether attributes have a value of a kind, attribute by attribute. Assumes nothing.
use mathlib.Core.Path.{◌≡◌, refl, sym, ap, ap₂, ◌∙◌, subst}
use mathlib.Core.Bool.{Bool, true, false, cond, ◌&&◌, ◌||◌, not, false≢true}
use mathlib.Core.List.{List, [], ◌∷◌, ◌++◌, map}
use Prim.Native.Nat.{ℕ}
use native.Mathlib.Omega.{arith}
use native.Mathlib.Nat.{add-zero}
use borrow.Author.Tests.{eqb-true, le-leb, lt-leb}
use lib.Dec.{eqb, leb, ltb}
use lib.ListN.{length}
use Rattle.linkstate.specs.Lists.{keep, any, each, empty}
use Rattle.linkstate.specs.Bytes.{words, insert, distinct}
use Rattle.linkstate.specs.Elements.{Element, element, cut, elements}
use Rattle.linkstate.specs.Attributes.{Attribute, of_kind, srlgs}
use Rattle.linkstate.specs.Sides.{Advertisement}
use Rattle.linkstate.specs.Why.{has}
use Rattle.linkstate.proofs.ListLaws.{any_append, any-keep}
use Rattle.linkstate.proofs.ElementLaws.{moved, elements-moved}
use Rattle.srlg.proofs.Laws.{length-words}
use Rattle.advertisements.specs.Tests.{is_of}

-- ---- lists

module _ {A : Type 0} where
  pub any_same : (p q : A → Bool) → ((x : A) → p x ≡ q x) → (xs : List A) → any p xs ≡ any q xs
  unfolding any
  any_same p q f [] = refl
  any_same p q f (x ∷ xs) = ap₂ (λ (b c : Bool). b || c) (f x) (any_same p q f xs)

  pub any-more : (p q : A → Bool) → ((x : A) → p x ≡ true → q x ≡ true) → (xs : List A) → any p xs ≡ true → any q xs ≡ true
  unfolding any
  any-more p q f [] h = h
  any-more p q f (x ∷ xs) h = go (p x) refl h (q x) refl (any-more p q f xs)
    where
      go : (b : Bool) → p x ≡ b → (b || any p xs) ≡ true → (c : Bool) → q x ≡ c → (any p xs ≡ true → any q xs ≡ true) → (c || any q xs) ≡ true
      go b e g true i r = refl
      go true e g false i r = absurd (false≢true (sym i ∙ f x e))
      go false e g false i r = r g

  pub any-each : {B : Type 0} (q : B → Bool) (f : A → List B) (xs : List A) → any (λ x. any q (f x)) xs ≡ any q (each f xs)
  unfolding any each
  any-each q f [] = refl
  any-each q f (x ∷ xs) = ap (λ (b : Bool). any q (f x) || b) (any-each q f xs) ∙ sym (any_append q (f x) (each f xs))

  any-map : {B : Type 0} (q : B → Bool) (f : A → B) (xs : List A) → any q (map f xs) ≡ any (λ x. q (f x)) xs
  unfolding any
  any-map q f [] = refl
  any-map q f (x ∷ xs) = ap (λ (b : Bool). q (f x) || b) (any-map q f xs)

pub and-true : (b : Bool) → (b && true) ≡ b
and-true true = refl
and-true false = refl

-- A kind is told by no offset.
pub kind-moved : (k w base : ℕ) (s : List ℕ) → any (is_of k) (elements w base s) ≡ any (is_of k) (elements w 0 s)
unfolding is_of moved
kind-moved k w base s =
    ap (λ (i : ℕ). any (is_of k) (elements w i s)) (sym (add-zero base)) ∙ ap (any (is_of k)) (elements-moved w base 0 s) ∙ any-map (is_of k) (moved base)
    (elements w 0 s)
    ∙ any_same (λ e. is_of k (moved base e)) (is_of k) same (elements w 0 s)
  where
    same : (e : Element) → is_of k (moved base e) ≡ is_of k e
    same (element at t v) = refl
    same (cut at) = refl

-- ---- SRLG values

some-four : (s : List ℕ) → not (empty (words s)) ≡ leb 4 (length s)
unfolding empty
some-four s = go (words s) refl
  where
    go : (ws : List ℕ) → words s ≡ ws → not (empty ws) ≡ leb 4 (length s)
    go [] e = let n = ap length e in sym (lt-leb 4 (length s) (omega (arith, length-words s)))
    go (w ∷ ws) e = let n = ap length e in sym (le-leb 4 (length s) (omega (arith, length-words s)))

empty-distinct : (ws : List ℕ) → empty (distinct ws) ≡ empty ws
unfolding distinct empty insert
empty-distinct [] = refl
empty-distinct (w ∷ ws) = go (distinct ws)
  where
    go : (l : List ℕ) → empty (insert w l) ≡ false
    go [] = refl
    go (m ∷ ms) = at (ltb w m) (ltb m w)
      where
        at : (b c : Bool) → empty (cond b (w ∷ m ∷ ms) (cond c (m ∷ insert w ms) (m ∷ ms))) ≡ false
        at true c = refl
        at false true = refl
        at false false = refl

empty-append : (x y : List ℕ) → not (empty (x ++ y)) ≡ not (empty x) || not (empty y)
unfolding empty
empty-append [] y = refl
empty-append (w ∷ x) y = refl

srlg-some : (ts : List Attribute)
    → not (empty (each (λ t. words t.value) (keep (λ t. eqb 1096 t.code) ts))) ≡ any (λ t. eqb 1096 t.code && leb 4 (length t.value)) ts
unfolding keep each any empty
srlg-some [] = refl
srlg-some (t ∷ ts) = go (eqb 1096 t.code) (srlg-some ts)
  where
    rest : List Attribute
    rest = keep (λ t. eqb 1096 t.code) ts

    go : (b : Bool) → not (empty (each (λ t. words t.value) rest)) ≡ any (λ t. eqb 1096 t.code && leb 4 (length t.value)) ts
        → not (empty (each (λ t. words t.value) (cond b (t ∷ rest) rest))) ≡ (b && leb 4 (length t.value)) || any
        (λ t. eqb 1096 t.code && leb 4 (length t.value)) ts
    go false h = h
    go true h = empty-append (words t.value) (each (λ t. words t.value) rest) ∙ ap₂ (λ (x y : Bool). x || y) (some-four t.value) h

-- ---- any kind

-- An attribute of a kind; of SRLG, with a number.
unfoldable pub hit : ℕ → Attribute → Bool
hit k t = eqb k t.code && (not (eqb k 1096) || leb 4 (length t.value))

has-srlg : (ts : List Attribute) → has 1096 ts ≡ any (hit 1096) ts
unfolding has hit srlgs of_kind
has-srlg ts = ap not (empty-distinct (each (λ t. words t.value) (keep (λ t. eqb 1096 t.code) ts))) ∙ srlg-some ts

hit_other : (k : ℕ) (t : Attribute) → eqb k 1096 ≡ false → eqb k t.code ≡ hit k t
unfolding hit
hit_other k t n = rw n (sym (and-true (eqb k t.code)))

has_other : (k : ℕ) (ts : List Attribute) → eqb k 1096 ≡ false → has k ts ≡ any (hit k) ts
unfolding has of_kind
has_other k ts n = rw n (sym (any-keep (λ t. eqb k t.code) ts) ∙ any_same (λ t. eqb k t.code) (hit k) (λ t. hit_other k t n) ts)

pub has-is : (k : ℕ) (ts : List Attribute) → has k ts ≡ any (hit k) ts
has-is k ts = go (eqb k 1096) refl
  where
    go : (b : Bool) → eqb k 1096 ≡ b → has k ts ≡ any (hit k) ts
    go true e = subst (λ (i : ℕ). has i ts ≡ any (hit i) ts) (sym (eqb-true k 1096 e)) (has-srlg ts)
    go false e = has_other k ts e

-- Those of advertisements that pass, together: one of them has it.
pub has-live : (k : ℕ) (p : Advertisement → Bool) (ds : List Advertisement)
    → has k (each (λ d. d.attributes) (keep p ds)) ≡ any (λ d. p d && has k d.attributes) ds
unfolding keep each any
has-live k p ds = has-is k (each (λ d. d.attributes) (keep p ds)) ∙ go ds
  where
    go : (ds : List Advertisement) → any (hit k) (each (λ d. d.attributes) (keep p ds)) ≡ any (λ d. p d && has k d.attributes) ds
    go [] = refl
    go (d ∷ ds) = at (p d) (go ds)
      where
        at : (b : Bool) → any (hit k) (each (λ d. d.attributes) (keep p ds)) ≡ any (λ d. p d && has k d.attributes) ds
            → any (hit k) (each (λ d. d.attributes) (cond b (d ∷ keep p ds) (keep p ds))) ≡ (b && has k d.attributes) || any (λ d. p d && has k d.attributes) ds
        at false h = h
        at true h = any_append (hit k) d.attributes (each (λ d. d.attributes) (keep p ds)) ∙ ap₂ (λ (x y : Bool). x || y) (sym (has-is k d.attributes)) h
