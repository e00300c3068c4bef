-- Further laws of lists: what a test chooses, what is looked up, and bounds of sums. Assumes nothing.
use mathlib.Core.Path.{◌≡◌, refl, ap, ◌∙◌}
use mathlib.Core.Logic.{◌⊎◌, inl, inr}
use mathlib.Core.Bool.{Bool, true, false, cond, ◌&&◌, ◌||◌}
use mathlib.Core.List.{List, [], ◌∷◌, Memᴰ}
use Prim.Native.Nat.{ℕ, ◌+◌, ◌≤◌, zero-le}
use native.Mathlib.Omega.{arith}
use Rattle.linkstate.specs.Lists.{keep, any, lookup}
use Rattle.linkstate.proofs.ListLaws.{and-false, or_l, or_r, absorb, keep-ext, keep-keep}
use Rattle.rivals.proofs.Sums.{sum_of}

-- A predicate that both branches have.
pub of-cond : {A : Type 0} (P : A → Type 0) (b : Bool) (x y : A) → P x → P y → P (cond b x y)
of-cond P true x y p q = p
of-cond P false x y p q = q

and-true : (a : Bool) → a && true ≡ a
and-true true = refl
and-true false = refl

module _ {A : Type 0} where
  -- ---- tests over a list

  pub any_false : (p : A → Bool) {x : A} (xs : List A) → any p xs ≡ false → Memᴰ x xs → p x ≡ false
  unfolding any
  any_false p [] h m = elim m [ ]
  any_false p (y ∷ xs) h (Memᴰ.head e) = ap p e ∙ or_l (p y) (any p xs) h
  any_false p (y ∷ xs) h (Memᴰ.tail k) = any_false p xs (or_r (p y) (any p xs) h) k

  -- A test on those that pass another.
  pub any-kept : (q p : A → Bool) (xs : List A) → any (λ x. q x && p x) xs ≡ any q (keep p xs)
  unfolding any keep
  any-kept q p [] = refl
  any-kept q p (x ∷ xs) = go (p x) (any-kept q p xs)
    where
      go : (b : Bool) → any (λ x. q x && p x) xs ≡ any q (keep p xs) → (q x && b) || any (λ x. q x && p x) xs ≡ any q (cond b (x ∷ keep p xs) (keep p xs))
      go true h = rw (and-true (q x), h)
      go false h = rw (and-false (q x), h)

  -- A test that implies another needs only those that pass the other.
  pub keep-kept : (p q : A → Bool) (xs : List A) → ((x : A) → p x ≡ true → q x ≡ true) → keep p (keep q xs) ≡ keep p xs
  keep-kept p q xs h = keep-keep p q xs ∙ keep-ext (λ x. q x && p x) p xs (λ x i. absorb (q x) (p x) (h x))

  -- ---- sums

  pub sum_of-keep-le : (p : A → Bool) (w : A → ℕ) (xs : List A) → sum_of w (keep p xs) ≤ sum_of w xs
  unfolding keep sum_of
  sum_of-keep-le p w [] = zero-le
  sum_of-keep-le p w (x ∷ xs) = go (p x) (sum_of-keep-le p w xs)
    where
      go : (b : Bool) → sum_of w (keep p xs) ≤ sum_of w xs → sum_of w (cond b (x ∷ keep p xs) (keep p xs)) ≤ w x + sum_of w xs
      go true h = omega arith
      go false h = omega arith

module _ {A B : Type 0} where
  -- What is looked up comes from an element that passes the test, or is the value for "none".
  pub lookup-cases : (p : A → Bool) (f : A → B) (other : B) (xs : List A)
      → ((x : A) × Memᴰ x xs × (p x ≡ true) × (lookup p f other xs ≡ f x)) ⊎ (lookup p f other xs ≡ other)
  unfolding lookup
  lookup-cases p f other [] = inr refl
  lookup-cases p f other (x ∷ xs) = go (p x) refl (lookup-cases p f other xs)
    where
      go : (b : Bool) → p x ≡ b → ((y : A) × Memᴰ y xs × (p y ≡ true) × (lookup p f other xs ≡ f y)) ⊎ (lookup p f other xs ≡ other)
          → ((y : A) × Memᴰ y (x ∷ xs) × (p y ≡ true) × (cond b (f x) (lookup p f other xs) ≡ f y)) ⊎ (cond b (f x) (lookup p f other xs) ≡ other)
      go true e r = inl (x, Memᴰ.head refl, e, refl)
      go false e (inl q) = inl (q.0, Memᴰ.tail q.1, q.2, q.3)
      go false e (inr q) = inr q
