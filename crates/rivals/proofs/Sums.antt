-- Sums over a list. `parts` says that the elements of different classes weigh together at most what all weigh:
-- a run's length is bounded from below by it three times, by type, by class of ASLA, and by kind in an ASLA.
use mathlib.Core.Path.{◌≡◌, refl, sym, ap}
use mathlib.Core.Bool.{Bool, true, false, cond, not}
use mathlib.Core.List.{List, [], ◌∷◌, ◌++◌, map, Memᴰ}
use Prim.Native.Nat.{ℕ, ◌+◌, ◌*◌, ◌≤◌, zero-le}
use native.Mathlib.Nat.{le_refl, mul-suc}
use native.Mathlib.Omega.{arith}
use borrow.Author.Tests.{eqb-true, not-true}
use lib.Dec.{eqb}
use lib.ListN.{length}
use Rattle.linkstate.specs.Lists.{keep, each, member}
use Rattle.linkstate.proofs.ListLaws.{and_l, and_r, or_l, or_r, eqb-sym, different}

module _ {A : Type 0} where
  unfoldable pub sum_of : (A → ℕ) → List A → ℕ
  sum_of w [] = 0
  sum_of w (x ∷ xs) = w x + sum_of w xs

  -- Over the elements that pass the test.
  unfoldable pub sum_if : (A → Bool) → (A → ℕ) → List A → ℕ
  sum_if p w [] = 0
  sum_if p w (x ∷ xs) = cond (p x) (w x) 0 + sum_if p w xs

  sum_of-zero : (xs : List A) → sum_of (λ x. 0) xs ≡ 0
  unfolding sum_of
  sum_of-zero [] = refl
  sum_of-zero (x ∷ xs) = omega (arith, sum_of-zero xs)

  sum_of-add : (f g : A → ℕ) (xs : List A) → sum_of (λ x. f x + g x) xs ≡ sum_of f xs + sum_of g xs
  unfolding sum_of
  sum_of-add f g [] = refl
  sum_of-add f g (x ∷ xs) = omega (arith, sum_of-add f g xs)

  pub sum_of-le : (f g : A → ℕ) (xs : List A) → ((x : A) → Memᴰ x xs → f x ≤ g x) → sum_of f xs ≤ sum_of g xs
  unfolding sum_of
  sum_of-le f g [] h = le_refl 0
  sum_of-le f g (x ∷ xs) h = omega (arith, h x (Memᴰ.head refl), sum_of-le f g xs (λ y k. h y (Memᴰ.tail k)))

  pub sum_of-most : (w : A → ℕ) (n : ℕ) (xs : List A) → ((x : A) → Memᴰ x xs → w x ≤ n) → sum_of w xs ≤ n * length xs
  unfolding sum_of
  sum_of-most w n [] h = zero-le
  sum_of-most w n (x ∷ xs) h = omega (arith, mul-suc n (length xs), h x (Memᴰ.head refl), sum_of-most w n xs (λ y k. h y (Memᴰ.tail k)))

  pub sum_of-append : (f : A → ℕ) (xs ys : List A) → sum_of f (xs ++ ys) ≡ sum_of f xs + sum_of f ys
  unfolding sum_of
  sum_of-append f [] ys = omega arith
  sum_of-append f (x ∷ xs) ys = omega (arith, sum_of-append f xs ys)

  pub sum_of-keep : (p : A → Bool) (w : A → ℕ) (xs : List A) → sum_of w (keep p xs) ≡ sum_if p w xs
  unfolding sum_of sum_if keep
  sum_of-keep p w [] = refl
  sum_of-keep p w (x ∷ xs) = go (p x) (sum_of-keep p w xs)
    where
      go : (b : Bool) → sum_of w (keep p xs) ≡ sum_if p w xs → sum_of w (cond b (x ∷ keep p xs) (keep p xs)) ≡ cond b (w x) 0 + sum_if p w xs
      go true h = omega arith
      go false h = omega arith

  pub sum_if-add : (p : A → Bool) (f g : A → ℕ) (xs : List A) → sum_if p (λ x. f x + g x) xs ≡ sum_if p f xs + sum_if p g xs
  unfolding sum_if
  sum_if-add p f g [] = refl
  sum_if-add p f g (x ∷ xs) = go (p x) (sum_if-add p f g xs)
    where
      go : (b : Bool) → sum_if p (λ x. f x + g x) xs ≡ sum_if p f xs + sum_if p g xs
          → cond b (f x + g x) 0 + sum_if p (λ x. f x + g x) xs ≡ cond b (f x) 0 + sum_if p f xs + (cond b (g x) 0 + sum_if p g xs)
      go true h = omega arith
      go false h = omega arith

  pub sum_if-cond : (p : A → Bool) (w : A → ℕ) (xs : List A) → sum_if p w xs ≡ sum_of (λ x. cond (p x) (w x) 0) xs
  unfolding sum_if sum_of
  sum_if-cond p w [] = refl
  sum_if-cond p w (x ∷ xs) = ap (λ (n : ℕ). cond (p x) (w x) 0 + n) (sum_if-cond p w xs)

  -- One element weighs at most what all do.
  pub sum_of-one : (w : A → ℕ) {x : A} (xs : List A) → Memᴰ x xs → w x ≤ sum_of w xs
  unfolding sum_of
  sum_of-one w (y ∷ xs) (Memᴰ.head e) = rw (sym e) (omega arith)
  sum_of-one w (y ∷ xs) (Memᴰ.tail k) = omega (arith, sum_of-one w xs k)
  sum_of-one w [] m = elim m [ ]

  pub sum_if-one : (p : A → Bool) (w : A → ℕ) {x : A} (xs : List A) → Memᴰ x xs → p x ≡ true → w x ≤ sum_if p w xs
  unfolding sum_if
  sum_if-one p w (y ∷ xs) (Memᴰ.head e) h = rw (sym e, h) (omega arith)
  sum_if-one p w (y ∷ xs) (Memᴰ.tail k) h = omega (arith, sum_if-one p w xs k h)
  sum_if-one p w [] m h = elim m [ ]

  pub sum_if-mono : (p q : A → Bool) (w : A → ℕ) (xs : List A) → ((x : A) → p x ≡ true → q x ≡ true) → sum_if p w xs ≤ sum_if q w xs
  unfolding sum_if
  sum_if-mono p q w [] h = zero-le
  sum_if-mono p q w (x ∷ xs) h = go (p x) refl (sum_if-mono p q w xs h)
    where
      go : (b : Bool) → p x ≡ b → sum_if p w xs ≤ sum_if q w xs → cond b (w x) 0 + sum_if p w xs ≤ cond (q x) (w x) 0 + sum_if q w xs
      go true e k = rw (h x e) (omega arith)
      go false e k = omega arith

module _ {A B : Type 0} where
  pub sum_of-each : (w : B → ℕ) (f : A → List B) (xs : List A) → sum_of w (each f xs) ≡ sum_of (λ x. sum_of w (f x)) xs
  unfolding sum_of each
  sum_of-each w f [] = refl
  sum_of-each w f (x ∷ xs) = rw (sum_of-append w (f x) (each f xs), sum_of-each w f xs)

  pub sum_of-map : (w : B → ℕ) (f : A → B) (xs : List A) → sum_of w (map f xs) ≡ sum_of (λ x. w (f x)) xs
  unfolding sum_of
  sum_of-map w f [] = refl
  sum_of-map w f (x ∷ xs) = ap (λ (n : ℕ). w (f x) + n) (sum_of-map w f xs)

-- ---- the parts of a sum

pick-none : (t n : ℕ) (cs : List ℕ) → member t cs ≡ false → sum_of (λ c. cond (eqb c t) n 0) cs ≡ 0
unfolding sum_of member
pick-none t n [] h = refl
pick-none t n (c ∷ cs) h = rw (eqb-sym c t, or_l (eqb t c) (member t cs) h) (omega (arith, pick-none t n cs (or_r (eqb t c) (member t cs) h)))

-- Of different classes at most one is t.
pick-one : (t n : ℕ) (cs : List ℕ) → different cs ≡ true → sum_of (λ c. cond (eqb c t) n 0) cs ≤ n
unfolding sum_of different
pick-one t n [] h = zero-le
pick-one t n (c ∷ cs) h = go (eqb c t) refl (pick-one t n cs (and_r (not (member c cs)) (different cs) h))
  where
    go : (b : Bool) → eqb c t ≡ b → sum_of (λ c. cond (eqb c t) n 0) cs ≤ n → cond b n 0 + sum_of (λ c. cond (eqb c t) n 0) cs ≤ n
    go true e k = omega (arith, pick-none t n cs (rw (sym (eqb-true c t e)) (not-true _ (and_l (not (member c cs)) (different cs) h))))
    go false e k = omega arith

pub parts : {A : Type 0} (class : A → ℕ) (w : A → ℕ) (cs : List ℕ) → different cs ≡ true → (xs : List A)
    → sum_of (λ c. sum_if (λ x. eqb c (class x)) w xs) cs ≤ sum_of w xs
unfolding sum_of sum_if
parts class w cs h [] = omega (arith, sum_of-zero cs)
parts class w cs h (x ∷ xs) =
    rw (sum_of-add (λ c. cond (eqb c (class x)) (w x) 0) (λ c. sum_if (λ x. eqb c (class x)) w xs) cs)
    (omega (arith, pick-one (class x) (w x) cs h, parts class w cs h xs))
