-- Small functions on lists that the definitions share: none is a rule by itself.
use Rattle.std.specs.Prelude.{Bool, true, false, cond, ◌&&◌, ◌||◌, List, [], ◌∷◌, ◌++◌, ℕ, zero, suc, ◌+◌, eqb, length, take, drop}

-- The numbers from, from + 1, .., of which there are n.
unfoldable pub numbers : ℕ → ℕ → List ℕ
numbers from zero = []
numbers from (suc n) = from ∷ numbers (suc from) n

module _ {A : Type 0} where
  -- The elements that pass the test, in order.
  unfoldable pub keep : (A → Bool) → List A → List A
  keep p [] = []
  keep p (x ∷ xs) = cond (p x) (x ∷ keep p xs) (keep p xs)

  -- Whether some element passes the test.
  unfoldable pub any : (A → Bool) → List A → Bool
  any p [] = false
  any p (x ∷ xs) = p x || any p xs

  -- Whether every element passes the test.
  unfoldable pub all : (A → Bool) → List A → Bool
  all p [] = true
  all p (x ∷ xs) = p x && all p xs

  -- How many elements pass the test.
  unfoldable pub count : (A → Bool) → List A → ℕ
  count p [] = 0
  count p (x ∷ xs) = cond (p x) (suc (count p xs)) (count p xs)

  -- The lists of each element, joined in order.
  unfoldable pub each : {B : Type 0} → (A → List B) → List A → List B
  each f [] = []
  each f (x ∷ xs) = f x ++ each f xs

  -- What f says of the first element that passes the test, else `other`.
  unfoldable pub lookup : {B : Type 0} → (A → Bool) → (A → B) → B → List A → B
  lookup p f other [] = other
  lookup p f other (x ∷ xs) = cond (p x) (f x) (lookup p f other xs)

  unfoldable pub empty : List A → Bool
  empty [] = true
  empty (x ∷ xs) = false

  -- What a lent buffer holds once vs is written at the offset: what is before and after stays.
  unfoldable pub put : List A → ℕ → List A → List A
  put d at vs = take at d ++ vs ++ drop (at + length vs) d

unfoldable pub member : ℕ → List ℕ → Bool
member n [] = false
member n (m ∷ ms) = eqb n m || member n ms

-- Whether two lists of bytes are equal.
unfoldable pub same_bytes : List ℕ → List ℕ → Bool
same_bytes [] [] = true
same_bytes [] (y ∷ ys) = false
same_bytes (x ∷ xs) [] = false
same_bytes (x ∷ xs) (y ∷ ys) = eqb x y && same_bytes xs ys

-- Whether two lists of values are equal, value by value.
unfoldable pub same_rows : List (List ℕ) → List (List ℕ) → Bool
same_rows [] [] = true
same_rows [] (y ∷ ys) = false
same_rows (x ∷ xs) [] = false
same_rows (x ∷ xs) (y ∷ ys) = same_bytes x y && same_rows xs ys
