-- What holds of every element of a list.
use mathlib.Core.Path.{◌≡◌, refl, sym, subst}
use mathlib.Core.Bool.{Bool, true, false}
use mathlib.Core.Logic.{◌⊎◌, inl, inr}
use mathlib.Core.List.Memᴰ
use mathlib.Core.List.{List, [], ◌∷◌, ◌++◌, Memᴰ}
use Prim.Native.Nat.{ℕ}
use borrow.Author.Tests.{eqb-true, eqb-false, eq-eqb, ne_eqb}
use lib.Dec.{eqb}
use Rattle.linkstate.specs.Lists.{each}

module _ {A : Type 0} where
  abbrev pub All : (A → Type 0) → List A → Type 0
  All P [] = Unit {0}
  All P (x ∷ xs) = P x × All P xs

  pub all_append : (P : A → Type 0) (xs ys : List A) → All P xs → All P ys → All P (xs ++ ys)
  all_append P [] ys h g = g
  all_append P (x ∷ xs) ys h g = (h.0, all_append P xs ys h.1 g)

  -- and of a member
  pub all-member : (P : A → Type 0) (xs : List A) → All P xs → (x : A) → Memᴰ x xs → P x
  all-member P [] h x m = elim m [ ]
  all-member P (y ∷ ys) h x m = go (Memᴰ.cases_cons m) (λ i. all-member P ys h.1 x i)
    where
      go : (x ≡ y) ⊎ Memᴰ x ys → (Memᴰ x ys → P x) → P x
      go (inl e) f = subst P (sym e) h.0
      go (inr i) f = f i

pub all-each : {A B : Type 0} (P : B → Type 0) (f : A → List B) (xs : List A) → ((x : A) → Memᴰ x xs → All P (f x)) → All P (each f xs)
unfolding each
all-each P f [] h = tt
all-each P f (x ∷ xs) h = all_append P (f x) (each f xs) (h x (Memᴰ.head refl)) (all-each P f xs (λ y m. h y (Memᴰ.tail m)))

pub eqb_swap : (x y : ℕ) → eqb x y ≡ eqb y x
eqb_swap x y = go (eqb x y) refl
  where
    go : (b : Bool) → eqb x y ≡ b → b ≡ eqb y x
    go true e = sym (eq-eqb y x (sym (eqb-true x y e)))
    go false e = sym (ne_eqb y x (λ h. eqb-false x y e (sym h)))
