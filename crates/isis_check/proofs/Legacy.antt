-- Whether run C has a value for RSVP-TE: exactly where it has a byte, since its length is a multiple of 4.
use mathlib.Core.Path.{◌≡◌, refl, sym, ap, ◌∙◌}
use mathlib.Core.Bool.{Bool, true, false, cond, ◌||◌, not}
use mathlib.Core.List.{List, [], ◌∷◌, ◌++◌}
use Prim.Native.Nat.{ℕ, ◌%◌, ◌<◌}
use native.Mathlib.Omega.{arith}
use borrow.Author.Tests.{ne_eqb}
use lib.Dec.{eqb, ltb}
use lib.ListN.{length}
use Rattle.linkstate.specs.Lists.{each, empty}
use Rattle.linkstate.specs.Bytes.{four, words, insert, distinct, bytes_of_words}
use Rattle.linkstate.specs.Sides.{has_legacy}
use Rattle.isis.specs.RunB.{side_b}
use Rattle.isis.proofs.Computing.{computing}

insert-some : (n : ℕ) (l : List ℕ) → empty (bytes_of_words (insert n l)) ≡ false
unfolding insert bytes_of_words each four empty
insert-some n [] = refl
insert-some n (m ∷ l) = go (ltb n m) (ltb m n)
  where
    go : (a b : Bool) → empty (bytes_of_words (cond a (n ∷ m ∷ l) (cond b (m ∷ insert n l) (m ∷ l)))) ≡ false
    go true b = refl
    go false true = refl
    go false false = refl

-- Some numbers have bytes.
pub some-numbers : (ns : List ℕ) → 0 < length ns → empty (bytes_of_words (distinct ns)) ≡ false
unfolding distinct
some-numbers [] h = absurd (omega arith)
some-numbers (n ∷ ns) h = insert-some n (distinct ns)

or-false : (b : Bool) → b || false ≡ b
or-false true = refl
or-false false = refl

by-numbers : (b c : List ℕ) → has_legacy (side_b b c) ≡ not (empty (bytes_of_words (distinct (words c ++ []))))
unfolding computing
by-numbers b c = or-false (not (empty (each four (distinct (words c ++ [])))))

no-numbers : false ≡ not (empty (bytes_of_words (distinct [])))
unfolding computing
no-numbers = refl

has-numbers : (c : List ℕ) → length c % 4 ≡ 0 → not (eqb (length c) 0) ≡ not (empty (bytes_of_words (distinct (words c ++ []))))
unfolding words
has-numbers [] e = no-numbers
has-numbers (x ∷ []) e = absurd (omega arith)
has-numbers (x ∷ y ∷ []) e = absurd (omega arith)
has-numbers (x ∷ y ∷ z ∷ []) e = absurd (omega arith)
has-numbers (w ∷ x ∷ y ∷ z ∷ c) e =
    ap not (ne_eqb (length (w ∷ x ∷ y ∷ z ∷ c)) 0 (λ i. omega (arith, i)) ∙ sym (some-numbers (words (w ∷ x ∷ y ∷ z ∷ c) ++ []) (omega arith)))

pub c-legacy : (b c : List ℕ) → length c % 4 ≡ 0 → not (eqb (length c) 0) ≡ has_legacy (side_b b c)
c-legacy b c e = has-numbers c e ∙ sym (by-numbers b c)
