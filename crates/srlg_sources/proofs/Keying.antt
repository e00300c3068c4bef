-- Keys by their sources: joined, sorted, and of sources that have none. Assumes nothing.
use Prim.Native.Nat.{ℕ, zero, suc, ◌-◌, ◌≤◌, ◌<◌, min}
use mathlib.Core.Path.{◌≡◌, refl, sym, ◌∙◌, ap, ap₂}
use mathlib.Core.Bool.{Bool, true, false, cond, ◌||◌, ◌&&◌, not}
use mathlib.Core.List.{List, [], ◌∷◌, ◌++◌, map}
use native.Mathlib.Omega.{arith}
use native.Mathlib.Nat.{sub-zero}
use borrow.Author.Tests.{ne_eqb, lt-ltb, ltb-true}
use lib.Dec.{eqb, ltb}
use lib.ListN.{length, get_or, take, length-take}
use Rattle.linkstate.specs.Lists.{member, keep, count, all}
use Rattle.linkstate.proofs.ListLaws.{map-append, keep_append, and_l, and_r, map-mem, mem-map, member-mem, mem-member, keep-mem}
use Rattle.srlg_ranks.specs.Ranks.{in_words}
use Rattle.key_sort.specs.Keys.{number, group, Climbs, Same, Sorted}
use Rattle.key_sort.proofs.Groups.{same_length}
use Rattle.srlg_sources.specs.Sources.{Small, key_of, source_of, in_rows, numbers_of, Ranked, Ordered}

-- ---- joined

pub numbers-append : (j : ℕ) (xs ys : List ℕ) → numbers_of j (xs ++ ys) ≡ numbers_of j xs ++ numbers_of j ys
unfolding numbers_of group
numbers-append j xs ys =
    let p : ℕ → Bool = λ x. eqb (source_of x) j in
    ap (map number) (keep_append p xs ys) ∙ map-append number (keep p xs) (keep p ys)

source-of : (s w : ℕ) → w < 4294967296 → source_of (key_of s w) ≡ s
unfolding source_of key_of
source-of s w h = omega arith

number_of : (s w : ℕ) → w < 4294967296 → number (key_of s w) ≡ w
unfolding number key_of
number_of s w h = omega arith

no_number : (b : Bool) → ◌≡◌ {A = List ℕ} [] (cond b [] [])
no_number true = refl
no_number false = refl

-- The keys of a source are its numbers, and none of another's.
pub numbers-own : (j s : ℕ) (ws : List ℕ) → Small ws → numbers_of j (map (key_of s) ws) ≡ cond (eqb s j) ws []
unfolding numbers_of group keep
numbers-own j s [] h = no_number (eqb s j)
numbers-own j s (w ∷ ws) h = ap (λ (i : ℕ). map number (cond (eqb i j) (key_of s w ∷ group source_of j (map (key_of s) ws)) (group source_of j (map (key_of s) ws)))) (source-of s w (h 0)) ∙ go (eqb s j) (numbers-own j s ws (λ i. h (suc i)))
  where
    go : (b : Bool) → numbers_of j (map (key_of s) ws) ≡ cond b ws [] → map number (cond b (key_of s w ∷ group source_of j (map (key_of s) ws)) (group source_of j (map (key_of s) ws))) ≡ cond b (w ∷ ws) []
    go true e = ap₂ (λ (x : ℕ) (l : List ℕ). x ∷ l) (number_of s w (h 0)) e
    go false e = e

-- A source beyond those that keys have.
pub numbers-beyond : (j n : ℕ) (xs : List ℕ) → n ≤ j → all (in_rows n) xs ≡ true → numbers_of j xs ≡ []
unfolding numbers_of group keep all in_rows
numbers-beyond j n [] h e = refl
numbers-beyond j n (x ∷ xs) h e =
    let l = ltb-true (source_of x) n (and_l (ltb (source_of x) n) (all (in_rows n) xs) e) in
    rw (ne_eqb (source_of x) j (λ f. omega arith)) (numbers-beyond j n xs h (and_r (ltb (source_of x) n) (all (in_rows n) xs) e))

-- The numbers of a source are numbers of the keys.
pub of-keys : (w j : ℕ) (l : List ℕ) → member w (numbers_of j l) ≡ true → member w (map number l) ≡ true
unfolding numbers_of group
of-keys w j l h =
    let p : ℕ → Bool = λ y. eqb (source_of y) j in
    let (x, m, e) = map-mem number (keep p l) (member-mem w (map number (keep p l)) h) in
    rw e (mem-member (map number l) (mem-map number l (keep-mem p l m).1))

-- ---- all in rows

pub all_append : (p : ℕ → Bool) (xs ys : List ℕ) → all p xs ≡ true → all p ys ≡ true → all p (xs ++ ys) ≡ true
unfolding all
all_append p [] ys e f = f
all_append p (x ∷ xs) ys e f = ap₂ (λ (a b : Bool). a && b) (and_l (p x) (all p xs) e) (all_append p xs ys (and_r (p x) (all p xs) e) f)

pub all_more : (p q : ℕ → Bool) (xs : List ℕ) → ((x : ℕ) → p x ≡ true → q x ≡ true) → all p xs ≡ true → all q xs ≡ true
unfolding all
all_more p q [] h e = refl
all_more p q (x ∷ xs) h e = ap₂ (λ (a b : Bool). a && b) (h x (and_l (p x) (all p xs) e)) (all_more p q xs h (and_r (p x) (all p xs) e))

pub rows_more : (n m x : ℕ) → n ≤ m → in_rows n x ≡ true → in_rows m x ≡ true
unfolding in_rows
rows_more n m x h e = lt-ltb (source_of x) m (omega (arith, ltb-true (source_of x) n e))

pub own-rows : (s n : ℕ) (ws : List ℕ) → s < n → Small ws → all (in_rows n) (map (key_of s) ws) ≡ true
unfolding all in_rows
own-rows s n [] l h = refl
own-rows s n (w ∷ ws) l h = rw (source-of s w (h 0), lt-ltb s n l) (own-rows s n ws l (λ i. h (suc i)))

-- ---- sorted

positive : ℕ → Bool
positive zero = false
positive (suc n) = true

group-count : (v j : ℕ) (xs : List ℕ) → member v (numbers_of j xs) ≡ positive (count (λ x. eqb (source_of x) j && eqb v (number x)) xs)
unfolding numbers_of group keep member count positive
group-count v j [] = refl
group-count v j (x ∷ xs) = go (eqb (source_of x) j) (eqb v (number x)) refl (group-count v j xs)
  where
    p : ℕ → Bool
    p y = eqb (source_of y) j && eqb v (number y)

    go : (a b : Bool) → eqb v (number x) ≡ b → member v (numbers_of j xs) ≡ positive (count (λ x. eqb (source_of x) j && eqb v (number x)) xs)
        → member v (map number (cond a (x ∷ group source_of j xs) (group source_of j xs)))
        ≡ positive (cond (a && b) (suc (count (λ x. eqb (source_of x) j && eqb v (number x)) xs)) (count (λ x. eqb (source_of x) j && eqb v (number x)) xs))
    go true true e ih = rw e
    go true false e ih = rw e ih
    go false b e ih = ih

-- The same keys have the same numbers of each source.
pub same-members : (v j : ℕ) (ys xs : List ℕ) → Same ys xs → member v (numbers_of j ys) ≡ member v (numbers_of j xs)
same-members v j ys xs h = group-count v j ys ∙ ap positive (h (λ x. eqb (source_of x) j && eqb v (number x))) ∙ sym (group-count v j xs)

all-count : (p : ℕ → Bool) (xs : List ℕ) → all p xs ≡ not (positive (count (λ x. not (p x)) xs))
unfolding all count positive
all-count p [] = refl
all-count p (x ∷ xs) = go (p x) (all-count p xs)
  where
    go : (b : Bool) → all p xs ≡ not (positive (count (λ x. not (p x)) xs)) → b && all p xs ≡ not (positive (cond (not b) (suc (count (λ x. not (p x)) xs)) (count (λ x. not (p x)) xs)))
    go true e = e
    go false e = refl

pub same-all : (p : ℕ → Bool) (ys xs : List ℕ) → Same ys xs → all p xs ≡ true → all p ys ≡ true
same-all p ys xs h e = all-count p ys ∙ ap (λ (n : ℕ). not (positive n)) (h (λ x. not (p x))) ∙ sym (all-count p xs) ∙ e

-- What the ranks of sorted keys say of the keys as they were.
pub ordered : (keys sorted values : List ℕ) (r : ℕ) (rows after : List (List ℕ)) → r ≤ length values → Sorted number keys sorted → Ranked sorted values r rows after → Ordered keys values r rows after
ordered keys sorted values r rows after room s k =
    record {
      few = omega (arith, k.few, same_length sorted keys s.same);
      room = room;
      numbers = k.numbers ∙ s.numbers;
      wide = k.wide;
      bits = λ j i w h. k.bits j i w h ∙ ap (λ (b : Bool). in_words (get_or rows j []) i || (ltb i r && b)) (same-members (get_or values i 0) j sorted keys s.same);
      masks = k.masks;
    }

-- The front of a list that was sorted, as it is lent.
module _ (keys after : List ℕ) (m : ℕ) where
  pub first-climbs : Sorted number (take m keys) (take m after) → Climbs number (take (m - 0) after)
  first-climbs s = rw (sub-zero m) s.climbs

  pub first-length : m ≤ length keys → Sorted number (take m keys) (take m after) → length (take (m - 0) after) ≡ m
  first-length h s = rw (sub-zero m) (same_length (take m after) (take m keys) s.same ∙ length-take m keys ∙ (let n : min m (length keys) ≡ m = omega arith in n))

pub first_rows : (n : ℕ) (keys after : List ℕ) (m : ℕ) → Sorted number (take m keys) (take m after) → all (in_rows n) (take m keys) ≡ true → all (in_rows n) (take (m - 0) after) ≡ true
first_rows n keys after m s e = rw (sub-zero m) (same-all (in_rows n) (take m after) (take m keys) s.same e)

pub first-ordered : (keys after : List ℕ) (m : ℕ) (values : List ℕ) (r : ℕ) (rows rows' : List (List ℕ)) → r ≤ length values → Sorted number (take m keys) (take m after)
    → Ranked (take (m - 0) after) values r rows rows' → Ordered (take m keys) values r rows rows'
first-ordered keys after m values r rows rows' h s k = ordered (take m keys) (take m after) values r rows rows' h s (rw (sub-zero m) at k)
