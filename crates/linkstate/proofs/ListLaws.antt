-- Laws on the list functions of the definitions (keep, any, all, count, each, lookup, member) and on truth values.
use mathlib.Core.Path.{◌≡◌, refl, sym, ap, ap₂, ◌∙◌, subst}
use mathlib.Core.Logic.{◌⊎◌, inl, inr}
use mathlib.Core.Bool.{Bool, true, false, cond, ◌&&◌, ◌||◌, not, false≢true}
use mathlib.Core.List.Memᴰ
use mathlib.Core.List.{List, [], ◌∷◌, ◌++◌, map, append_assoc, Memᴰ}
use Prim.Native.Nat.{ℕ, zero, suc, ◌+◌, ◌≤◌, ◌<◌}
use native.Mathlib.Omega.{arith}
use borrow.Author.Tests.{eqb-true, eqb-false, eq-eqb, ne_eqb, not-true}
use lib.Dec.{eqb}
use lib.ListN.{length, get_or}
use Rattle.linkstate.specs.Lists.{numbers, keep, any, all, count, each, lookup, empty, member, same_bytes, same_rows}

-- ---- truth values

pub and_l : (a b : Bool) → a && b ≡ true → a ≡ true
and_l true b h = refl
and_l false b h = absurd (false≢true h)

pub and_r : (a b : Bool) → a && b ≡ true → b ≡ true
and_r true b h = h
and_r false b h = absurd (false≢true h)

pub and-false : (b : Bool) → b && false ≡ false
and-false true = refl
and-false false = refl

pub or_l : (a b : Bool) → a || b ≡ false → a ≡ false
or_l true b h = h
or_l false b h = refl

pub or_r : (a b : Bool) → a || b ≡ false → b ≡ false
or_r true b h = absurd (false≢true (sym h))
or_r false b h = h

-- A test that implies another adds nothing to it.
pub absorb : (x y : Bool) → (y ≡ true → x ≡ true) → x && y ≡ y
absorb true y h = refl
absorb false true h = h refl
absorb false false h = refl

pub eqb-sym : (a b : ℕ) → eqb a b ≡ eqb b a
eqb-sym a b = go (eqb a b) refl
  where
    go : (t : Bool) → eqb a b ≡ t → eqb a b ≡ eqb b a
    go true e = e ∙ sym (eq-eqb b a (sym (eqb-true a b e)))
    go false e = e ∙ sym (ne_eqb b a (λ d. eqb-false a b e (sym d)))

module _ {A : Type 0} where
  -- ---- any, all

  pub any-mem : (p : A → Bool) (xs : List A) → any p xs ≡ true → (x : A) × Memᴰ x xs × (p x ≡ true)
  unfolding any
  any-mem p [] h = absurd (false≢true h)
  any-mem p (x ∷ xs) h = go (p x) refl h (λ k. any-mem p xs k)
    where
      go : (b : Bool) → p x ≡ b → b || any p xs ≡ true → (any p xs ≡ true → (y : A) × Memᴰ y xs × (p y ≡ true)) → (y : A) × Memᴰ y (x ∷ xs) × (p y ≡ true)
      go true e k f = (x, Memᴰ.head refl, e)
      go false e k f = let r = f k in (r.0, Memᴰ.tail r.1, r.2)

  pub mem-any : (p : A → Bool) {x : A} (xs : List A) → Memᴰ x xs → p x ≡ true → any p xs ≡ true
  unfolding any
  mem-any p (y ∷ xs) (Memᴰ.head e) h = rw (sym e, h)
  mem-any p (y ∷ xs) (Memᴰ.tail k) h = go (p y) (mem-any p xs k h)
    where
      go : (b : Bool) → any p xs ≡ true → b || any p xs ≡ true
      go true e = refl
      go false e = e
  mem-any p [] x3 h = elim x3 [ ]

  pub any-no : (p : A → Bool) (xs : List A) → ((x : A) → Memᴰ x xs → p x ≡ false) → any p xs ≡ false
  unfolding any
  any-no p [] h = refl
  any-no p (x ∷ xs) h = rw (h x (Memᴰ.head refl)) (any-no p xs (λ y k. h y (Memᴰ.tail k)))

  pub any_append : (p : A → Bool) (xs ys : List A) → any p (xs ++ ys) ≡ any p xs || any p ys
  unfolding any
  any_append p [] ys = refl
  any_append p (x ∷ xs) ys = go (p x) (any_append p xs ys)
    where
      go : (b : Bool) → any p (xs ++ ys) ≡ any p xs || any p ys → b || any p (xs ++ ys) ≡ (b || any p xs) || any p ys
      go true e = refl
      go false e = e

  pub all-mem : (p : A → Bool) {x : A} (xs : List A) → all p xs ≡ true → Memᴰ x xs → p x ≡ true
  unfolding all
  all-mem p (y ∷ xs) h (Memᴰ.head e) = ap p e ∙ and_l (p y) (all p xs) h
  all-mem p (y ∷ xs) h (Memᴰ.tail k) = all-mem p xs (and_r (p y) (all p xs) h) k
  all-mem p [] h x3 = elim x3 [ ]

  -- ---- keep

  pub mem-keep : (p : A → Bool) {x : A} (xs : List A) → Memᴰ x xs → p x ≡ true → Memᴰ x (keep p xs)
  unfolding keep
  mem-keep p (y ∷ xs) (Memᴰ.head e) h = rw (subst (λ (z : A). p z ≡ true) e h) (Memᴰ.head e)
  mem-keep p {x = x} (y ∷ xs) (Memᴰ.tail k) h = go (p y) (mem-keep p xs k h)
    where
      go : (b : Bool) → Memᴰ x (keep p xs) → Memᴰ x (cond b (y ∷ keep p xs) (keep p xs))
      go true e = Memᴰ.tail e
      go false e = e
  mem-keep p {x = x} [] x3 h = elim x3 [ ]

  pub keep-mem : (p : A → Bool) {x : A} (xs : List A) → Memᴰ x (keep p xs) → (p x ≡ true) × Memᴰ x xs
  unfolding keep
  keep-mem p [] h = elim h [ ]
  keep-mem p {x = x} (y ∷ xs) h = go (p y) refl h (λ k. keep-mem p xs k)
    where
      go : (b : Bool) → p y ≡ b → Memᴰ x (cond b (y ∷ keep p xs) (keep p xs)) → (Memᴰ x (keep p xs) → (p x ≡ true) × Memᴰ x xs) → (p x ≡ true) × Memᴰ x (y ∷ xs)
      go true e k f = elim (Memᴰ.cases_cons k) [ inl d ↦ (ap p d ∙ e, Memᴰ.head d) | inr d ↦ ((f d).0, Memᴰ.tail (f d).1) ]
      go false e k f = ((f k).0, Memᴰ.tail (f k).1)

  pub keep_append : (p : A → Bool) (xs ys : List A) → keep p (xs ++ ys) ≡ keep p xs ++ keep p ys
  unfolding keep
  keep_append p [] ys = refl
  keep_append p (x ∷ xs) ys = go (p x) (keep_append p xs ys)
    where
      go : (b : Bool) → keep p (xs ++ ys) ≡ keep p xs ++ keep p ys → cond b (x ∷ keep p (xs ++ ys)) (keep p (xs ++ ys)) ≡ cond b (x ∷ keep p xs) (keep p xs) ++ keep p ys
      go true e = ap (λ (l : List A). x ∷ l) e
      go false e = e

  pub keep-ext : (p q : A → Bool) (xs : List A) → ((x : A) → Memᴰ x xs → p x ≡ q x) → keep p xs ≡ keep q xs
  unfolding keep
  keep-ext p q [] h = refl
  keep-ext p q (x ∷ xs) h = rw (h x (Memᴰ.head refl), keep-ext p q xs (λ y k. h y (Memᴰ.tail k)))

  pub keep-keep : (p q : A → Bool) (xs : List A) → keep p (keep q xs) ≡ keep (λ x. q x && p x) xs
  unfolding keep
  keep-keep p q [] = refl
  keep-keep p q (x ∷ xs) = go (q x) (keep-keep p q xs)
    where
      go : (b : Bool) → keep p (keep q xs) ≡ keep (λ x. q x && p x) xs → keep p (cond b (x ∷ keep q xs) (keep q xs)) ≡ cond (b && p x) (x ∷ keep (λ x. q x && p x) xs) (keep (λ x. q x && p x) xs)
      go true e = ap (λ (l : List A). cond (p x) (x ∷ l) l) e
      go false e = e

  pub keep-no : (p : A → Bool) (xs : List A) → ((x : A) → Memᴰ x xs → p x ≡ false) → keep p xs ≡ []
  unfolding keep
  keep-no p [] h = refl
  keep-no p (x ∷ xs) h = rw (h x (Memᴰ.head refl)) (keep-no p xs (λ y k. h y (Memᴰ.tail k)))

  -- ---- count

  keep-none : (p : A → Bool) (xs : List A) → count p xs ≡ 0 → keep p xs ≡ []
  unfolding keep count
  keep-none p [] h = refl
  keep-none p (x ∷ xs) h = go (p x) h (λ k. keep-none p xs k)
    where
      go : (b : Bool) → cond b (suc (count p xs)) (count p xs) ≡ 0 → (count p xs ≡ 0 → keep p xs ≡ []) → cond b (x ∷ keep p xs) (keep p xs) ≡ []
      go true e f = absurd (omega arith)
      go false e f = f e

  -- A test that one element passes leaves that one.
  pub keep_one : (p : A → Bool) (xs : List A) → count p xs ≡ 1 → (x : A) × Memᴰ x xs × (p x ≡ true) × (keep p xs ≡ x ∷ [])
  unfolding keep count
  keep_one p [] h = absurd (omega arith)
  keep_one p (x ∷ xs) h = go (p x) refl h (λ k. keep_one p xs k)
    where
      go : (b : Bool) → p x ≡ b → cond b (suc (count p xs)) (count p xs) ≡ 1
          → (count p xs ≡ 1 → (y : A) × Memᴰ y xs × (p y ≡ true) × (keep p xs ≡ y ∷ []))
          → (y : A) × Memᴰ y (x ∷ xs) × (p y ≡ true) × (cond b (x ∷ keep p xs) (keep p xs) ≡ y ∷ [])
      go true e k f = (x, Memᴰ.head refl, e, ap (λ (l : List A). x ∷ l) (keep-none p xs (omega arith)))
      go false e k f = let r = f k in (r.0, Memᴰ.tail r.1, r.2, r.3)

  -- Whether any passes a test, and how many, by those that are kept.
  pub any-keep : (p : A → Bool) (xs : List A) → any p xs ≡ not (empty (keep p xs))
  unfolding any keep empty
  any-keep p [] = refl
  any-keep p (x ∷ xs) = go (p x) (any-keep p xs)
    where
      go : (b : Bool) → any p xs ≡ not (empty (keep p xs)) → b || any p xs ≡ not (empty (cond b (x ∷ keep p xs) (keep p xs)))
      go true e = refl
      go false e = e

  pub count-keep : (p : A → Bool) (xs : List A) → count p xs ≡ length (keep p xs)
  unfolding count keep
  count-keep p [] = refl
  count-keep p (x ∷ xs) = go (p x) (count-keep p xs)
    where
      go : (b : Bool) → count p xs ≡ length (keep p xs) → cond b (suc (count p xs)) (count p xs) ≡ length (cond b (x ∷ keep p xs) (keep p xs))
      go true e = ap suc e
      go false e = e

  pub empty-nil : (v : List A) → empty v ≡ true → v ≡ []
  unfolding empty
  empty-nil [] h = refl
  empty-nil (b ∷ v) h = absurd (false≢true h)

-- ---- map, each

module _ {A B : Type 0} where
  pub keep-map : (p : B → Bool) (f : A → B) (xs : List A) → keep p (map f xs) ≡ map f (keep (λ x. p (f x)) xs)
  unfolding keep
  keep-map p f [] = refl
  keep-map p f (x ∷ xs) = go (p (f x)) (keep-map p f xs)
    where
      go : (b : Bool) → keep p (map f xs) ≡ map f (keep (λ x. p (f x)) xs) → cond b (f x ∷ keep p (map f xs)) (keep p (map f xs)) ≡ map f (cond b (x ∷ keep (λ x. p (f x)) xs) (keep (λ x. p (f x)) xs))
      go true e = ap (λ (l : List B). f x ∷ l) e
      go false e = e

  pub map-ext : (f g : A → B) (xs : List A) → ((x : A) → Memᴰ x xs → f x ≡ g x) → map f xs ≡ map g xs
  map-ext f g [] h = refl
  map-ext f g (x ∷ xs) h = rw (h x (Memᴰ.head refl), map-ext f g xs (λ y k. h y (Memᴰ.tail k)))

  pub map_at : (f g : A → B) {x : A} (xs : List A) → map f xs ≡ map g xs → Memᴰ x xs → f x ≡ g x
  map_at f g (y ∷ xs) h (Memᴰ.head e) = let z : f y ≡ g y = cc in ap f e ∙ z ∙ sym (ap g e)
  map_at f g (y ∷ xs) h (Memᴰ.tail k) = map_at f g xs (cc) k
  map_at f g [] h x3 = elim x3 [ ]

  pub map-mem : (f : A → B) {y : B} (xs : List A) → Memᴰ y (map f xs) → (x : A) × Memᴰ x xs × (y ≡ f x)
  map-mem f [] h = elim h [ ]
  map-mem f {y = y} (x ∷ xs) h = go (Memᴰ.cases_cons h) (λ k. map-mem f xs k)
    where
      go : (y ≡ f x) ⊎ Memᴰ y (map f xs) → (Memᴰ y (map f xs) → (x : A) × Memᴰ x xs × (y ≡ f x)) → (z : A) × Memᴰ z (x ∷ xs) × (y ≡ f z)
      go (inl e) r = (x, Memᴰ.head refl, e)
      go (inr k) r = let q = r k in (q.0, Memᴰ.tail q.1, q.2)

  pub mem-map : (f : A → B) {x : A} (xs : List A) → Memᴰ x xs → Memᴰ (f x) (map f xs)
  mem-map f (y ∷ xs) (Memᴰ.head e) = Memᴰ.head (ap f e)
  mem-map f (y ∷ xs) (Memᴰ.tail k) = Memᴰ.tail (mem-map f xs k)
  mem-map f [] x'' = elim x'' [ ]

  pub each_append : (f : A → List B) (xs ys : List A) → each f (xs ++ ys) ≡ each f xs ++ each f ys
  unfolding each
  each_append f [] ys = refl
  each_append f (x ∷ xs) ys = rw (each_append f xs ys) (sym (append_assoc (f x) (each f xs) (each f ys)))

  pub each-mem : (f : A → List B) {y : B} (xs : List A) → Memᴰ y (each f xs) → (x : A) × Memᴰ x xs × Memᴰ y (f x)
  unfolding each
  each-mem f [] h = elim h [ ]
  each-mem f {y = y} (x ∷ xs) h = go (Memᴰ.append_cases (f x) h) (λ k. each-mem f xs k)
    where
      go : Memᴰ y (f x) ⊎ Memᴰ y (each f xs) → (Memᴰ y (each f xs) → (z : A) × Memᴰ z xs × Memᴰ y (f z)) → (z : A) × Memᴰ z (x ∷ xs) × Memᴰ y (f z)
      go (inl k) r = (x, Memᴰ.head refl, k)
      go (inr k) r = let q = r k in (q.0, Memᴰ.tail q.1, q.2)

  pub map-append : (f : A → B) (xs ys : List A) → map f (xs ++ ys) ≡ map f xs ++ map f ys
  map-append f [] ys = refl
  map-append f (x ∷ xs) ys = ap (λ (l : List B). f x ∷ l) (map-append f xs ys)

-- ---- member, numbers

pub member-mem : (n : ℕ) (ns : List ℕ) → member n ns ≡ true → Memᴰ n ns
unfolding member
member-mem n [] h = absurd (false≢true h)
member-mem n (m ∷ ns) h = go (eqb n m) refl h (λ k. member-mem n ns k)
  where
    go : (b : Bool) → eqb n m ≡ b → b || member n ns ≡ true → (member n ns ≡ true → Memᴰ n ns) → Memᴰ n (m ∷ ns)
    go true e k f = Memᴰ.head (eqb-true n m e)
    go false e k f = Memᴰ.tail (f k)

pub mem-member : {n : ℕ} (ns : List ℕ) → Memᴰ n ns → member n ns ≡ true
unfolding member
mem-member {n} (m ∷ ns) (Memᴰ.head e) = rw (eq-eqb n m e)
mem-member {n} (m ∷ ns) (Memᴰ.tail k) = go (eqb n m) (mem-member ns k)
  where
    go : (b : Bool) → member n ns ≡ true → b || member n ns ≡ true
    go true e = refl
    go false e = e
mem-member {n = n} [] x' = elim x' [ ]

pub numbers-mem : (from n : ℕ) {b : ℕ} → Memᴰ b (numbers from n) → (from ≤ b) × (b < from + n)
unfolding numbers
numbers-mem from (suc n) (Memᴰ.head e) = omega arith
numbers-mem from (suc n) (Memᴰ.tail k) = omega (arith, numbers-mem (suc from) n k)
numbers-mem from zero {b = b} x' = elim x' [ ]

pub mem-numbers : (n from i : ℕ) → i < n → Memᴰ (from + i) (numbers from n)
unfolding numbers
mem-numbers zero from i h = absurd (omega arith)
mem-numbers (suc n) from zero h = Memᴰ.head {x = from} (omega arith)
mem-numbers (suc n) from (suc i) h = Memᴰ.tail (subst (λ (x : ℕ). Memᴰ x (numbers (suc from) n)) (omega arith) (mem-numbers n (suc from) i (omega arith)))

pub length-numbers : (n from : ℕ) → length (numbers from n) ≡ n
unfolding numbers
length-numbers zero from = refl
length-numbers (suc n) from = ap suc (length-numbers n (suc from))

-- The list of f at from, from + 1, ..
pub get_d-numbers : (f : ℕ → ℕ) (n from i : ℕ) → i < n → get_or (map f (numbers from n)) i 0 ≡ f (from + i)
unfolding numbers
get_d-numbers f zero from i h = absurd (omega arith)
get_d-numbers f (suc n) from zero h = ap f (omega arith)
get_d-numbers f (suc n) from (suc i) h = get_d-numbers f n (suc from) i (omega arith) ∙ ap f (omega arith)

-- The first number that passes a test is there and passes it.
pub first-mem : (p : ℕ → Bool) (ns : List ℕ) (d : ℕ) → any p ns ≡ true → Memᴰ (lookup p (λ n. n) d ns) ns × (p (lookup p (λ n. n) d ns) ≡ true)
unfolding any lookup
first-mem p [] d h = absurd (false≢true h)
first-mem p (n ∷ ns) d h = go (p n) refl h (λ k. first-mem p ns d k)
  where
    go : (b : Bool) → p n ≡ b → b || any p ns ≡ true → (any p ns ≡ true → Memᴰ (lookup p (λ n. n) d ns) ns × (p (lookup p (λ n. n) d ns) ≡ true))
        → Memᴰ (cond b n (lookup p (λ n. n) d ns)) (n ∷ ns) × (p (cond b n (lookup p (λ n. n) d ns)) ≡ true)
    go true e k f = (Memᴰ.head refl, e)
    go false e k f = (Memᴰ.tail (f k).0, (f k).1)

-- ---- different numbers

unfoldable pub different : List ℕ → Bool
unfolding member
different [] = true
different (c ∷ cs) = not (member c cs) && different cs

-- Of different numbers, one is equal to n where n is among them.
pub keep-number : (n : ℕ) (ns : List ℕ) → different ns ≡ true → keep (λ m. eqb n m) ns ≡ cond (member n ns) (n ∷ []) []
unfolding keep different member
keep-number n [] d = refl
keep-number n (m ∷ ns) d = go (eqb n m) refl (keep-number n ns (and_r (not (member m ns)) (different ns) d))
  where
    go : (b : Bool) → eqb n m ≡ b → keep (λ m. eqb n m) ns ≡ cond (member n ns) (n ∷ []) []
        → cond b (m ∷ keep (λ m. eqb n m) ns) (keep (λ m. eqb n m) ns) ≡ cond (b || member n ns) (n ∷ []) []
    go true e k =
        let q : n ≡ m = eqb-true n m e in
        let f : member n ns ≡ false = rw q (not-true (member m ns) (and_l (not (member m ns)) (different ns) d)) in
        let z : keep (λ m. eqb n m) ns ≡ [] = k ∙ rw f in
        rw z (ap (λ (x : ℕ). x ∷ []) (sym q))
    go false e k = k

-- ---- equal bytes, equal rows

pub bytes-refl : (x : List ℕ) → same_bytes x x ≡ true
unfolding same_bytes
bytes-refl [] = refl
bytes-refl (b ∷ x) = rw (eq-eqb b b refl) (bytes-refl x)

pub bytes_eq : (x y : List ℕ) → same_bytes x y ≡ true → x ≡ y
unfolding same_bytes
bytes_eq [] [] h = refl
bytes_eq [] (c ∷ y) h = absurd (false≢true h)
bytes_eq (b ∷ x) [] h = absurd (false≢true h)
bytes_eq (b ∷ x) (c ∷ y) h = ap₂ (λ (n : ℕ) (l : List ℕ). n ∷ l) (eqb-true b c (and_l (eqb b c) (same_bytes x y) h)) (bytes_eq x y (and_r (eqb b c) (same_bytes x y) h))

pub rows_refl : (x : List (List ℕ)) → same_rows x x ≡ true
unfolding same_rows
rows_refl [] = refl
rows_refl (b ∷ x) = rw (bytes-refl b) (rows_refl x)

pub rows_eq : (x y : List (List ℕ)) → same_rows x y ≡ true → x ≡ y
unfolding same_rows
rows_eq [] [] h = refl
rows_eq [] (c ∷ y) h = absurd (false≢true h)
rows_eq (b ∷ x) [] h = absurd (false≢true h)
rows_eq (b ∷ x) (c ∷ y) h =
    ap₂ (λ (n : List ℕ) (l : List (List ℕ)). n ∷ l) (bytes_eq b c (and_l (same_bytes b c) (same_rows x y) h)) (rows_eq x y (and_r (same_bytes b c) (same_rows x y) h))
