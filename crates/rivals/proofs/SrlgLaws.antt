-- SRLG values in their written form, ascending without repeats: their bytes give back the numbers (`words-fours`), and to bring them into this
-- form twice is to do so once (`canonical-twice`).
use mathlib.Core.Path.{◌≡◌, refl, ap, ap₂, ◌∙◌}
use mathlib.Core.Logic.{◌⊎◌, inl, inr}
use mathlib.Core.Bool.{Bool, true, false, cond}
use mathlib.Core.List.Memᴰ
use mathlib.Core.List.{List, [], ◌∷◌, Memᴰ}
use Prim.Native.Nat.{ℕ, ◌+◌, ◌*◌, ◌/◌, ◌%◌, ◌<◌}
use native.Mathlib.Omega.{arith}
use borrow.Author.Tests.{ltb-true, lt-ltb}
use lib.Dec.{ltb}
use Rattle.linkstate.specs.Lists.{each}
use Rattle.linkstate.specs.Bytes.{number_from, number, words, insert, distinct, four, bytes_of_words}

data Ascending : List ℕ → Type 0 where
  none : Ascending []
  more : {n : ℕ} {ns : List ℕ} → ((x : ℕ) → Memᴰ x ns → n < x) → Ascending ns → Ascending (n ∷ ns)

insert-mem : (n x : ℕ) (ms : List ℕ) → Memᴰ x (insert n ms) → (x ≡ n) ⊎ Memᴰ x ms
unfolding insert
insert-mem n x [] h = Memᴰ.cases_cons h
insert-mem n x (m ∷ ms) h = go (ltb n m) (ltb m n) h (λ k. insert-mem n x ms k)
  where
    here : (x ≡ n) ⊎ Memᴰ x ms → (x ≡ n) ⊎ Memᴰ x (m ∷ ms)
    here (inl e) = inl e
    here (inr d) = inr (Memᴰ.tail d)

    go : (b c : Bool) → Memᴰ x (cond b (n ∷ m ∷ ms) (cond c (m ∷ insert n ms) (m ∷ ms))) → (Memᴰ x (insert n ms) → (x ≡ n) ⊎ Memᴰ x ms) → (x ≡ n) ⊎ Memᴰ x (m ∷ ms)
    go true c k f = Memᴰ.cases_cons k
    go false true k f = later (Memᴰ.cases_cons k)
      where
        later : (x ≡ m) ⊎ Memᴰ x (insert n ms) → (x ≡ n) ⊎ Memᴰ x (m ∷ ms)
        later (inl e) = inr (Memᴰ.head e)
        later (inr d) = here (f d)
    go false false k f = inr k

insert-ascending : (n : ℕ) {ms : List ℕ} → Ascending ms → Ascending (insert n ms)
unfolding insert
insert-ascending n none = more {ns = []} (λ x h. absurd (Memᴰ.not-nil h)) none
insert-ascending n (more {n = m} {ns = ms} h s) = go (ltb n m) refl (ltb m n) refl (insert-ascending n s)
  where
    go : (b : Bool) → ltb n m ≡ b → (c : Bool) → ltb m n ≡ c → Ascending (insert n ms) → Ascending (cond b (n ∷ m ∷ ms) (cond c (m ∷ insert n ms) (m ∷ ms)))
    go true e c d r = more (λ x k. first x (Memᴰ.cases_cons k)) (more h s)
      where
        first : (x : ℕ) → (x ≡ m) ⊎ Memᴰ x ms → n < x
        first x (inl q) = omega (arith, ltb-true n m e)
        first x (inr q) = omega (arith, ltb-true n m e, h x q)
    go false e true d r = more (λ x k. other x (insert-mem n x ms k)) r
      where
        other : (x : ℕ) → (x ≡ n) ⊎ Memᴰ x ms → m < x
        other x (inl q) = omega (arith, ltb-true m n d)
        other x (inr q) = h x q
    go false e false d r = more h s

distinct-ascending : (ns : List ℕ) → Ascending (distinct ns)
unfolding distinct
distinct-ascending [] = none
distinct-ascending (n ∷ ns) = insert-ascending n (distinct-ascending ns)

insert-front : (n : ℕ) (ms : List ℕ) → ((x : ℕ) → Memᴰ x ms → n < x) → insert n ms ≡ n ∷ ms
unfolding insert
insert-front n [] h = refl
insert-front n (m ∷ ms) h = rw (lt-ltb n m (h m (Memᴰ.head refl)))

ascending-distinct : {ns : List ℕ} → Ascending ns → distinct ns ≡ ns
unfolding distinct
ascending-distinct none = refl
ascending-distinct (more {n = n} {ns = ns} h s) = ap (insert n) (ascending-distinct s) ∙ insert-front n ns h

pub distinct-twice : (ns : List ℕ) → distinct (distinct ns) ≡ distinct ns
distinct-twice ns = ascending-distinct (distinct-ascending ns)

pub words-fours : (ns : List ℕ) → words (bytes_of_words ns) ≡ ns
unfolding words bytes_of_words each four number number_from
words-fours [] = refl
words-fours (n ∷ ns) = ap₂ (λ (x : ℕ) (xs : List ℕ). x ∷ xs) digits (words-fours ns)
  where
    digits : (((0 * 256 + n / 16777216) * 256 + n / 65536 % 256) * 256 + n / 256 % 256) * 256 + n % 256 ≡ n
    digits = omega arith

pub canonical-twice : (ns : List ℕ) → bytes_of_words (distinct (words (bytes_of_words (distinct ns)))) ≡ bytes_of_words (distinct ns)
canonical-twice ns = ap bytes_of_words (ap distinct (words-fours (distinct ns)) ∙ distinct-twice ns)
