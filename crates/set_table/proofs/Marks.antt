-- Laws of marks and sizes: the numbers of a value mixed, and what a set's values give together. Assumes nothing.
use Prim.Native.Nat.{ℕ, zero, suc, ◌+◌, ◌*◌, ◌/◌, ◌%◌, ◌≤◌, ◌<◌}
use mathlib.Core.Path.{◌≡◌, refl, ◌∙◌, ap, ap₂}
use mathlib.Core.Bool.{Bool, true, false, cond}
use mathlib.Core.List.{List, [], ◌∷◌, ◌++◌, map}
use lib.ListN.{length, get_or, length-append}
use native.Mathlib.Omega.{arith}
use Rattle.linkstate.specs.Lists.{each, empty}
use Rattle.linkstate.specs.Bytes.{number, number_from, words, bytes_at}
use Rattle.linkstate.specs.Export.{tlv, bytes_of, present}
use Rattle.octets.proofs.Laws.{length-bytes_at}
use Rattle.tlv_bytes.specs.Tlvs.{in_tlvs, front, value_at}
use Rattle.tlv_bytes.proofs.Laws.{length-tlv, front-three, front-none}
use Rattle.set_table.specs.Marks.{mixed, spread, value_mark, value_size, total}

-- ---- the numbers of a part of a run

-- Four bytes more, and a rest of under four.
pub mix-next : (h : ℕ) (xs rest word : List ℕ) (x : ℕ) → rest ≡ word ++ xs → length word ≡ 4 → x ≡ number (bytes_at word 0 4) → mixed (h % 4294967296 * 37 + x) (words xs) ≡ mixed h (words rest)
unfolding mixed words bytes_at
mix-next h xs rest (a ∷ b ∷ c ∷ d ∷ []) x e l f = rw (e, f)
mix-next h xs rest [] x e l f = absurd (omega arith)
mix-next h xs rest (a ∷ []) x e l f = absurd (omega arith)
mix-next h xs rest (a ∷ b ∷ []) x e l f = absurd (omega arith)
mix-next h xs rest (a ∷ b ∷ c ∷ []) x e l f = absurd (omega arith)
mix-next h xs rest (a ∷ b ∷ c ∷ d ∷ y ∷ word) x e l f = absurd (omega arith)

pub mix-end : (h : ℕ) (rest : List ℕ) → length rest < 4 → h ≡ mixed h (words rest)
unfolding mixed words
mix-end h [] l = refl
mix-end h (a ∷ []) l = refl
mix-end h (a ∷ b ∷ []) l = refl
mix-end h (a ∷ b ∷ c ∷ []) l = refl
mix-end h (a ∷ b ∷ c ∷ d ∷ rest) l = absurd (omega arith)

-- A value of three bytes is a number of four, any other is as it stands.
module _ (run : List ℕ) (place n : ℕ) where
  pub mix-plain : (n ≡ 3 → ⊥) → bytes_at run place n ≡ value_at run place n
  unfolding value_at
  mix-plain e = rw (front-none n e)

  pub mix-three : place + n ≤ length run → n ≡ 3 → number (bytes_at run place 3) ≡ mixed 0 (words (value_at run place n))
  unfolding value_at mixed words number number_from
  mix-three h e = rw (front-three n e, e) (three (bytes_at run place 3) (length-bytes_at run place 3 (omega arith)))
    where
      three : (v : List ℕ) → length v ≡ 3 → number v ≡ mixed 0 (words (0 ∷ v))
      three [] l = absurd (omega arith)
      three (a ∷ []) l = absurd (omega arith)
      three (a ∷ b ∷ []) l = absurd (omega arith)
      three (a ∷ b ∷ c ∷ []) l = omega arith
      three (a ∷ b ∷ c ∷ d ∷ v) l = absurd (omega arith)

-- A value with a byte has a mark and a size.
pub some-value : (v : List ℕ) → 0 < length v → empty v ≡ false
unfolding empty
some-value [] h = absurd (omega arith)
some-value (b ∷ v) h = refl

pub mark-is : (k : ℕ) (v : List ℕ) → 0 < length v → (h : ℕ) → h ≡ mixed 0 (words v) → (h % 4294967296 + k) * 2654435769 / 65536 % 4294967296 ≡ value_mark k v
unfolding value_mark spread
mark-is k v l h e = rw (some-value v l, e)

pub size_is : (k : ℕ) (v : List ℕ) → 0 < length v → 4 + length v ≡ value_size k v
unfolding value_size
size_is k v l = rw (some-value v l)

pub size-three : (n : ℕ) → n ≡ 3 → 8 ≡ 4 + (length (front n) + n)
size-three n e = omega (arith, ap length (front-three n e))

pub size-plain : (n : ℕ) → (n ≡ 3 → ⊥) → 4 + n ≡ 4 + (length (front n) + n)
size-plain n e = omega (arith, ap length (front-none n e))

-- ---- all values of a set

-- An absent value gives nothing.
pub none-mark : (k : ℕ) → value_mark k [] ≡ 0
unfolding value_mark empty
none-mark k = refl

pub none-size : (k : ℕ) → value_size k [] ≡ 0
unfolding value_size empty
none-size k = refl

-- One value more, where there was none.
module _ (f : ℕ → List ℕ → ℕ) (none : (k : ℕ) → f k [] ≡ 0) where
  total-same : (i : ℕ) (vs ws : List (List ℕ)) → length vs ≡ length ws → ((j : ℕ) → j < length vs → get_or ws j [] ≡ get_or vs j []) → total f i ws ≡ total f i vs
  unfolding total
  total-same i [] [] l h = refl
  total-same i [] (w ∷ ws) l h = absurd (omega arith)
  total-same i (v ∷ vs) [] l h = absurd (omega arith)
  total-same i (v ∷ vs) (w ∷ ws) l h = ap₂ (λ (a b : ℕ). a + b) (ap (f i) (h 0 (omega arith))) (total-same (suc i) vs ws (omega arith) (λ j g. h (suc j) (omega arith)))

  total-more : (i k : ℕ) (vs ws : List (List ℕ)) → length vs ≡ length ws → k < length vs → get_or vs k [] ≡ [] → ((j : ℕ) → j < length vs → (j ≡ k → ⊥) → get_or ws j [] ≡ get_or vs j [])
      → total f i ws ≡ total f i vs + f (i + k) (get_or ws k [])
  unfolding total
  total-more i k [] ws l h e g = absurd (omega arith)
  total-more i k (v ∷ vs) [] l h e g = absurd (omega arith)
  total-more i zero (v ∷ vs) (w ∷ ws) l h e g =
      omega (arith, ap (f i) e ∙ none i, total-same (suc i) vs ws (omega arith) (λ j b. g (suc j) (omega arith) (λ z. omega arith)), ap (λ (x : ℕ). f x w) (zero_right i))
    where
      zero_right : (x : ℕ) → x + 0 ≡ x
      zero_right x = omega arith
  total-more i (suc k) (v ∷ vs) (w ∷ ws) l h e g =
      omega (arith, ap (f i) (g 0 (omega arith) (λ z. omega arith)), total-more (suc i) k vs ws (omega arith) (omega arith) e (λ j b n. g (suc j) (omega arith) (λ z. n (omega arith))), ap (λ (x : ℕ). f x (get_or ws k [])) (right i k))
    where
      right : (x y : ℕ) → suc x + y ≡ x + suc y
      right x y = omega arith

  pub total-one : (k : ℕ) (vs ws : List (List ℕ)) → length vs ≡ length ws → k < length vs → get_or vs k [] ≡ [] → ((j : ℕ) → j < length vs → (j ≡ k → ⊥) → get_or ws j [] ≡ get_or vs j [])
      → total f 0 ws ≡ total f 0 vs + f k (get_or ws k [])
  total-one k vs ws l h e g = total-more 0 k vs ws l h e g ∙ ap (λ (x : ℕ). total f 0 vs + f x (get_or ws k [])) (zero_left k)
    where
      zero_left : (x : ℕ) → 0 + x ≡ x
      zero_left x = omega arith

pub total-none : (f : ℕ → List ℕ → ℕ) → ((k : ℕ) → f k [] ≡ 0) → (i : ℕ) (vs : List (List ℕ)) → ((j : ℕ) → j < length vs → get_or vs j [] ≡ []) → total f i vs ≡ 0
unfolding total
total-none f none i [] h = refl
total-none f none i (v ∷ vs) h = omega (arith, ap (f i) (h 0 (omega arith)) ∙ none i, total-none f none (suc i) vs (λ j l. h (suc j) (omega arith)))

pub total-most : (most i : ℕ) (vs : List (List ℕ)) → ((j : ℕ) → j < length vs → length (get_or vs j []) ≤ most) → total value_size i vs ≤ length vs * (4 + most)
unfolding total value_size
total-most most i [] h = omega arith
total-most most i (v ∷ vs) h = go (empty v) (total-most most (suc i) vs (λ j l. h (suc j) (omega arith))) (h 0 (omega arith))
  where
    go : (b : Bool) → total value_size (suc i) vs ≤ length vs * (4 + most) → length v ≤ most → cond b 0 (4 + length v) + total value_size (suc i) vs ≤ suc (length vs) * (4 + most)
    go true e l = omega arith
    go false e l = omega arith

-- The sizes of the values are those of the TLVs.
pub tlvs-size : (f : ℕ → List ℕ) (ks : List ℕ) (i : ℕ) → length (in_tlvs f ks) ≡ total value_size i (map f ks)
unfolding total value_size each present
tlvs-size f [] i = refl
tlvs-size f (k ∷ ks) i = go (empty (f k)) (tlvs-size f ks (suc i))
  where
    go : (b : Bool) → length (in_tlvs f ks) ≡ total value_size (suc i) (map f ks)
        → length (each bytes_of (cond b (present ks f) (tlv k (f k) ∷ present ks f))) ≡ cond b 0 (4 + length (f k)) + total value_size (suc i) (map f ks)
    go true e = omega arith
    go false e = omega (arith, length-tlv k (f k), length-append (bytes_of (tlv k (f k))) (in_tlvs f ks))

-- The mark of a set that has one value more.
pub more-mod : (x y z : ℕ) → x ≡ y + z → (y % 4294967296 + z) % 4294967296 ≡ x % 4294967296
more-mod x y z e = omega arith
