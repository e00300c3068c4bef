-- Laws of the sets that bits stand for: one word's share, the next number, members, and the set of given numbers. Assumes nothing.
use Prim.Native.Nat.{ℕ, zero, suc, ◌+◌, ◌*◌, ◌/◌, ◌%◌, ◌^◌, ◌≤◌, ◌<◌}
use mathlib.Core.Path.{◌≡◌, refl, sym, ◌∙◌, ap, ap₂}
use mathlib.Core.Bool.{Bool, true, false, cond, ◌||◌, ◌&&◌, not, and-true, and-false, false≢true}
use mathlib.Core.List.{List, [], ◌∷◌, ◌++◌}
use native.Mathlib.Nat.{add-zero, pow-suc}
use native.Mathlib.Omega.{arith}
use borrow.Author.Tests.{eq-eqb, ne_eqb, ltb-true, ltb-false}
use lib.Dec.{eqb, ltb, eqb-suc-zero, eqb-suc-suc}
use lib.Count.{ones, ones_step}
use lib.ListN.{length, get_or, take, drop, replicate, get_or-eq_default, get_or-replicate, drop_of_length-le, length-drop, length-take}
use lib.Seq.{drop-drop}
use lib.Pow.{pow_pos}
use Rattle.linkstate.specs.Lists.{member}
use Rattle.linkstate.specs.Bytes.{distinct}
use Rattle.linkstate.specs.Masks.{in_number}
use Rattle.srlg.specs.Ascending.{below, ascending}
use Rattle.srlg.proofs.Laws.{below-trans, ascending-first, ascending-rest, ascending-cons, ascending-distinct}
use Rattle.masks.proofs.Laws.{same-members}
use Rattle.masks.proofs.Steps.{zero-none}
use Rattle.srlg_ranks.specs.Ranks.{keep_from, in_words, picked, Within, Inside, Among, Says}
use Rattle.srlg_ranks.proofs.Members.{member-place, member-distinct, member-append, among-distinct, below-not, ascending-same, below_at}
use Rattle.masks.proofs.LowestBit.{half_in, even-in, odd-in}

-- ---- numbers kept by a test of their places

-- The test counts only at the places of the list.
pub keep_same : (p q : ℕ → Bool) (i k : ℕ) (l : List ℕ) → ((j : ℕ) → j < length l → p (i + j) ≡ q (k + j)) → keep_from p i l ≡ keep_from q k l
unfolding keep_from
keep_same p q i k [] h = refl
keep_same p q i k (v ∷ l) h =
    let e : p i ≡ q k = ap p (sym (add-zero i)) ∙ h 0 (omega arith) ∙ ap q (add-zero k) in
    ap₂ (λ (b : Bool) (r : List ℕ). cond b (v ∷ r) r) e
    (keep_same p q (suc i) (suc k) l (λ j a.
    let f : suc i + j ≡ i + suc j = omega arith in
    let g : k + suc j ≡ suc k + j = omega arith in
    ap p f ∙ h (suc j) (omega arith) ∙ ap q g))

-- Places counted one lower.
keep-suc : (p : ℕ → Bool) (l : List ℕ) → keep_from p 1 l ≡ keep_from (λ j. p (suc j)) 0 l
keep-suc p l = keep_same p (λ j. p (suc j)) 1 0 l (λ j h. ap p (omega arith))

pub keep-none : (p : ℕ → Bool) (i : ℕ) (l : List ℕ) → ((j : ℕ) → i ≤ j → p j ≡ false) → keep_from p i l ≡ []
unfolding keep_from
keep-none p i [] h = refl
keep-none p i (v ∷ l) h = rw (h i (omega arith)) (keep-none p (suc i) l (λ j a. h j (omega arith)))

-- The first n places and the others.
pub keep-split : (n : ℕ) (p : ℕ → Bool) (i : ℕ) (l : List ℕ) → keep_from p i l ≡ keep_from p i (take n l) ++ keep_from p (i + n) (drop n l)
unfolding keep_from
keep-split zero p i l = rw (add-zero i)
keep-split (suc n) p i [] = refl
keep-split (suc n) p i (v ∷ l) = go (p i) (keep-split n p (suc i) l)
  where
    go : (b : Bool) → keep_from p (suc i) l ≡ keep_from p (suc i) (take n l) ++ keep_from p (suc i + n) (drop n l)
        → cond b (v ∷ keep_from p (suc i) l) (keep_from p (suc i) l) ≡ cond b (v ∷ keep_from p (suc i) (take n l)) (keep_from p (suc i) (take n l)) ++ keep_from p (i + suc n) (drop n l)
    go true ih = let e : i + suc n ≡ suc i + n = omega arith in rw (e, ih)
    go false ih = let e : i + suc n ≡ suc i + n = omega arith in rw (e, ih)

-- The number at the first place that passes, and the others.
pub keep-first : (t : ℕ) (p q : ℕ → Bool) (l : List ℕ) → t < length l
    → ((j : ℕ) → j < t → p j ≡ false) → p t ≡ true → ((j : ℕ) → q j ≡ p j && not (eqb j t))
    → keep_from p 0 l ≡ get_or l t 0 ∷ keep_from q 0 l
unfolding keep_from
keep-first t p q [] h n e c = absurd (omega arith)
keep-first zero p q (v ∷ l) h n e c =
    let f : q 0 ≡ false = c 0 ∙ and-false (p 0) in
    rw (e, f) (ap (λ (r : List ℕ). v ∷ r) (keep_same p q 1 1 l (λ j a.
    let g : 1 + j ≡ suc j = omega arith in
    rw g (sym (c (suc j) ∙ rw (eqb-suc-zero j) (and-true (p (suc j))))))))
keep-first (suc t) p q (v ∷ l) h n e c =
    let a = n 0 (omega arith) in
    let f : q 0 ≡ false = c 0 ∙ rw a in
    rw (a, f)
    (keep-suc p l
    ∙ keep-first t (λ j. p (suc j)) (λ j. q (suc j)) l (omega arith) (λ j b. n (suc j) (omega arith)) e (λ j. c (suc j) ∙ rw (eqb-suc-suc j t))
    ∙ ap (λ (r : List ℕ). get_or l t 0 ∷ r) (sym (keep-suc q l)))

-- ---- members

-- Only members of the list are kept.
keep-sub : (n : ℕ) (p : ℕ → Bool) (i : ℕ) (l : List ℕ) → member n l ≡ false → member n (keep_from p i l) ≡ false
unfolding keep_from member
keep-sub n p i [] h = refl
keep-sub n p i (m ∷ l) h = go (eqb n m) refl h (p i) (keep-sub n p (suc i) l)
  where
    go : (a : Bool) → eqb n m ≡ a → a || member n l ≡ false → (b : Bool) → (member n l ≡ false → member n (keep_from p (suc i) l) ≡ false)
        → member n (cond b (m ∷ keep_from p (suc i) l) (keep_from p (suc i) l)) ≡ false
    go true f e b ih = absurd (false≢true (sym e))
    go false f e true ih = rw f (ih e)
    go false f e false ih = ih e

-- The number at a place of an ascending list is kept if its place passes.
pub keep-member : (p : ℕ → Bool) (k : ℕ) (l : List ℕ) (i : ℕ) → ascending l ≡ true → i < length l → member (get_or l i 0) (keep_from p k l) ≡ p (k + i)
unfolding keep_from member
keep-member p k [] i a h = absurd (omega arith)
keep-member p k (m ∷ l) zero a h = go (p k) refl ∙ ap p (sym (add-zero k))
  where
    go : (b : Bool) → p k ≡ b → member m (cond b (m ∷ keep_from p (suc k) l) (keep_from p (suc k) l)) ≡ p k
    go true e = rw (eq-eqb m m refl) (sym e)
    go false e = keep-sub m p (suc k) l (below-not m l (ascending-first m l a) (ascending-rest m l a)) ∙ sym e
keep-member p k (m ∷ l) (suc i) a h = go (p k) (keep-member p (suc k) l i (ascending-rest m l a) (omega arith))
  where
    go : (b : Bool) → member (get_or l i 0) (keep_from p (suc k) l) ≡ p (suc k + i)
        → member (get_or l i 0) (cond b (m ∷ keep_from p (suc k) l) (keep_from p (suc k) l)) ≡ p (k + suc i)
    go true ih =
        let d = below_at m l i (ascending-first m l a) (ascending-rest m l a) (omega arith) in
        let f : suc k + i ≡ k + suc i = omega arith in
        rw (ne_eqb (get_or l i 0) m (λ e. omega arith)) (ih ∙ ap p f)
    go false ih = let f : suc k + i ≡ k + suc i = omega arith in ih ∙ ap p f

keep-below : (n : ℕ) (p : ℕ → Bool) (i : ℕ) (l : List ℕ) → below n l ≡ true → ascending l ≡ true → below n (keep_from p i l) ≡ true
unfolding keep_from below
keep-below n p i [] b a = refl
keep-below n p i (m ∷ l) b a = go (p i) (keep-below n p (suc i) l (below-trans n m l (ltb-true n m b) (ascending-first m l a)) (ascending-rest m l a))
  where
    go : (t : Bool) → below n (keep_from p (suc i) l) ≡ true → below n (cond t (m ∷ keep_from p (suc i) l) (keep_from p (suc i) l)) ≡ true
    go true ih = b
    go false ih = ih

pub keep-ascending : (p : ℕ → Bool) (i : ℕ) (l : List ℕ) → ascending l ≡ true → ascending (keep_from p i l) ≡ true
unfolding keep_from
keep-ascending p i [] a = a
keep-ascending p i (m ∷ l) a = go (p i) (keep-ascending p (suc i) l (ascending-rest m l a))
  where
    go : (t : Bool) → ascending (keep_from p (suc i) l) ≡ true → ascending (cond t (m ∷ keep_from p (suc i) l) (keep_from p (suc i) l)) ≡ true
    go true ih = ascending-cons m (keep_from p (suc i) l) (keep-below m p (suc i) l (ascending-first m l a) (ascending-rest m l a)) ih
    go false ih = ih

-- ---- the set of bits

-- Bits beyond the list do not count.
pub picked_same : (values x y : List ℕ) → ((i : ℕ) → i < length values → in_words x i ≡ in_words y i) → picked values x ≡ picked values y
unfolding picked
picked_same values x y h =
    keep_same (in_words x) (in_words y) 0 0 values (λ j a. let e : 0 + j ≡ j = omega arith in rw e (h j a))

-- A test that says which numbers of the list are members of xs keeps the different numbers of xs; so do bits.
pub keep-is : (p : ℕ → Bool) (values xs : List ℕ) → ascending values ≡ true → Among xs values → ((i : ℕ) → i < length values → p i ≡ member (get_or values i 0) xs) → keep_from p 0 values ≡ distinct xs
keep-is p values xs a among so =
    ascending-same (keep_from p 0 values) (distinct xs) (keep-ascending p 0 values a) (ascending-distinct xs) (λ n. go n (member n values) refl ∙ sym (member-distinct n xs))
  where
    outside : (n : ℕ) → member n values ≡ false → (t : Bool) → member n xs ≡ t → false ≡ t
    outside n e true f = sym e ∙ among n f
    outside n e false f = refl

    go : (n : ℕ) (t : Bool) → member n values ≡ t → member n (keep_from p 0 values) ≡ member n xs
    go n true e =
        let (i, h, f) = member-place n values e in
        let g : 0 + i ≡ i = omega arith in
        rw f at (keep-member p 0 values i a h ∙ ap p g ∙ so i h)
    go n false e = keep-sub n p 0 values e ∙ outside n e (member n xs) refl

pub picked-is : (values bits xs : List ℕ) → ascending values ≡ true → Among xs values → Says values bits xs → picked values bits ≡ distinct xs
unfolding picked
picked-is values bits xs a among so = keep-is (in_words bits) values xs a among so

pub picked-distinct : (values bits xs ys : List ℕ) → values ≡ distinct ys → Among xs ys → Says values bits xs → picked values bits ≡ distinct xs
picked-distinct values bits xs ys e among so =
    picked-is values bits xs (ap ascending e ∙ ascending-distinct ys) (λ n h. ap (member n) e ∙ among-distinct xs ys among n h) so

-- What bits say after more numbers were added to them, and of two sets that were joined.
module _ (values x r xs ys : List ℕ) where
  pub says-add : Says values x xs → ((i : ℕ) → i < length values → in_words r i ≡ in_words x i || member (get_or values i 0) ys) → Says values r (xs ++ ys)
  says-add p so i h = so i h ∙ ap (λ (b : Bool). b || member (get_or values i 0) ys) (p i h) ∙ sym (member-append (get_or values i 0) xs ys)

  pub says-join : (y : List ℕ) → Says values x xs → Says values y ys → ((i : ℕ) → in_words r i ≡ in_words x i || in_words y i) → Says values r (xs ++ ys)
  says-join y p q so = says-add p (λ i h. so i ∙ ap (λ (b : Bool). in_words x i || b) (q i h))

pub join-within : (values x y r : List ℕ) → Within values x → Within values y → ((i : ℕ) → in_words r i ≡ in_words x i || in_words y i) → Within values r
join-within values x y r p q so i h = so i ∙ rw (p i h, q i h)

-- The zero bits.
pub zero_bits : (i : ℕ) → in_words (replicate 12 0) i ≡ false
unfolding in_words
zero_bits i = go (ltb (i / 64) 12) refl
  where
    go : (t : Bool) → ltb (i / 64) 12 ≡ t → in_number (get_or (replicate 12 0) (i / 64) 0) (i % 64) ≡ false
    go true e = rw (get_or-replicate {A = ℕ} 12 (i / 64) 0 0 (ltb-true (i / 64) 12 e)) (zero-none (i % 64))
    go false e = rw (get_or-eq_default {A = ℕ} (replicate 12 0) 0 {n = i / 64} (ltb-false (i / 64) 12 e)) (zero-none (i % 64))

pub zero-within : (values : List ℕ) → Within values (replicate 12 0)
zero-within values i h = zero_bits i

pub zero-says : (values : List ℕ) → Says values (replicate 12 0) []
unfolding member
zero-says values i h = zero_bits i

pub zero-picked : (values : List ℕ) → picked values (replicate 12 0) ≡ []
unfolding picked
zero-picked values = keep-none (in_words (replicate 12 0)) 0 values (λ j h. zero_bits j)

-- ---- one word's bits

-- What the words from w on stand for: the numbers of word w, and those of the next.
abbrev pub rest : List ℕ → List ℕ → ℕ → List ℕ
rest values ws w = keep_from (in_words ws) (64 * w) (drop (64 * w) values)

abbrev pub share : List ℕ → ℕ → ℕ → List ℕ
share values base x = keep_from (in_number x) 0 (take 64 (drop base values))

pub word-inside : (values ws : List ℕ) (w : ℕ) → Within values ws → Inside (drop (64 * w) values) (get_or ws w 0)
unfolding in_words
word-inside values ws w within j h k =
    let e : (64 * w + j) / 64 ≡ w = omega arith in
    let f : (64 * w + j) % 64 ≡ j = omega arith in
    rw (e, f) at (within (64 * w + j) (omega (arith, length-drop (64 * w) values)))

pub word_next : (values ws : List ℕ) (w : ℕ) → rest values ws w ≡ share values (64 * w) (get_or ws w 0) ++ rest values ws (w + 1)
unfolding in_words
word_next values ws w =
    let l = drop (64 * w) values in
    let g : 64 * w + 64 ≡ 64 * (w + 1) = omega arith in
    keep-split 64 (in_words ws) (64 * w) l
    ∙ ap₂ (λ (a b : List ℕ). a ++ b)
    (keep_same (in_words ws) (in_number (get_or ws w 0)) (64 * w) 0 (take 64 l) (λ j h.
    let b : j < 64 = omega (arith, length-take 64 l) in
    let e : (64 * w + j) / 64 ≡ w = omega arith in
    let f : (64 * w + j) % 64 ≡ j = omega arith in
    let d : 0 + j ≡ j = omega arith in
    rw (e, f, d)))
    (rw (drop-drop 64 (64 * w) values, g))

pub word_end : (values ws : List ℕ) (w : ℕ) → length values ≤ 64 * w → rest values ws w ≡ []
unfolding keep_from
word_end values ws w h = rw (drop_of_length-le values {i = 64 * w} h)

-- How many of a word's bits are set.
zero_is : (k x : ℕ) → x < 2 ^ k → ((j : ℕ) → j < k → in_number x j ≡ false) → x ≡ 0
zero_is k x h e = same-members k x 0 h (pow_pos k) (λ i l. e i l ∙ sym (zero-none i))

ones-zero : (x : ℕ) → x ≡ 0 → ones x ≡ 0
unfolding ones
ones-zero x e = rw e

pub word_ones : (k x : ℕ) (l : List ℕ) → x < 2 ^ k → ((j : ℕ) → length l ≤ j → j < k → in_number x j ≡ false) → ones x ≡ length (keep_from (in_number x) 0 (take k l))
unfolding keep_from
word_ones zero x l h e = ones-zero x (omega arith)
word_ones (suc k) x [] h e = ones-zero x (zero_is (suc k) x h (λ j a. e j (omega arith) a))
word_ones (suc k) x (v ∷ l) h e =
    go (x % 2) refl
    (word_ones k (x / 2) l (omega (arith, pow-suc 2 k)) (λ j a b. sym (half_in x j) ∙ e (suc j) (omega arith) (omega arith))
    ∙ ap length (sym (keep_same (in_number x) (in_number (x / 2)) 1 0 (take k l) (λ j a. let f : 1 + j ≡ suc j = omega arith in let g : 0 + j ≡ j = omega arith in rw (f, g) (half_in x j)))))
  where
    go : (d : ℕ) → x % 2 ≡ d → ones (x / 2) ≡ length (keep_from (in_number x) 1 (take k l))
        → ones x ≡ length (cond (in_number x 0) (v ∷ keep_from (in_number x) 1 (take k l)) (keep_from (in_number x) 1 (take k l)))
    go zero d ih = rw (even-in x d) (omega (arith, ones_step x))
    go (suc n) d ih = rw (odd-in x n d) (omega (arith, ones_step x))
