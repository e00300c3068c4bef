-- What the proofs of the functions cite: one law for each way that a turn can go. Assumes nothing.
use Prim.Native.Nat.{ℕ, zero, suc, ◌+◌, ◌-◌, ◌*◌, ◌/◌, ◌%◌, ◌^◌, ◌≤◌, ◌<◌}
use mathlib.Core.Path.{◌≡◌, refl, sym, ◌∙◌, ap}
use mathlib.Core.Bool.{Bool, true, false, ◌||◌, ◌&&◌, not, false≢true}
use mathlib.Core.List.{List, [], ◌∷◌}
use native.Mathlib.Numerals.{add-one}
use native.Mathlib.Nat.{pow-suc, one-mul, add-zero}
use native.Mathlib.Omega.{arith}
use borrow.Author.Tests.{eq-eqb, ne_eqb, eqb-true, eqb-false, ltb-true, ltb-false}
use lib.Dec.{eqb, ltb}
use lib.Bits.{bit_or, or_zero_l}
use lib.Pow.{pow_pos, shl_exact}
use lib.Count.{count_leading_zeros, leading_top}
use lib.ListN.{length, get_or, take, drop, set, length-drop, length-take, length-append, get_or-eq_default, drop_of_length-le}
use lib.Seq.{get_or-drop, get_or-take, get_or-set_same, get_or-set_other, drop-cons}
use Rattle.linkstate.specs.Lists.{member, same_bytes, each, put}
use Rattle.linkstate.specs.Bytes.{four, bytes_of_words}
use Rattle.linkstate.specs.Masks.{in_number}
use Rattle.srlg.specs.Ascending.{ascending}
use Rattle.srlg.proofs.Laws.{Order, less, more, same, order, length-bytes_of_words, bytes_of_words-append}
use Rattle.octets.proofs.Laws.{same-complete, same_not, put-nil, put_then}
use Rattle.masks.proofs.Laws.{below_suc}
use Rattle.masks.proofs.Steps.{zero-none}
use Rattle.srlg_ranks.specs.Ranks.{in_words, picked, Within, Inside, TopPower}
use Rattle.srlg_ranks.proofs.Members.{or_assoc, member-place, ascending-lt, same_place}
use Rattle.masks.specs.Sets.{Lowest}
use Rattle.srlg_ranks.proofs.Bits.{or-none}
use Rattle.srlg_ranks.proofs.Laws.{keep-none, keep-first, keep-member, picked_same, share, rest, word_next, word_end}

-- ---- the place of a number

-- v stands among the n numbers from a place on.
abbrev pub Found : List ℕ → ℕ → ℕ → ℕ → Type 0
Found l v at n = (p : ℕ) × (at ≤ p) × (p < at + n) × (get_or l p 0 ≡ v)

module _ (l : List ℕ) (v at n half : ℕ) (asc : ascending l ≡ true) (room : at + n ≤ length l) where
  pub found-high : (next : ℕ) → half < n → get_or l (at + half) 0 ≤ v → next ≡ at + half → Found l v at n → Found l v next (n - half)
  found-high next h le e (p, a, b, f) = go (order p (at + half))
    where
      go : Order p (at + half) → Found l v next (n - half)
      go (less k) = absurd (omega (arith, ascending-lt l p (at + half) asc k (omega arith)))
      go (more k) = (p, omega arith, omega arith, f)
      go (same k) = (p, omega arith, omega arith, f)

  pub found-low : (next : ℕ) → half ≤ n - half → v < get_or l (at + half) 0 → next ≡ at → Found l v at n → Found l v next (n - half)
  found-low next h lt e (p, a, b, f) = go (order p (at + half))
    where
      go : Order p (at + half) → Found l v next (n - half)
      go (less k) = (p, omega arith, omega arith, f)
      go (more k) = absurd (omega (arith, ascending-lt l (at + half) p asc k (omega arith)))
      go (same k) = absurd (omega (arith, ap (λ (j : ℕ). get_or l j 0) k))

-- v stands among twice as many numbers as a step has, or is the number there.
abbrev pub Search : List ℕ → ℕ → ℕ → ℕ → Type 0
Search l v at step = (e : ℕ) × (step ≡ 2 ^ e / 2) × (at + 2 ^ e ≤ length l) × Found l v at (2 ^ e)

module _ (l : List ℕ) (v : ℕ) (asc : ascending l ≡ true) where
  pub search-high : (at step next : ℕ) → 0 < step → get_or l (at + step) 0 ≤ v → next ≡ at + step → Search l v at step → Search l v next (step / 2)
  search-high at step next h le n (zero, a, b, f) = absurd (omega arith)
  search-high at step next h le n (suc e, a, b, f) =
      let p = pow-suc 2 e in
      let s : step ≡ 2 ^ e = omega arith in
      let d : 2 ^ suc e - step ≡ 2 ^ e = omega arith in
      (e, ap (λ (x : ℕ). x / 2) s, omega arith, rw d at (found-high l v at (2 ^ suc e) step asc b next (omega arith) le n f))

  pub search-low : (at step next : ℕ) → 0 < step → v < get_or l (at + step) 0 → next ≡ at → Search l v at step → Search l v next (step / 2)
  search-low at step next h lt n (zero, a, b, f) = absurd (omega arith)
  search-low at step next h lt n (suc e, a, b, f) =
      let p = pow-suc 2 e in
      let s : step ≡ 2 ^ e = omega arith in
      let d : 2 ^ suc e - step ≡ 2 ^ e = omega arith in
      (e, ap (λ (x : ℕ). x / 2) s, omega arith, rw d at (found-low l v at (2 ^ suc e) step asc b next (omega arith) lt n f))

  -- The first step tells whether v stands in the last part.
  module _ (size next : ℕ) (top : TopPower (length l) size) (all : member v l ≡ true) where
    whole : Found l v 0 (length l)
    whole = let (p, h, f) = member-place v l all in (p, omega arith, omega arith, f)

    pub search-last : get_or l (length l - size) 0 ≤ v → next ≡ length l - size → Search l v next (size / 2)
    search-last le n =
        let (e, s, a, b) = top in
        let p = pow-suc 2 e in
        let q = pow_pos e in
        let z : 0 + (length l - size) ≡ length l - size = omega arith in
        let d : length l - (length l - size) ≡ 2 ^ e = omega arith in
        (e, ap (λ (x : ℕ). x / 2) s, omega arith, rw d at (found-high l v 0 (length l) (length l - size) asc (omega arith) next (omega arith) (rw z le) (omega arith) whole))

    pub search-front : v < get_or l (length l - size) 0 → next ≡ 0 → Search l v next (size / 2)
    search-front lt n =
        let (e, s, a, b) = top in
        let p = pow-suc 2 e in
        let z : 0 + (length l - size) ≡ length l - size = omega arith in
        let d : length l - (length l - size) ≡ 2 ^ e = omega arith in
        (e, ap (λ (x : ℕ). x / 2) s, omega arith, rw d at (found-low l v 0 (length l) (length l - size) asc (omega arith) next (omega arith) (rw z lt) n whole))

pub search-in : (l : List ℕ) (v at step : ℕ) → Search l v at step → (0 < step → at + step < length l)
search-in l v at step (e, a, b, f) h = omega arith

pub search-end : (l : List ℕ) (v at step : ℕ) → step ≡ 0 → Search l v at step → (at < length l) × (get_or l at 0 ≡ v)
search-end l v at step z (zero, a, b, (p, c, d, f)) = let e : at ≡ p = omega arith in (omega arith, ap (λ (j : ℕ). get_or l j 0) e ∙ f)
search-end l v at step z (suc e, a, b, f) = let p = pow-suc 2 e in let q = pow_pos e in absurd (omega arith)

pub some-place : (v : ℕ) (l : List ℕ) → member v l ≡ true → 0 < length l
some-place v l m = let (p, h, f) = member-place v l m in omega arith

-- The place of a number's highest bit.
pub top-power : (n : ℕ) → 0 < n → n < 2 ^ 64 → (count_leading_zeros 64 n ≤ 63) × TopPower n ((1 * 2 ^ (63 - count_leading_zeros 64 n)) % 2 ^ 64)
top-power n h l =
    let (j, e, a, b) = leading_top 64 n h l in
    let f : 63 - count_leading_zeros 64 n ≡ j = omega arith in
    (omega arith, (j, rw f (shl_exact {a = 1} 1 j 64 (omega arith) (omega arith) ∙ one-mul (2 ^ j)), a, b))

-- ---- one bit more

-- A word replaced by one that has the bit of place p besides.
pub word_set : (ws : List ℕ) (p y : ℕ) → p / 64 < length ws → ((j : ℕ) → in_number y j ≡ in_number (get_or ws (p / 64) 0) j || eqb j (p % 64))
    → (i : ℕ) → in_words (set ws (p / 64) y) i ≡ in_words ws i || eqb i p
unfolding in_words
word_set ws p y h so i = go (order (i / 64) (p / 64))
  where
    or-not : (b : Bool) → b ≡ b || false
    or-not true = refl
    or-not false = refl

    other : (i / 64 ≡ p / 64 → ⊥) → in_number (get_or (set ws (p / 64) y) (i / 64) 0) (i % 64) ≡ in_number (get_or ws (i / 64) 0) (i % 64) || eqb i p
    other n = rw (get_or-set_other ws (p / 64) (i / 64) y 0 n, ne_eqb i p (λ e. n (ap (λ (j : ℕ). j / 64) e))) (or-not (in_number (get_or ws (i / 64) 0) (i % 64)))

    bit : i / 64 ≡ p / 64 → Order i p → eqb (i % 64) (p % 64) ≡ eqb i p
    bit e (less k) = ne_eqb (i % 64) (p % 64) (λ f. omega arith) ∙ sym (ne_eqb i p (λ f. omega arith))
    bit e (more k) = ne_eqb (i % 64) (p % 64) (λ f. omega arith) ∙ sym (ne_eqb i p (λ f. omega arith))
    bit e (same k) = eq-eqb (i % 64) (p % 64) (ap (λ (j : ℕ). j % 64) k) ∙ sym (eq-eqb i p k)

    go : Order (i / 64) (p / 64) → in_number (get_or (set ws (p / 64) y) (i / 64) 0) (i % 64) ≡ in_number (get_or ws (i / 64) 0) (i % 64) || eqb i p
    go (less k) = other (λ e. omega arith)
    go (more k) = other (λ e. omega arith)
    go (same e) = rw (e, get_or-set_same ws (p / 64) y 0 h) (so (i % 64) ∙ ap (λ (b : Bool). in_number (get_or ws (p / 64) 0) (i % 64) || b) (bit e (order i p)))

pub member-at : (l : List ℕ) (i : ℕ) → i < length l → member (get_or l i 0) l ≡ true
unfolding member
member-at [] i h = absurd (omega arith)
member-at (n ∷ l) zero h = rw (eq-eqb n n refl)
member-at (n ∷ l) (suc i) h = go (eqb (get_or l i 0) n) (member-at l i (omega arith))
  where
    go : (b : Bool) → member (get_or l i 0) l ≡ true → b || member (get_or l i 0) l ≡ true
    go true e = refl
    go false e = e

-- The numbers yet to be added, after one more of them, which stands at place p.
module _ (values ws b : List ℕ) (i p : ℕ) (c : List ℕ) (asc : ascending values ≡ true) (set_so : (j : ℕ) → in_words c j ≡ in_words b j || eqb j p) (inside : p < length values) where
  pub add-next : get_or values p 0 ≡ get_or ws i 0 → i < length ws → (j : ℕ) → j < length values
      → in_words c j || member (get_or values j 0) (drop (i + 1) ws) ≡ in_words b j || member (get_or values j 0) (drop i ws)
  unfolding member
  add-next e h j k =
      let f : eqb (get_or values j 0) (get_or ws i 0) ≡ eqb j p = ap (eqb (get_or values j 0)) (sym e) ∙ same_place values j p asc k inside in
      rw (set_so j, add-one i, drop-cons ws i 0 h, f) (or_assoc (in_words b j) (eqb j p) (member (get_or values j 0) (drop (suc i) ws)))

  pub add-within : Within values b → Within values c
  add-within w j h = set_so j ∙ rw (w j h) (ne_eqb j p (λ e. omega arith))

pub add-all : (ws : List ℕ) (i : ℕ) (g : ℕ) (x y : Bool) → length ws ≤ i → x || member g (drop i ws) ≡ y → x ≡ y
unfolding member
add-all ws i g x y h e = or-not x ∙ (rw (drop_of_length-le ws {i = i} h) at e)
  where
    or-not : (b : Bool) → b ≡ b || false
    or-not true = refl
    or-not false = refl

-- ---- two sets joined, word by word

module _ (x y b : List ℕ) (i : ℕ) where
  abbrev pub Joined : ℕ → ℕ → Type 0
  Joined u w = (n : ℕ) → in_number u n ≡ in_number (get_or x w 0) n || in_number (get_or y w 0) n

  pub join-next : (u : ℕ) → i < length b → ((n : ℕ) → in_number u n ≡ in_number (get_or b i 0) n || in_number (get_or y i 0) n) → get_or b i 0 ≡ get_or x i 0
      → ((w : ℕ) → w < i → Joined (get_or b w 0) w) → (w : ℕ) → w < i + 1 → Joined (get_or (set b i u) w 0) w
  join-next u h so e before w k = go (order w i)
    where
      go : Order w i → Joined (get_or (set b i u) w 0) w
      go (less l) = rw (get_or-set_other b i w u 0 (λ f. omega arith)) (before w l)
      go (more l) = absurd (omega arith)
      go (same f) = rw (f, get_or-set_same b i u 0 h) (λ n. so n ∙ ap (λ (z : ℕ). in_number z n || in_number (get_or y i 0) n) e)

  pub join-later : (u : ℕ) → ((w : ℕ) → i ≤ w → get_or b w 0 ≡ get_or x w 0) → (w : ℕ) → i + 1 ≤ w → get_or (set b i u) w 0 ≡ get_or x w 0
  join-later u later w k = get_or-set_other b i w u 0 (λ f. omega arith) ∙ later w (omega arith)

  pub join-all : length x ≡ 12 → length y ≡ 12 → length b ≡ 12 → 12 ≤ i → ((w : ℕ) → w < i → Joined (get_or b w 0) w) → (n : ℕ) → in_words b n ≡ in_words x n || in_words y n
  unfolding in_words
  join-all lx ly lb h all n = go (ltb (n / 64) 12) refl
    where
      beyond : (l : List ℕ) → length l ≡ 12 → 12 ≤ n / 64 → in_number (get_or l (n / 64) 0) (n % 64) ≡ false
      beyond l e k = rw (get_or-eq_default {A = ℕ} l 0 {n = n / 64} (omega arith)) (zero-none (n % 64))

      go : (t : Bool) → ltb (n / 64) 12 ≡ t → in_number (get_or b (n / 64) 0) (n % 64) ≡ in_number (get_or x (n / 64) 0) (n % 64) || in_number (get_or y (n / 64) 0) (n % 64)
      go true e = all (n / 64) (omega (arith, ltb-true (n / 64) 12 e)) (n % 64)
      go false e = let k = ltb-false (n / 64) 12 e in rw (beyond b lb k, beyond x lx k, beyond y ly k)

-- ---- the numbers of one word, one by one

-- The lowest bit t of a word, and the rest of it: where its number stands, and the numbers that are left.
pub record Turn (values : List ℕ) (base x t rest : ℕ) : Type 0 where
  pub place : base + t < length values
  pub inside : Inside (drop base values) rest
  pub next : share values base x ≡ get_or values (base + t) 0 ∷ share values base rest

and_left : (a b : Bool) → a ≡ false → a && b ≡ false
and_left true b e = absurd (false≢true (sym e))
and_left false b e = refl

pub turn : (values : List ℕ) (base x t rest : ℕ) → Lowest 64 x t rest → Inside (drop base values) x → Turn values base x t rest
turn values base x t rest r inside =
    let i = r.inside in
    let k : t < length (drop base values) = within (ltb t (length (drop base values))) refl in
    record {
      place = omega (arith, length-drop base values);
      inside = λ j a b. r.cleared j ∙ and_left (in_number x j) (not (eqb j t)) (inside j a b);
      next =
          keep-first t (in_number x) (in_number rest) (take 64 (drop base values)) (rw length-take (omega arith)) r.none r.there r.cleared
          ∙ ap (λ (v : ℕ). v ∷ share values base rest) (get_or-take 64 (drop base values) t 0 i ∙ get_or-drop base values t 0);
    }
  where
    within : (b : Bool) → ltb t (length (drop base values)) ≡ b → t < length (drop base values)
    within true e = ltb-true t (length (drop base values)) e
    within false e = absurd (false≢true (sym (inside t (ltb-false t (length (drop base values)) e) r.inside) ∙ r.there))

pub share-none : (values : List ℕ) (base x : ℕ) → x ≡ 0 → share values base x ≡ []
share-none values base x e = rw e (keep-none (in_number 0) 0 (take 64 (drop base values)) (λ j h. zero-none j))

pub length-next : (values ws : List ℕ) (w : ℕ) → length (rest values ws w) ≡ length (share values (64 * w) (get_or ws w 0)) + length (rest values ws (w + 1))
length-next values ws w = ap length (word_next values ws w) ∙ length-append (share values (64 * w) (get_or ws w 0)) (rest values ws (w + 1))

-- Numbers written as bytes: what is written, and what the numbers left would be written as, is the whole.
pub bytes_next : (o q : List ℕ) (k v : ℕ) (old new whole : List ℕ) → old ≡ v ∷ new → q ≡ put o k (four v) → k + 4 * length old ≤ length o → put o k (bytes_of_words old) ≡ whole → put q (k + 4) (bytes_of_words new) ≡ whole
unfolding bytes_of_words each four
bytes_next o q k v old new whole e f h g =
    put_then o q (put q (k + 4) (bytes_of_words new)) k (four v) (k + 4) (bytes_of_words new) f refl refl (omega (arith, ap length e, length-bytes_of_words new))
    ∙ ap (λ (l : List ℕ). put o k (bytes_of_words l)) (sym e) ∙ g

pub bytes-end : (o left : List ℕ) (k : ℕ) (whole : List ℕ) → left ≡ [] → put o k (bytes_of_words left) ≡ whole → o ≡ whole
unfolding bytes_of_words each
bytes-end o left k whole e f = put-nil o k ∙ ap (λ (l : List ℕ). put o k (bytes_of_words l)) (sym e) ∙ f

pub bytes_word : (values ws o q : List ℕ) (w k r : ℕ) (whole : List ℕ) → q ≡ put o k (bytes_of_words (share values (64 * w) (get_or ws w 0))) → r ≡ k + 4 * length (share values (64 * w) (get_or ws w 0)) → k + 4 * length (rest values ws w) ≤ length o
    → put o k (bytes_of_words (rest values ws w)) ≡ whole → put q r (bytes_of_words (rest values ws (w + 1))) ≡ whole
bytes_word values ws o q w k r whole e f h g =
    let x = share values (64 * w) (get_or ws w 0) in
    let y = rest values ws (w + 1) in
    put_then o q (put q r (bytes_of_words y)) k (bytes_of_words x) r (bytes_of_words y) e refl (omega (arith, length-bytes_of_words x)) (omega (arith, length-bytes_of_words y, length-next values ws w))
    ∙ ap (put o k) (sym (ap bytes_of_words (word_next values ws w) ∙ bytes_of_words-append x y)) ∙ g

-- A list of at most 64 numbers needs one word.
pub one_word : (values ws : List ℕ) → length values ≤ 64 → length (share values 0 (get_or ws 0 0)) ≡ length (picked values ws)
unfolding picked
one_word values ws h = let e = ap length (word_end values ws 1 (omega arith)) in sym (length-next values ws 0 ∙ ap (λ (n : ℕ). length (share values 0 (get_or ws 0 0)) + n) e ∙ add-zero (length (share values 0 (get_or ws 0 0))))

-- ---- two sets compared, word by word

module _ (x y : List ℕ) where
  abbrev pub Equal : ℕ → Type 0
  Equal i = (w : ℕ) → w < i → get_or x w 0 ≡ get_or y w 0

  abbrev pub Alike : Type 0
  Alike = (w : ℕ) → w < 12 → (j : ℕ) → j < 64 → in_number (get_or x w 0) j ≡ in_number (get_or y w 0) j

  pub equal_next : (d r i : ℕ) → (d ≡ 0 → Equal i) → (r ≡ 0 → get_or x i 0 ≡ get_or y i 0) → bit_or d r ≡ 0 → Equal (i + 1)
  equal_next d r i all here e = let (a, b) = or-none d r e in rw (add-one i) (below_suc (λ (w : ℕ). get_or x w 0 ≡ get_or y w 0) i (all a) (here b))

  pub alike_next : (d r : ℕ) → d ≡ 0 → r ≡ 0 → bit_or d r ≡ 0
  alike_next d r e f = rw (e, f) (or_zero_l 0)

  module _ (values : List ℕ) (asc : ascending values ≡ true) (short : length values ≤ 768) (wx : Within values x) (wy : Within values y) where
    alike : picked values x ≡ picked values y → Alike
    unfolding picked in_words
    alike e w h j k =
        let a : (64 * w + j) / 64 ≡ w = omega arith in
        let b : (64 * w + j) % 64 ≡ j = omega arith in
        rw (a, b) at (place (64 * w + j) (ltb (64 * w + j) (length values)) refl)
      where
        place : (i : ℕ) (t : Bool) → ltb i (length values) ≡ t → in_words x i ≡ in_words y i
        place i true f =
            let l = ltb-true i (length values) f in
            let z : 0 + i ≡ i = omega arith in
            rw z at (sym (keep-member (in_words x) 0 values i asc l) ∙ ap (member (get_or values i 0)) e ∙ keep-member (in_words y) 0 values i asc l)
        place i false f = let l = ltb-false i (length values) f in wx i l ∙ sym (wy i l)

    pub same-is : (d i : ℕ) → 12 ≤ i → (d ≡ 0 → Equal i) → (Alike → d ≡ 0) → eqb d 0 ≡ same_bytes (picked values x) (picked values y)
    unfolding in_words
    same-is d i h sound complete = go (eqb d 0) refl
      where
        go : (t : Bool) → eqb d 0 ≡ t → t ≡ same_bytes (picked values x) (picked values y)
        go true e =
            let f = picked_same values x y (λ n l. ap (λ (z : ℕ). in_number z (n % 64)) (sound (eqb-true d 0 e) (n / 64) (omega arith))) in
            rw f (sym (same-complete (picked values y)))
        go false e = same_not (picked values x) (picked values y) (λ f. eqb-false d 0 e (complete (alike f)))
