-- How many applications two masks name, counted by bits, by numbers and in a list: what has room for the one has room for the others. Assumes nothing.
use mathlib.Core.Path.{◌≡◌, refl, sym, ap, ap₂, ◌∙◌}
use mathlib.Core.Bool.{Bool, true, false, cond}
use mathlib.Core.List.{List, [], ◌∷◌}
use Prim.Native.Nat.{ℕ, zero, suc, ◌+◌, ◌-◌, ◌*◌, ◌/◌, ◌%◌, ◌^◌, ◌≤◌, ◌<◌}
use native.Mathlib.Nat.{pow-suc}
use native.Mathlib.Omega.{arith}
use borrow.Author.Tests.{ltb-true, ltb-false}
use lib.Dec.{ltb}
use lib.Count.{ones, ones_step, ones-le}
use lib.ListN.{length, get_or, length-append}
use Rattle.linkstate.specs.Lists.{numbers, keep}
use Rattle.linkstate.specs.Masks.{one, in_number}
use Rattle.linkstate.proofs.ListLaws.{keep_append}
use Rattle.masks.specs.Sets.{turned_place}
use Rattle.masks.specs.declared.Applications.{Applications}
use Rattle.masks.specs.Applications.{in_set, at_place}
use Rattle.masks.proofs.Sets.{place_set}
use Rattle.masks.proofs.LowestBit.{half_in, even-in, odd-in}
use Rattle.srlg_ranks.specs.Ranks.{in_words}
use Rattle.srlg_table.specs.Blocks.{size_of}
use Rattle.srlg_table.proofs.Sizes.{size_same}
use Rattle.set_table.specs.Tables.{how_many}
use Rattle.set_table.proofs.Assigns.{many-most, many-same, many-split}
use Rattle.set_groups.specs.Table.{left}
use Rattle.set_groups.proofs.Joined.{numbers-last}

-- ---- tests

one_more : (a b : Bool) → (a ≡ true → b ≡ true) → one a ≤ one b
unfolding one
one_more true true h = omega arith
one_more true false h = let z : ◌≡◌ {A = ℕ} 0 1 = cc (h refl) in omega arith
one_more false b h = omega arith

pub many_more : (p q : ℕ → Bool) (k : ℕ) → ((n : ℕ) → n < k → p n ≡ true → q n ≡ true) → how_many p k ≤ how_many q k
unfolding how_many
many_more p q zero h = omega arith
many_more p q (suc k) h = omega (arith, many_more p q k (λ n l. h n (omega arith)), one_more (p k) (q k) (h k (omega arith)))

-- The bits of a number that are set.
pub many-ones : (k m : ℕ) → m < 2 ^ k → ones m ≡ how_many (in_number m) k
unfolding how_many one
many-ones zero m h = omega (arith, ones-le 0 m h)
many-ones (suc k) m h =
    let e : suc k ≡ 1 + k = omega arith in
    let z : m / 2 < 2 ^ k = omega (arith, pow-suc 2 k) in
    ones_step m ∙ ap₂ (λ (x y : ℕ). x + y) (low (m % 2) refl) (many-ones k (m / 2) z ∙ many-same (in_number (m / 2)) (λ j. in_number m (1 + j)) k (λ j l. sym (upper j)))
    ∙ sym (ap (how_many (in_number m)) e ∙ many-split (in_number m) 1 k)
  where
    upper : (j : ℕ) → in_number m (1 + j) ≡ in_number (m / 2) j
    upper j = let e : 1 + j ≡ suc j = omega arith in rw e (half_in m j)

    low : (d : ℕ) → m % 2 ≡ d → m % 2 ≡ how_many (in_number m) 1
    low zero e = rw (even-in m e) e
    low (suc d) e = rw (odd-in m d e) (omega arith)

-- ---- in lists

keep_one : (p : ℕ → Bool) (n : ℕ) → length (keep p (n ∷ [])) ≡ one (p n)
unfolding keep one
keep_one p n = go (p n)
  where
    go : (b : Bool) → length (cond b (n ∷ []) []) ≡ one b
    go true = refl
    go false = refl

many-kept : (p : ℕ → Bool) (from k : ℕ) → length (keep p (numbers from k)) ≡ how_many (λ j. p (from + j)) k
unfolding how_many keep numbers
many-kept p from zero = refl
many-kept p from (suc k) =
    ap (λ (xs : List ℕ). length (keep p xs)) (numbers-last k from)
    ∙ ap length (keep_append p (numbers from k) ((from + k) ∷ []))
    ∙ length-append (keep p (numbers from k)) (keep p ((from + k) ∷ []))
    ∙ ap₂ (λ (x y : ℕ). x + y) (many-kept p from k) (keep_one p (from + k))

from-none : (p : ℕ → Bool) (k : ℕ) → how_many (λ j. p (0 + j)) k ≡ how_many p k
from-none p k = many-same (λ j. p (0 + j)) p k (λ j h. let e : 0 + j ≡ j = omega arith in ap p e)

-- From 1 on there are no more.
left_less : (p : ℕ → Bool) → left p 1 ≤ how_many p 128
left_less p = omega (arith, many-kept p 1 127, many-split p 1 127)

-- Where nobody passes from 96 on, there are at most 96, and from 1 on at most 95.
none-many : (p : ℕ → Bool) (k : ℕ) → ((j : ℕ) → p j ≡ false) → how_many p k ≡ 0
unfolding how_many one
none-many p zero h = refl
none-many p (suc k) h = rw (none-many p k h, h k)

many-low : (p : ℕ → Bool) → ((n : ℕ) → 96 ≤ n → p n ≡ false) → how_many p 128 ≤ 96
many-low p h = omega (arith, many-split p 96 32, many-most p 96, none-many (λ j. p (96 + j)) 32 (λ j. h (96 + j) (omega arith)))

pub left-most : (p : ℕ → Bool) → ((n : ℕ) → 96 ≤ n → p n ≡ false) → left p 1 ≤ 95
left-most p h =
    omega (
      arith,
      many-kept p 1 127,
      many-split (λ j. p (1 + j)) 95 32,
      many-most (λ j. p (1 + j)) 95,
      none-many (λ j. p (1 + (95 + j))) 32 (λ j. h (1 + (95 + j)) (omega arith)),
    )

size-many : (p : ℕ → Bool) → size_of p ≡ how_many p 128
unfolding size_of
size-many p = many-kept p 0 128 ∙ from-none p 128

-- ---- masks as sent

words-pair : (m : Applications) (a : ℕ) → a < 128 → in_words (m.standard ∷ m.user ∷ []) a ≡ at_place m a
unfolding in_words at_place
words-pair m a h = go (ltb a 64) refl
  where
    go : (b : Bool) → ltb a 64 ≡ b → in_number (get_or (m.standard ∷ m.user ∷ []) (a / 64) 0) (a % 64) ≡ cond b (in_number m.standard a) (in_number m.user (a - 64))
    go true e =
        let l = ltb-true a 64 e in
        let x : a / 64 ≡ 0 = omega arith in
        let y : a % 64 ≡ a = omega arith in
        rw (x, y)
    go false e =
        let l = ltb-false a 64 e in
        let x : a / 64 ≡ 1 = omega arith in
        let y : a % 64 ≡ a - 64 = omega arith in
        rw (x, y)

-- Eight bits in the other order are as many.
eight : (p : ℕ → Bool) → how_many (λ j. p (7 - j)) 8 ≡ how_many p 8
unfolding how_many
eight p = omega arith

turned-in : (k j : ℕ) → j < 8 → turned_place (8 * k + j) ≡ 8 * k + (7 - j)
unfolding turned_place
turned-in k j h = omega arith

many-turned : (p : ℕ → Bool) (k : ℕ) → how_many (λ n. p (turned_place n)) (8 * k) ≡ how_many p (8 * k)
unfolding how_many
many-turned p zero = refl
many-turned p (suc k) =
    let e : 8 * suc k ≡ 8 * k + 8 = omega arith in
    ap (how_many (λ n. p (turned_place n))) e
    ∙ many-split (λ n. p (turned_place n)) (8 * k) 8
    ∙ ap₂ (λ (x y : ℕ). x + y) (many-turned p k)
    (many-same (λ j. p (turned_place (8 * k + j))) (λ j. p (8 * k + (7 - j))) 8 (λ j h. ap p (turned-in k j h)) ∙ eight (λ j. p (8 * k + j)))
    ∙ sym (many-split p (8 * k) 8)
    ∙ ap (how_many p) (sym e)

both-pair : (m : Applications) → how_many (in_set m) 128 ≡ how_many (at_place m) 128
both-pair m = many-same (in_set m) (λ n. at_place m (turned_place n)) 128 (λ n h. sym (place_set m n)) ∙ many-turned (at_place m) 16

-- ---- room for all of a set, and for those of a set within it

pub record Few (m : Applications) (k : ℕ) : Type 0 where
  pub numbers : how_many (in_set m) 128 ≤ k
  pub bits : size_of (in_words (m.standard ∷ m.user ∷ [])) ≤ k
  pub others : left (in_set m) 1 ≤ k

few-of : (m : Applications) (k : ℕ) → how_many (in_set m) 128 ≤ k → Few m k
few-of m k h =
    record {
      numbers = h;
      bits = omega (arith, h, both-pair m, size_same (in_words (m.standard ∷ m.user ∷ [])) (at_place m) (words-pair m), size-many (at_place m));
      others = omega (arith, h, left_less (in_set m));
    }

pub few-named : (m : Applications) (k : ℕ) → how_many (at_place m) 128 ≤ k → Few m k
few-named m k h = few-of m k (omega (arith, h, both-pair m))

pub few-among : (m n : Applications) (k : ℕ) → ((i : ℕ) → in_set m i ≡ true → in_set n i ≡ true) → Few n k → Few m k
few-among m n k e f = few-of m k (omega (arith, f.numbers, many_more (in_set m) (in_set n) 128 (λ i h. e i)))

pub few-all : (m : Applications) → ((n : ℕ) → 96 ≤ n → in_set m n ≡ false) → Few m 96
few-all m h = few-of m 96 (many-low (in_set m) h)
