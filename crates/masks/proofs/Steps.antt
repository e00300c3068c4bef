-- What the proofs of the functions cite: the members of a number under the operations of the code. Assumes nothing.
use mathlib.Core.Path.{◌≡◌, refl, sym, ap, ap₂, ◌∙◌}
use mathlib.Core.Bool.{Bool, true, false, cond, ◌||◌, ◌&&◌, not, false≢true}
use mathlib.Core.List.{List, [], ◌∷◌, ◌++◌}
use Prim.Native.Nat.{ℕ, zero, suc, ◌+◌, ◌-◌, ◌*◌, ◌/◌, ◌%◌, ◌^◌, ◌≤◌, ◌<◌}
use native.Mathlib.Nat.{pow-suc, mul_assoc, add_comm, zero-add, zero-div, div-eq_of_lt, div-eq_of_lt-le, le_trans, lt_of_lt_of_le, lt_irrefl, lt_of_not-le}
use native.Mathlib.Omega.{arith}
use borrow.Author.Tests.{ltb-true, ltb-false, leb-true, leb-false, lt-ltb, le-ltb}
use lib.Dec.{T, eqb, ltb, leb, eqb→eq, ltb→lt}
use lib.Arith.{digits_lt, digits_div}
use lib.Pow.{pow_mono, pow-add, split, low, field, shr-shr, shl-shr}
use lib.Bits.{bit_or, bit_and, bit_xor, or_shr, or_mod, and_shr, and_mod, xor_shr, xor_mod}
use lib.Count.{leading_top}
use borrow.Rule.Slice.PartMut.{put_mid}
use lib.ListN.{length, get_or, take, drop, length-append, length-drop}
use lib.Seq.{get_or-append_seam, get_or-drop, length-take-le, take_all}
use Rattle.std.proofs.lemmas.List.{append_assoc, append-nil, get_or-append-add, take-append-drop, take-take}
use Rattle.std.proofs.lemmas.Slice.{put_mid-paste}
use Rattle.linkstate.specs.Lists.{numbers, put}
use Rattle.linkstate.specs.Masks.{bit, one, as_number, in_number, last, last_below, bytes_to_hold, mask_size, mask_byte, mask}
use Rattle.std.specs.Int.{w32, w64, from_le_bytes, to_le_bytes}
use Rattle.masks.specs.Sets.{last_of, little_endian, turned_place, in_sent, four_bytes, exchanged}
use Rattle.std.specs.Prelude.{Option, Some, None, IfNone, IfSome}
use Rattle.masks.proofs.Laws.{below_suc, low_digit, digit-one, is_number, IsLast, last_some, last-is, none_is, byte-is, IsSize, size-cases, size_holds, size-least}
use Rattle.octets.proofs.Laws.{put-nil, put_then}

-- ---- a test at each number below k, computed

abbrev pub every : (ℕ → Bool) → ℕ → Bool
every f zero = true
every f (suc k) = f k && every f k

every-step : (a b : Bool) → T (a && b) → T a × T b
every-step true b h = (tt, h)
every-step false b h = absurd h

pub every-at : (f : ℕ → Bool) (k : ℕ) → T (every f k) → (n : ℕ) → n < k → T (f n)
every-at f zero h n l = absurd (omega arith)
every-at f (suc k) h n l = let s = every-step (f k) (every f k) h in below_suc (λ (i : ℕ). T (f i)) k (every-at f k s.1) s.0 n l

-- ---- the members of a part of a number

shifted : (m k n : ℕ) → in_number (m / 2 ^ k) n ≡ in_number m (k + n)
unfolding in_number
shifted m k n = ap (λ (x : ℕ). eqb (x % 2) 1) (shr-shr m k n)

lowest : (m k n : ℕ) → n < k → in_number (m % 2 ^ k) n ≡ in_number m n
unfolding in_number
lowest m k n h =
    ap (λ (x : ℕ). eqb x 1) (sym (low_digit (m % 2 ^ k) (m / 2 ^ k) n k h))
    ∙ ap (λ (x : ℕ). eqb (x / 2 ^ n % 2) 1) (add_comm (m % 2 ^ k) (m / 2 ^ k * 2 ^ k) ∙ split m k)

raised : (x k n : ℕ) → in_number (x * 2 ^ k) n ≡ leb k n && in_number x (n - k)
unfolding in_number
raised x k n = go (leb k n) refl
  where
    go : (b : Bool) → leb k n ≡ b → eqb (x * 2 ^ k / 2 ^ n % 2) 1 ≡ b && eqb (x / 2 ^ (n - k) % 2) 1
    go true e =
        let l = leb-true k n e in
        let f : n ≡ k + (n - k) = omega arith in
        ap (λ (i : ℕ). eqb (x * 2 ^ k / 2 ^ i % 2) 1) f
        ∙ ap (λ (i : ℕ). eqb (i % 2) 1) (sym (shr-shr (x * 2 ^ k) k (n - k)) ∙ ap (λ (i : ℕ). i / 2 ^ (n - k)) (shl-shr x k))
    go false e =
        ap (λ (i : ℕ). eqb (i / 2 ^ n % 2) 1) (sym (zero-add (x * 2 ^ k)))
        ∙ ap (λ (i : ℕ). eqb i 1) (low_digit 0 x n k (leb-false k n e)) ∙ rw zero-div

-- ---- two sets

-- an operation that goes digit by digit says of the members what it says of a digit
module _ (op : ℕ → ℕ → ℕ) (says : Bool → Bool → Bool)
    (shr : (a b k : ℕ) → op a b / 2 ^ k ≡ op (a / 2 ^ k) (b / 2 ^ k))
    (low : (a b k : ℕ) → op a b % 2 ^ k ≡ op (a % 2 ^ k) (b % 2 ^ k))
    (table : (x y : Bool) → eqb (op (one x) (one y)) 1 ≡ says x y) where
  op-in : (a b n : ℕ) → in_number (op a b) n ≡ says (in_number a n) (in_number b n)
  unfolding in_number
  op-in a b n =
      let x = a / 2 ^ n % 2 in
      let y = b / 2 ^ n % 2 in
      let e : x ≡ one (eqb x 1) = sym (digit-one x (omega arith)) in
      let f : y ≡ one (eqb y 1) = sym (digit-one y (omega arith)) in
      ap (λ (d : ℕ). eqb d 1) (ap (λ (d : ℕ). d % 2) (shr a b n) ∙ low (a / 2 ^ n) (b / 2 ^ n) 1 ∙ ap₂ op e f) ∙ table (eqb x 1) (eqb y 1)

or-table : (x y : Bool) → eqb (bit_or (one x) (one y)) 1 ≡ x || y
unfolding one
or-table true true = refl
or-table true false = refl
or-table false true = refl
or-table false false = refl

pub or-in : (a b n : ℕ) → in_number (bit_or a b) n ≡ in_number a n || in_number b n
or-in = op-in bit_or (λ x y. x || y) or_shr or_mod or-table

and-table : (x y : Bool) → eqb (bit_and (one x) (one y)) 1 ≡ x && y
unfolding one
and-table true true = refl
and-table true false = refl
and-table false true = refl
and-table false false = refl

pub and_in : (a b n : ℕ) → in_number (bit_and a b) n ≡ in_number a n && in_number b n
and_in = op-in bit_and (λ x y. x && y) and_shr and_mod and-table

xor-table : (x y : Bool) → eqb (bit_xor (one x) (one y)) 1 ≡ cond x (not y) y
unfolding one
xor-table true true = refl
xor-table true false = refl
xor-table false true = refl
xor-table false false = refl

-- the members of a that b does not have
pub minus-in : (a b n : ℕ) → in_number (bit_xor a (bit_and a b)) n ≡ in_number a n && not (in_number b n)
minus-in a b n =
    op-in bit_xor (λ x y. cond x (not y) y) xor_shr xor_mod xor-table a (bit_and a b) n
    ∙ ap (λ (y : Bool). cond (in_number a n) (not y) y) (and_in a b n) ∙ less (in_number a n) (in_number b n)
  where
    less : (x y : Bool) → cond x (not (x && y)) (x && y) ≡ x && not y
    less true y = refl
    less false y = refl

-- ---- the bits of each byte in the other order

pub exchange-in : (q m k n : ℕ) → n < 64
    → in_number (bit_or (bit_and q (m / 2 ^ k)) ((bit_and q m * 2 ^ k) % 2 ^ 64)) n ≡ exchanged (in_number q) (in_number m) k n
unfolding exchanged
exchange-in q m k n h =
    or-in (bit_and q (m / 2 ^ k)) ((bit_and q m * 2 ^ k) % 2 ^ 64) n
    ∙ ap₂ (λ x y. x || y)
    (and_in q (m / 2 ^ k) n ∙ ap (λ (x : Bool). in_number q n && x) (shifted m k n))
    (lowest (bit_and q m * 2 ^ k) 64 n h ∙ raised (bit_and q m) k n ∙ ap (λ (x : Bool). leb k n && x) (and_in q m (n - k)))

-- each place below 64 is either one of q's or k above one of q's; `place` is the other of the two
module _ (q k : ℕ) where
  unfoldable pub place : ℕ → ℕ
  place n = cond (in_number q n) (k + n) (n - k)

  unfoldable pub paired : ℕ → Bool
  paired n = cond (in_number q n) (not (leb k n && in_number q (n - k))) (leb k n && in_number q (n - k)) && ltb (place n) 64

or-false : (x : Bool) → x || false ≡ x
or-false true = refl
or-false false = refl

exchange-one : (b a c x y : Bool) → T (cond b (not (a && c)) (a && c)) → b && x || a && (c && y) ≡ cond b x y
exchange-one true true true x y t = absurd t
exchange-one true true false x y t = or-false x
exchange-one true false c x y t = or-false x
exchange-one false true true x y t = refl
exchange-one false true false x y t = absurd t
exchange-one false false c x y t = absurd t

at-place : (b : Bool) (p : ℕ → Bool) (i j : ℕ) → cond b (p i) (p j) ≡ p (cond b i j)
at-place true p i j = refl
at-place false p i j = refl

module _ (q k : ℕ) (all : T (every (paired q k) 64)) (m r : ℕ) (so : (n : ℕ) → n < 64 → in_number r n ≡ exchanged (in_number q) (in_number m) k n) where
  swap-in : (n : ℕ) → n < 64 → (place q k n < 64) × (in_number r n ≡ in_number m (place q k n))
  unfolding place paired exchanged
  swap-in n h =
      let t = every-step (cond (in_number q n) (not (leb k n && in_number q (n - k))) (leb k n && in_number q (n - k))) (ltb (place q k n) 64) (every-at (paired q k) 64 all n h) in (
        ltb→lt (place q k n) 64 t.1,
        so n h ∙ exchange-one (in_number q n) (leb k n) (in_number q (n - k)) (in_number m (k + n)) (in_number m (n - k)) t.0 ∙ at-place (in_number q n) (in_number m) (k + n) (n - k),
      )

-- three exchanges, one after the other, lead to the place in the turned byte
unfoldable pub mirrors : (q₁ q₂ q₃ : ℕ) → ℕ → Bool
mirrors q₁ q₂ q₃ n = eqb (place q₁ 1 (place q₂ 2 (place q₃ 4 n))) (turned_place n)

module _ (q₁ q₂ q₃ m a b r : ℕ)
    (first : (n : ℕ) → n < 64 → in_number a n ≡ exchanged (in_number q₁) (in_number m) 1 n)
    (second : (n : ℕ) → n < 64 → in_number b n ≡ exchanged (in_number q₂) (in_number a) 2 n)
    (third : (n : ℕ) → n < 64 → in_number r n ≡ exchanged (in_number q₃) (in_number b) 4 n) where
  pub turn_in : T (every (paired q₁ 1) 64) → T (every (paired q₂ 2) 64) → T (every (paired q₃ 4) 64) → T (every (mirrors q₁ q₂ q₃) 64)
      → (n : ℕ) → n < 64 → in_number r n ≡ in_number m (turned_place n)
  unfolding mirrors
  turn_in t₁ t₂ t₃ t n h =
      let i = place q₃ 4 n in
      let j = place q₂ 2 i in
      let (h₃, e₃) = swap-in q₃ 4 t₃ b r third n h in
      let (h₂, e₂) = swap-in q₂ 2 t₂ a b second i h₃ in
      let (h₁, e₁) = swap-in q₁ 1 t₁ m a first j h₂ in
      e₃ ∙ e₂ ∙ e₁ ∙ ap (in_number m) (eqb→eq (place q₁ 1 j) (turned_place n) (every-at (mirrors q₁ q₂ q₃) 64 t n h))

-- ---- a mask's bytes as a number

little-in : (s : List ℕ) → ((i : ℕ) → get_or s i 0 < 256) → (n : ℕ) → in_number (little_endian s) n ≡ eqb (get_or s (n / 8) 0 / 2 ^ (n % 8) % 2) 1
unfolding little_endian in_number
little-in [] small n = rw (zero-div (2 ^ n), zero-div (2 ^ (n % 8)))
little-in (b ∷ bs) small n = go (n / 8) refl (little-in bs (λ i. small (suc i)) (n - 8))
  where
    go : (i : ℕ) → n / 8 ≡ i → in_number (little_endian bs) (n - 8) ≡ eqb (get_or bs ((n - 8) / 8) 0 / 2 ^ ((n - 8) % 8) % 2) 1
        → eqb ((little_endian bs * 256 + b) / 2 ^ n % 2) 1 ≡ eqb (get_or (b ∷ bs) i 0 / 2 ^ (n % 8) % 2) 1
    go zero e ih =
        let f : n % 8 ≡ n = omega arith in
        rw (f, add_comm (little_endian bs * 256) b) (ap (λ (i : ℕ). eqb i 1) (low_digit b (little_endian bs) n 8 (omega arith)))
    go (suc i) e ih =
        let f : (n - 8) / 8 ≡ i = omega arith in
        let g : (n - 8) % 8 ≡ n % 8 = omega arith in
        let k : n ≡ 8 + (n - 8) = omega arith in
        let x = little_endian bs * 256 + b in
        ap (λ (j : ℕ). eqb (x / 2 ^ j % 2) 1) k ∙ ap (λ (j : ℕ). eqb (j % 2) 1) (sym (shr-shr x 8 (n - 8)))
        ∙ ap (λ (j : ℕ). eqb (j / 2 ^ (n - 8) % 2) 1) (digits_div (little_endian bs) (small 0)) ∙ (rw (f, g) at ih)

little-lt : (k : ℕ) (s : List ℕ) → ((i : ℕ) → get_or s i 0 < 256) → length s ≤ k → little_endian s < 256 ^ k
unfolding little_endian
little-lt zero [] small h = omega arith
little-lt zero (b ∷ bs) small h = absurd (omega arith)
little-lt (suc k) [] small h = rw (pow-suc 256 k) (omega (arith, little-lt k [] small (omega arith)))
little-lt (suc k) (b ∷ bs) small h = rw (pow-suc 256 k) (digits_lt (little-lt k bs (λ i. small (suc i)) (omega arith)) (small 0))

-- From the last byte to the first, m is the number of those passed.
pub record Passed (s rest : List ℕ) (m : ℕ) : Type 0 where
  pub tail : List ℕ
  pub whole : rest ++ tail ≡ s
  pub number : m ≡ little_endian tail

pub passed-none : (s : List ℕ) → Passed s s 0
unfolding little_endian
passed-none s = record { tail = []; whole = append-nil s; number = refl }

module _ (s rest : List ℕ) (m : ℕ) (p : Passed s rest m) where
  pub passed-next : (next : List ℕ) (b : ℕ) → rest ≡ next ++ (b ∷ []) → Passed s next (m * 256 + b)
  unfolding little_endian
  passed-next next b e = record {
    tail = b ∷ p.tail;
    whole = sym (append_assoc next (b ∷ []) p.tail) ∙ ap (λ (l : List ℕ). l ++ p.tail) (sym e) ∙ p.whole;
    number = ap (λ (x : ℕ). x * 256 + b) p.number;
  }

  pub passed-room : ((j : ℕ) → get_or s j 0 < 256) → length s ≤ 8 → (next : List ℕ) (b : ℕ) → rest ≡ next ++ (b ∷ []) → (m < 256 ^ 7) × (b < 256)
  passed-room small l next b e = (
    rw p.number (
        little-lt 7 p.tail (λ j. rw (sym (get_or-append-add rest p.tail j 0), p.whole) (small (length rest + j)))
        (omega (arith, length-append rest p.tail, ap length p.whole, ap length e, length-append next (b ∷ [])))),
    let w : next ++ (b ∷ p.tail) ≡ s = sym (append_assoc next (b ∷ []) p.tail) ∙ ap (λ (l : List ℕ). l ++ p.tail) (sym e) ∙ p.whole in rw (sym (get_or-append_seam next b p.tail 0), w) (small (length next)),
  )

-- four and eight bytes at once
pub four-all : (s : List ℕ) → length s ≡ 4 → from_le_bytes w32 s ≡ little_endian s
unfolding little_endian
four-all (a ∷ b ∷ c ∷ d ∷ []) l = omega arith
four-all [] l = absurd (omega arith)
four-all (a ∷ []) l = absurd (omega arith)
four-all (a ∷ b ∷ []) l = absurd (omega arith)
four-all (a ∷ b ∷ c ∷ []) l = absurd (omega arith)
four-all (a ∷ b ∷ c ∷ d ∷ x ∷ s) l = absurd (omega arith)

pub eight-all : (s : List ℕ) → length s ≡ 8 → from_le_bytes w64 s ≡ little_endian s
unfolding little_endian
eight-all (a ∷ b ∷ c ∷ d ∷ e ∷ f ∷ g ∷ h ∷ []) l = omega arith
eight-all [] l = absurd (omega arith)
eight-all (a ∷ []) l = absurd (omega arith)
eight-all (a ∷ b ∷ []) l = absurd (omega arith)
eight-all (a ∷ b ∷ c ∷ []) l = absurd (omega arith)
eight-all (a ∷ b ∷ c ∷ d ∷ []) l = absurd (omega arith)
eight-all (a ∷ b ∷ c ∷ d ∷ e ∷ []) l = absurd (omega arith)
eight-all (a ∷ b ∷ c ∷ d ∷ e ∷ f ∷ []) l = absurd (omega arith)
eight-all (a ∷ b ∷ c ∷ d ∷ e ∷ f ∷ g ∷ []) l = absurd (omega arith)
eight-all (a ∷ b ∷ c ∷ d ∷ e ∷ f ∷ g ∷ h ∷ x ∷ s) l = absurd (omega arith)

-- the bytes in front are the low digits
little-append : (xs ys : List ℕ) → little_endian (xs ++ ys) ≡ little_endian ys * 2 ^ (8 * length xs) + little_endian xs
unfolding little_endian
little-append [] ys = omega arith
little-append (b ∷ bs) ys =
    let e : 8 * length (b ∷ bs) ≡ 8 * length bs + 8 = omega arith in
    let p : 2 ^ (8 * length bs + 8) ≡ 2 ^ (8 * length bs) * 256 = pow-add 2 (8 * length bs) 8 in
    rw (little-append bs ys, e, p) (omega (arith, mul_assoc (little_endian ys) (2 ^ (8 * length bs)) 256))

little-small : (s : List ℕ) → ((i : ℕ) → get_or s i 0 < 256) → little_endian s < 2 ^ (8 * length s)
unfolding little_endian
little-small [] small = omega arith
little-small (b ∷ bs) small =
    let e : 8 * length (b ∷ bs) ≡ 8 * length bs + 8 = omega arith in
    rw (e, pow-add 2 (8 * length bs) 8) (omega (arith, little-small bs (λ i. small (suc i)), small 0))

-- so they are what is left by a power of their length
little-front : (xs ys : List ℕ) → ((i : ℕ) → get_or xs i 0 < 256) → little_endian (xs ++ ys) % 2 ^ (8 * length xs) ≡ little_endian xs
little-front xs ys small = ap (λ (x : ℕ). x % 2 ^ (8 * length xs)) (little-append xs ys) ∙ low (little_endian ys) (8 * length xs) (little-small xs small)

small-take : (n : ℕ) (s : List ℕ) → ((i : ℕ) → get_or s i 0 < 256) → (i : ℕ) → get_or (take n s) i 0 < 256
small-take zero s all i = omega arith
small-take (suc n) [] all i = all i
small-take (suc n) (b ∷ s) all zero = all 0
small-take (suc n) (b ∷ s) all (suc i) = small-take n s (λ j. all (suc j)) i

pub small-part : (s : List ℕ) → ((i : ℕ) → get_or s i 0 < 256) → (at n i : ℕ) → get_or (take n (drop at s)) i 0 < 256
small-part s small at n = small-take n (drop at s) (λ i. rw (get_or-drop at s i 0) (small (at + i)))

-- eight bytes shifted up and down again: the first n of them
pub front_all : (s : List ℕ) (x n : ℕ) → ((i : ℕ) → get_or s i 0 < 256) → length s ≡ 8 → x ≡ little_endian s → n ≤ 8 → x * 2 ^ (64 - 8 * n) % 2 ^ 64 / 2 ^ (64 - 8 * n) ≡ little_endian (take n s)
front_all s x n small is e g =
    let k = 64 - 8 * n in
    let j : 64 ≡ 8 * n + k = omega arith in
    let l : length (take n s) ≡ n = length-take-le n s (omega arith) in
    ap (λ (i : ℕ). x * 2 ^ k % 2 ^ i / 2 ^ k) j ∙ field (x * 2 ^ k) (8 * n) k
    ∙ ap (λ (i : ℕ). i % 2 ^ (8 * n)) (shl-shr x k ∙ e ∙ ap little_endian (sym (take-append-drop n s)))
    ∙ ap (λ (i : ℕ). little_endian (take n s ++ drop n s) % 2 ^ (8 * i)) (sym l)
    ∙ little-front (take n s) (drop n s) (small-take n s small)

-- the applications of a mask, by its bytes' number
pub sent-bit : (s : List ℕ) (m : ℕ) → ((i : ℕ) → get_or s i 0 < 256) → m ≡ little_endian s → (n : ℕ) → in_number m (turned_place n) ≡ bit s n
unfolding turned_place bit
sent-bit s m small e n =
    let f : (n / 8 * 8 + (7 - n % 8)) / 8 ≡ n / 8 = omega arith in
    let g : (n / 8 * 8 + (7 - n % 8)) % 8 ≡ 7 - n % 8 = omega arith in
    ap (λ (x : ℕ). in_number x (turned_place n)) e ∙ (rw (f, g) at (little-in s small (turned_place n)))

-- a set with those of a mask, of none or of some bytes
bit-none : (k : ℕ) → bit [] k ≡ false
unfolding bit
bit-none k = rw zero-div

pub sent-same : (m n : ℕ) (l : List ℕ) → n ≡ 0 → (k : ℕ) → in_number m (turned_place k) ≡ in_number m (turned_place k) || bit (take n l) k
sent-same m n l e k = rw (e, bit-none k) (sym (or-false (in_number m (turned_place k))))

pub sent-joined : (m x r : ℕ) (l : List ℕ) → ((i : ℕ) → get_or l i 0 < 256) → x ≡ little_endian l → ((n : ℕ) → in_number r n ≡ in_number m n || in_number x n)
    → (k : ℕ) → in_number r (turned_place k) ≡ in_number m (turned_place k) || bit l k
sent-joined m x r l small e j k = j (turned_place k) ∙ ap (λ (b : Bool). in_number m (turned_place k) || b) (sent-bit l x small e k)

-- turned round, it is the number of the mask
pub read-mask : (s : List ℕ) (m r : ℕ) → ((i : ℕ) → get_or s i 0 < 256) → r < 2 ^ 64 → m ≡ little_endian s
    → ((n : ℕ) → n < 64 → in_number r n ≡ in_number m (turned_place n)) → r ≡ as_number (bit s)
read-mask s m r small h e t = is_number r (bit s) h (λ n l. t n l ∙ sent-bit s m small e n)

-- ---- the members of a number

-- the highest digit of a number is its last member
module _ (m j : ℕ) (low : 2 ^ j ≤ m) (top : m < 2 ^ suc j) where
  top-member : in_number m j ≡ true
  unfolding in_number
  top-member =
      let e : m / 2 ^ j ≡ 1 = div-eq_of_lt-le (2 ^ j) (omega arith) (omega (arith, pow-suc 2 j)) in
      rw e

  top-later : (i : ℕ) → j < i → in_number m i ≡ false
  unfolding in_number
  top-later i h = rw (div-eq_of_lt (lt_of_lt_of_le top (pow_mono h)))

  pub number-last : (k : ℕ) → j < k → last_below k (in_number m) ≡ last j
  number-last k h = last-is k (in_number m) j (record { below = h; member = top-member; later = λ i l g. top-later i l })

pub zero-none : (n : ℕ) → in_number 0 n ≡ false
unfolding in_number
zero-none n = rw zero-div

-- the greatest power of two that is not above a number
pub last-power : (m : ℕ) (r : Option ℕ) → IfNone r (m ≡ 0) → IfSome r (λ k. 2 ^ k ≤ m) → IfSome r (λ k. m < 2 * 2 ^ k) → IfSome r (λ k. k < 64) → last_of r ≡ last_below 64 (in_number m)
last-power m None z a b h = sym (ap (λ (x : ℕ). last_below 64 (in_number x)) z ∙ none_is 64 (in_number 0) (λ j l. zero-none j))
last-power m (Some k) z a b h = sym (number-last m k a (omega (arith, pow-suc 2 k)) 64 h)

pub size-zero : mask_size (in_number 0) ≡ 0
unfolding mask_size bytes_to_hold
size-zero = rw (none_is 64 (in_number 0) (λ j h. zero-none j))

power-order : (a b m : ℕ) → 2 ^ a ≤ m → m < 2 ^ b → a < b
power-order a b m h l = lt_of_not-le (λ (g : b ≤ a). lt_irrefl m (lt_of_lt_of_le l (le_trans (pow_mono g) h)))

-- the size of a number's mask, from where its highest digit stands
module _ (m : ℕ) (some : 0 < m) (fits : m < 2 ^ 64) where
  size_top : (j : ℕ) → 2 ^ j ≤ m → m < 2 ^ suc j → mask_size (in_number m) ≡ cond (ltb j 32) 4 8
  unfolding mask_size bytes_to_hold
  size_top j a b = ap bytes_to_hold (number-last m j a b 64 (power-order j 64 m a fits))

  pub size-four : m < 2 ^ 32 → mask_size (in_number m) ≡ 4
  size-four h = let (j, e, a, b) = leading_top 64 m some fits in size_top j a b ∙ rw (lt-ltb j 32 (power-order j 32 m a h))

  pub size-eight : 2 ^ 32 ≤ m → mask_size (in_number m) ≡ 8
  size-eight h =
      let (j, e, a, b) = leading_top 64 m some fits in
      let l = power-order 32 (suc j) m h b in
      size_top j a b ∙ rw (le-ltb j 32 (omega arith))

-- ---- the place of an application's bit in a mask that is sent

unfoldable pub turns : ℕ → Bool
turns n = eqb (bit_xor n 7) (turned_place n) && ltb (turned_place n) 128

pub turned-is : T (every turns 128) → (n : ℕ) → n < 128 → (bit_xor n 7 ≡ turned_place n) × (bit_xor n 7 < 128)
unfolding turns
turned-is all n h =
    let t = every-step (eqb (bit_xor n 7) (turned_place n)) (ltb (turned_place n) 128) (every-at turns 128 all n h) in
    let e = eqb→eq (bit_xor n 7) (turned_place n) t.0 in
    (e, omega (arith, ltb→lt (turned_place n) 128 t.1))

-- ---- a mask that is written as it was sent

turned-low : (n k : ℕ) → IsSize k → turned_place n < 8 * k → n < 8 * k
unfolding turned_place
turned-low n k s h = omega arith

pub turned-back : (n : ℕ) → turned_place (turned_place n) ≡ n
unfolding turned_place
turned-back n = omega arith

pub turned-below : (n : ℕ) → n < 64 → turned_place n < 64
unfolding turned_place
turned-below n h = omega arith

-- it takes as many bytes as the number itself would, since no place leaves its byte
pub size-sent : (m : ℕ) → mask_size (in_sent m) ≡ mask_size (in_number m)
size-sent m =
    let p = in_number m in
    let q = in_sent m in
    let a : mask_size q ≤ mask_size p = size-least q (mask_size p) (size-cases p) (λ n h e. turned-low n (mask_size p) (size-cases p) (size_holds p (turned_place n) (turned-below n h) e)) in
    let b : mask_size p ≤ mask_size q =
    size-least p (mask_size q) (size-cases q) (λ n h e. turned-low n (mask_size q) (size-cases q) (size_holds q (turned_place n) (turned-below n h) (ap p (turned-back n) ∙ e))) in
    omega arith

-- E4. The last bit of a mask as sent and that of its number stand in the same byte, so the size is found from either.
pub same_byte : (m i j : ℕ) → last_below 64 (in_sent m) ≡ last i → last_below 64 (in_number m) ≡ last j → i / 8 ≡ j / 8
unfolding turned_place
same_byte m i j e f =
    let p = last_some 64 (in_sent m) i e in
    let q = last_some 64 (in_number m) j f in
    let a : turned_place i ≤ j = not-later (in_number m) j q (turned_place i) (turned-below i p.below) p.member in
    let b : turned_place j ≤ i = not-later (in_sent m) i p (turned_place j) (turned-below j q.below) (ap (in_number m) (turned-back j) ∙ q.member) in
    omega arith
  where
    not-later : (t : ℕ → Bool) (n : ℕ) → IsLast 64 t n → (k : ℕ) → k < 64 → t k ≡ true → k ≤ n
    not-later t n r k l h = go (ltb n k) refl
      where
        go : (b : Bool) → ltb n k ≡ b → k ≤ n
        go true g = absurd (false≢true (sym (r.later k (ltb-true n k g) l) ∙ h))
        go false g = ltb-false n k g

module _ (m : ℕ) (r : Option ℕ) (e : last_of r ≡ last_below 64 (in_number m)) where
  from_last : bytes_to_hold (last_of r) ≡ mask_size (in_sent m)
  unfolding mask_size
  from_last = ap bytes_to_hold e ∙ sym (size-sent m)

  pub size_none : r ≡ None → 0 ≡ mask_size (in_sent m)
  unfolding bytes_to_hold
  size_none f = sym (ap (λ (x : Option ℕ). bytes_to_hold (last_of x)) f) ∙ from_last

  pub size_low : (n : ℕ) → r ≡ Some n → n < 32 → 4 ≡ mask_size (in_sent m)
  unfolding bytes_to_hold
  size_low n f h = sym (ap (λ (x : Option ℕ). bytes_to_hold (last_of x)) f ∙ rw (lt-ltb n 32 h)) ∙ from_last

  pub size-high : (n : ℕ) → r ≡ Some n → 32 ≤ n → 8 ≡ mask_size (in_sent m)
  unfolding bytes_to_hold
  size-high n f h = sym (ap (λ (x : Option ℕ). bytes_to_hold (last_of x)) f ∙ rw (le-ltb n 32 h)) ∙ from_last

-- a byte of it
sent-byte : (m i : ℕ) → m / 2 ^ (8 * i) % 256 ≡ mask_byte (in_sent m) (8 * i)
unfolding turned_place
sent-byte m i =
    byte-is (in_sent m) (8 * i) (m / 2 ^ (8 * i) % 256) (omega arith) (λ j l.
    let f : 8 * i + j ≡ (8 * i + (7 - j)) / 8 * 8 + (7 - (8 * i + (7 - j)) % 8) = omega arith in
    lowest (m / 2 ^ (8 * i)) 8 j l ∙ shifted m (8 * i) j ∙ ap (in_number m) f)

module _ (m : ℕ) where
  pub mask-four : mask_size (in_sent m) ≡ 4 → mask (in_sent m) ≡ four_bytes m
  unfolding mask numbers four_bytes
  mask-four e =
      let a = sent-byte m 0 in
      let b = sent-byte m 1 in
      let c = sent-byte m 2 in
      let d = sent-byte m 3 in
      let z : m / 1 % 256 ≡ m % 256 = omega arith in
      rw e (cc)

  pub mask-eight : mask_size (in_sent m) ≡ 8 → mask (in_sent m) ≡ four_bytes m ++ four_bytes (m / 4294967296)
  unfolding mask numbers four_bytes
  mask-eight e =
      let a = sent-byte m 0 in
      let b = sent-byte m 1 in
      let c = sent-byte m 2 in
      let d = sent-byte m 3 in
      let f = sent-byte m 4 in
      let g = sent-byte m 5 in
      let h = sent-byte m 6 in
      let i = sent-byte m 7 in
      let z : m / 1 % 256 ≡ m % 256 = omega arith in
      let x : m / 1099511627776 ≡ m / 4294967296 / 256 = sym (shr-shr m 32 8) in
      let y : m / 281474976710656 ≡ m / 4294967296 / 65536 = sym (shr-shr m 32 16) in
      let w : m / 72057594037927936 ≡ m / 4294967296 / 16777216 = sym (shr-shr m 32 24) in
      rw e (cc)

module _ (m : ℕ) (fits : m < 2 ^ 64) (d : List ℕ) (at : ℕ) where
  abbrev Written : ℕ → List ℕ → Type 0
  Written r o = (r ≡ at + mask_size (in_sent m)) × (o ≡ put d at (mask (in_sent m)))

  pub sent-none : m ≡ 0 → mask_size (in_sent m) ≡ 0
  sent-none e = size-sent m ∙ ap (λ (k : ℕ). mask_size (in_number k)) e ∙ size-zero

  pub sent-four : 0 < m → m < 2 ^ 32 → mask_size (in_sent m) ≡ 4
  sent-four s h = size-sent m ∙ size-four m s fits h

  pub sent-eight : 2 ^ 32 ≤ m → mask_size (in_sent m) ≡ 8
  sent-eight h = size-sent m ∙ size-eight m (omega arith) fits h

  pub sent-some : 0 < m → 4 ≤ mask_size (in_sent m)
  sent-some s = go (ltb m 4294967296) refl
    where
      go : (b : Bool) → ltb m 4294967296 ≡ b → 4 ≤ mask_size (in_sent m)
      go true e = omega (arith, sent-four s (ltb-true m 4294967296 e))
      go false e = omega (arith, sent-eight (ltb-false m 4294967296 e))

  pub none_written : m ≡ 0 → Written at d
  unfolding mask numbers
  none_written e = let z = sent-none e in (omega arith, put-nil d at ∙ ap (put d at) (sym (rw z)))

  pub four-written : (o : List ℕ) → o ≡ put d at (four_bytes m) → 0 < m → m < 2 ^ 32 → Written (at + 4) o
  four-written o e s h = let z = sent-four s h in (omega arith, e ∙ ap (put d at) (sym (mask-four m z)))

  pub eight-written : (x o : List ℕ) → x ≡ put d at (four_bytes m) → o ≡ put x (at + 4) (four_bytes (m / 4294967296)) → 2 ^ 32 ≤ m → at + 8 ≤ length d → Written (at + 8) o
  unfolding four_bytes
  eight-written x o e f h k =
      let z = sent-eight h in (
        omega arith,
        put_then d x o at (four_bytes m) (at + 4) (four_bytes (m / 4294967296)) e f refl (omega arith) ∙ ap (put d at) (sym (mask-eight m z)),
      )

-- a part of a list written over
pub put-part : (d vs : List ℕ) (at k : ℕ) → k ≡ length vs → put_mid at k d vs ≡ put d at vs
unfolding put
put-part d vs at k e = put_mid-paste at k d vs vs k refl refl e ∙ rw (e, take_all (length vs) vs (omega arith))

-- the four low bytes of a number
pub four-low : (m : ℕ) → to_le_bytes w32 (m % 4294967296) ≡ four_bytes m
unfolding four_bytes
four-low m =
    let a : m % 4294967296 % 256 ≡ m % 256 = omega arith in
    let b : m % 4294967296 / 256 % 256 ≡ m / 256 % 256 = omega arith in
    let c : m % 4294967296 / 65536 % 256 ≡ m / 65536 % 256 = omega arith in
    let d : m % 4294967296 / 16777216 % 256 ≡ m / 16777216 % 256 = omega arith in
    cc

-- the first n of eight bytes that stand at the front of a part
pub front-part : (s eight : List ℕ) (at n : ℕ) → n ≤ 8 → eight ≡ take 8 (take (length s - at) (drop at s)) → take n eight ≡ take n (drop at s)
front-part s eight at n h e =
    let f : take (length s - at) (drop at s) ≡ drop at s = take_all (length s - at) (drop at s) (omega (arith, length-drop at s)) in
    rw (e, f) (take-take n 8 (drop at s) h)
