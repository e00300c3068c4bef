-- Laws of parts of a run, of big-endian numbers, of writes into a buffer, and of equal runs.
-- Assumes nothing.
use mathlib.Core.Path.{◌≡◌, refl, sym, ◌∙◌, ap}
use mathlib.Core.Bool.{Bool, true, false, ◌&&◌}
use mathlib.Core.List.{List, [], ◌∷◌, ◌++◌, append_assoc}
use Prim.Native.Nat.{ℕ, zero, suc, ◌+◌, ◌-◌, ◌*◌, ◌/◌, ◌%◌, ◌^◌, ◌≤◌, ◌<◌}
use lib.Dec.{eqb}
use lib.ListN.{length, length-set, take, drop, get_or, set, length-append, length-drop, get_or-append, replicate, length-replicate}
use lib.Seq.{length-take-le, take-add, take-length, ext_get_or, take_at, drop_at, drop-drop, drop-cons, get_or-take, get_or-drop, sets-eq, paste, paste-zero, paste-suc}
use native.Mathlib.Nat.{zero-add, add_assoc, add-mul, mul_assoc, pow-suc, pow-succ', add-sub_cancel_left, mul-le-mul_right}
use native.Mathlib.Numerals.{add-one}
use native.Mathlib.Omega.{arith}
use borrow.Author.Tests.{eq-eqb, eqb-true}
use Rattle.std.proofs.lemmas.List.{drop-take, take-take}
use Rattle.std.specs.Int.{Width, w8, w16, w32, w64, w128, byte_len, byte_worth, sum_through, from_be_bytes, to_be_bytes}
use Rattle.std.specs.Cmp.Lexicographic.{pointwise}
use Rattle.linkstate.specs.Lists.{put, same_bytes}
use Rattle.linkstate.specs.Bytes.{number, number_from, two, four, bytes_at}

-- ---- parts of a run

module _ (s : List ℕ) (at : ℕ) where
  pub length-bytes_at : (n : ℕ) → at + n ≤ length s → length (bytes_at s at n) ≡ n
  unfolding bytes_at
  length-bytes_at n h = length-take-le n (drop at s) (rw length-drop (omega arith))

  -- The first byte of a part, and the rest.
  pub bytes_at-suc : (n : ℕ) → at < length s → bytes_at s at (suc n) ≡ get_or s at 0 ∷ bytes_at s (at + 1) n
  unfolding bytes_at
  bytes_at-suc n h = rw (add-one at, drop-cons s at 0 h)

  -- A part and the part right after it are one.
  pub bytes_at-add : (n m : ℕ) → bytes_at s at (n + m) ≡ bytes_at s at n ++ bytes_at s (at + n) m
  unfolding bytes_at
  bytes_at-add n m = take-add n m (drop at s) ∙ ap (λ (l : List ℕ). take n (drop at s) ++ take m l) (drop-drop n at s)

  -- The list of the code's slice from at to at + n.
  pub part-is : (n : ℕ) → take (at + n - at) (drop at s) ≡ bytes_at s at n
  unfolding bytes_at
  part-is n = rw (add-sub_cancel_left at n)

-- One byte more at the end of a part.
pub bytes_at-next : (s : List ℕ) (at n : ℕ) → at + n < length s → bytes_at s at (n + 1) ≡ bytes_at s at n ++ (get_or s (at + n) 0 ∷ [])
unfolding bytes_at
bytes_at-next s at n h = bytes_at-add s at n 1 ∙ ap (λ (l : List ℕ). bytes_at s at n ++ l) (bytes_at-suc s (at + n) 0 h)

-- Every number of a list is that of a byte.
abbrev pub Octets : List ℕ → Type 0
Octets s = (i : ℕ) → get_or s i 0 < 256

octets-take : (n : ℕ) (s : List ℕ) → Octets s → Octets (take n s)
octets-take zero s all i = omega arith
octets-take (suc n) [] all i = all i
octets-take (suc n) (b ∷ s) all zero = all 0
octets-take (suc n) (b ∷ s) all (suc i) = octets-take n s (λ j. all (suc j)) i

pub octets-bytes_at : (s : List ℕ) (at n : ℕ) → Octets s → Octets (bytes_at s at n)
unfolding bytes_at
octets-bytes_at s at n all = octets-take n (drop at s) (λ i. rw (get_or-drop at s i 0) (all (at + i)))

-- ---- numbers

pub number_from-append : (n : ℕ) (xs ys : List ℕ) → number_from n (xs ++ ys) ≡ number_from (number_from n xs) ys
unfolding number_from
number_from-append n [] ys = refl
number_from-append n (x ∷ xs) ys = number_from-append (n * 256 + x) xs ys

-- What stands in front counts 256 times more with each byte that follows.
pub number_from-is : (n : ℕ) (bs : List ℕ) → number_from n bs ≡ n * 256 ^ length bs + number bs
unfolding number_from number
number_from-is n [] = omega arith
number_from-is n (b ∷ bs) =
    let p = 256 ^ length bs in
    let e : n * 256 ^ suc (length bs) ≡ n * 256 * p = ap (λ (k : ℕ). n * k) (pow-succ' 256 (length bs)) ∙ sym (mul_assoc n 256 p) in
    number_from-is (n * 256 + b) bs ∙ rw (add-mul (n * 256) b p, e, zero-add b, number_from-is b bs) (add_assoc (n * 256 * p) (b * p) (number bs))

pub number_append : (xs ys : List ℕ) → number (xs ++ ys) ≡ number xs * 256 ^ length ys + number ys
unfolding number
number_append xs ys = number_from-append 0 xs ys ∙ number_from-is (number xs) ys

-- One byte more at the end.
pub number-next : (bs : List ℕ) (b : ℕ) → number (bs ++ (b ∷ [])) ≡ number bs * 256 + b
unfolding number number_from
number-next bs b = number_from-append 0 bs (b ∷ [])

-- n bytes write a number below 256 to the n.
pub number_lt : (bs : List ℕ) → Octets bs → number bs < 256 ^ length bs
unfolding number number_from
number_lt [] all = omega arith
number_lt (b ∷ bs) all =
    let p = 256 ^ length bs in
    let h = number_lt bs (λ i. all (suc i)) in
    let e = number_from-is (0 * 256 + b) bs in
    let m : (b + 1) * p ≤ 256 * p = rw (add-one b) (mul-le-mul_right p (all 0)) in
    rw (pow-succ' 256 (length bs)) (omega (arith, add-mul b 1 p))

pub length_two : (n : ℕ) → length (two n) ≡ 2
unfolding two
length_two n = refl

pub length-four : (n : ℕ) → length (four n) ≡ 4
unfolding four
length-four n = refl

pub number-two : (n : ℕ) → number (two n) ≡ n
unfolding number number_from two
number-two n = omega arith

-- The four bytes of a number are the two of each half.
pub four_is : (n : ℕ) → four n ≡ two (n / 65536) ++ two (n % 65536)
unfolding two four
four_is n =
    let a : n / 16777216 ≡ n / 65536 / 256 = omega arith in
    let b : n / 256 % 256 ≡ n % 65536 / 256 = omega arith in
    let c : n % 256 ≡ n % 65536 % 256 = omega arith in
    cc

pub number-four : (n : ℕ) → number (four n) ≡ n
number-four n =
    rw (four_is n, number_append (two (n / 65536)) (two (n % 65536)), number-two (n / 65536), number-two (n % 65536), length_two (n % 65536)) (omega arith)

-- Two halves of a number, as the two bytes of each.
pub four-head : (t n : ℕ) → n < 65536 → four (t * 65536 + n) ≡ two t ++ two n
four-head t n h =
    let a : (t * 65536 + n) / 65536 ≡ t = omega arith in
    let b : (t * 65536 + n) % 65536 ≡ n = omega arith in
    rw (four_is (t * 65536 + n), a, b)

-- The bytes of the number that four bytes write, and three.
pub four-number : (bs : List ℕ) → Octets bs → length bs ≡ 4 → four (number bs) ≡ bs
unfolding four number number_from
four-number (a ∷ b ∷ c ∷ d ∷ []) all e =
    let ha = all 0 in
    let hb = all 1 in
    let hc = all 2 in
    let hd = all 3 in
    let n = (((0 * 256 + a) * 256 + b) * 256 + c) * 256 + d in
    let p : n / 16777216 ≡ a = omega arith in
    let q : n / 65536 % 256 ≡ b = omega arith in
    let r : n / 256 % 256 ≡ c = omega arith in
    let s : n % 256 ≡ d = omega arith in
    cc
four-number [] all e = absurd (omega arith)
four-number (a ∷ []) all e = absurd (omega arith)
four-number (a ∷ b ∷ []) all e = absurd (omega arith)
four-number (a ∷ b ∷ c ∷ []) all e = absurd (omega arith)
four-number (a ∷ b ∷ c ∷ d ∷ x ∷ bs) all e = absurd (omega arith)

pub four-short : (bs : List ℕ) → Octets bs → length bs ≡ 3 → four (number bs) ≡ 0 ∷ bs
unfolding number number_from
four-short bs all e = four-number (0 ∷ bs) front (omega arith)
  where
    front : Octets (0 ∷ bs)
    front zero = omega arith
    front (suc i) = all i

-- ---- a number read byte by byte

-- r is the number of the n bytes at an offset.
abbrev pub Reads : List ℕ → ℕ → ℕ → ℕ → Type 0
Reads s at n r = (r ≡ number (bytes_at s at n)) × (r < 256 ^ n)

module _ (s : List ℕ) (at : ℕ) where
  -- b is the byte at an offset.
  abbrev Byte : ℕ → ℕ → Type 0
  Byte k b = (b ≡ get_or s k 0) × (b < 256)

  pub read_one : (b : ℕ) → Byte at b → at < length s → Reads s at 1 b
  unfolding number number_from bytes_at
  read_one b e h = (rw (drop-cons s at 0 h) (omega arith), e.1)

  -- One byte more, at any width.
  pub read_next : (n r b : ℕ) → Reads s at n r → Byte (at + n) b → at + n < length s → Reads s at (n + 1) (r * 256 + b)
  read_next n r b d e h = (
    rw (bytes_at-next s at n h, number-next (bytes_at s at n) (get_or s (at + n) 0)) (cc),
    rw (add-one n, pow-suc 256 n) (omega arith),
  )

  -- So any number of bytes.
  pub read_all : Octets s → (n : ℕ) → at + n ≤ length s → Reads s at n (number (bytes_at s at n))
  unfolding number number_from bytes_at
  read_all all zero h = (refl, omega arith)
  read_all all (suc n) h =
      let r = read_next n (number (bytes_at s at n)) (get_or s (at + n) 0) (read_all all n (omega arith)) (refl, all (at + n)) (omega arith) in
      (refl, rw (r.0, add-one n) at r.1)

-- ---- big-endian numbers as the standard library has them, at any width

worth-is : (i b : ℕ) → byte_worth i b ≡ b * 256 ^ i
worth-is zero b = omega arith
worth-is (suc i) b = refl

-- The first bytes: their number counts 256 times more for each byte that follows them.
module _ (bs : List ℕ) (m : ℕ) where
  abbrev Summed : ℕ → Type 0
  Summed k = sum_through (λ i. byte_worth (m - i) (get_or bs i 0)) k ≡ number (bytes_at bs 0 (k + 1)) * 256 ^ (m - k)

  first-number : 0 < length bs → number (bytes_at bs 0 1) ≡ get_or bs 0 0
  unfolding number number_from bytes_at
  first-number h = rw (drop-cons bs 0 0 h) (omega arith)

  next-number : (k : ℕ) → suc k < length bs → number (bytes_at bs 0 (suc k + 1)) ≡ number (bytes_at bs 0 (k + 1)) * 256 + get_or bs (suc k) 0
  next-number k h =
      let e : k + 1 ≡ suc k = omega arith in
      ap number (bytes_at-next bs 0 (suc k) (omega arith))
      ∙ number-next (bytes_at bs 0 (suc k)) (get_or bs (0 + suc k) 0)
      ∙ rw (e, zero-add (suc k)) refl

  summed : (k : ℕ) → k ≤ m → k < length bs → Summed k
  summed zero h l =
      let e : m - 0 ≡ m = omega arith in
      rw (first-number l, e) (worth-is m (get_or bs 0 0))
  summed (suc k) h l =
      let b = get_or bs (suc k) 0 in
      let r = number (bytes_at bs 0 (k + 1)) in
      let i = m - suc k in
      let f : m - k ≡ suc i = omega arith in
      let p : r * 256 ^ (m - k) ≡ r * 256 * 256 ^ i = rw (f, pow-succ' 256 i) (sym (mul_assoc r 256 (256 ^ i))) in
      rw (next-number k l, add-mul (r * 256) b (256 ^ i)) (omega (arith, summed k (omega arith) (omega arith), p, worth-is i b))

has-bytes : (w : Width) → 0 < byte_len w
has-bytes w8 = omega arith
has-bytes w16 = omega arith
has-bytes w32 = omega arith
has-bytes w64 = omega arith
has-bytes w128 = omega arith

bytes_at-whole : (s : List ℕ) → bytes_at s 0 (length s) ≡ s
unfolding bytes_at
bytes_at-whole s = take-length s

pub number-be : (w : Width) (bs : List ℕ) → length bs ≡ byte_len w → from_be_bytes w bs ≡ number bs
number-be w bs l =
    let m = byte_len w - 1 in
    let all : m + 1 ≡ length bs = omega (arith, l, has-bytes w) in
    let none : m - m ≡ 0 = omega arith in
    summed bs m m (omega arith) (omega (arith, all)) ∙ rw (none, all, bytes_at-whole bs) (omega arith)

-- Zeros in front change nothing.
pub number-zeros : (z : ℕ) (bs : List ℕ) → number (replicate z 0 ++ bs) ≡ number bs
unfolding number number_from
number-zeros zero bs = refl
number-zeros (suc z) bs = number-zeros z bs

module _ (s : List ℕ) (at : ℕ) where
  -- What a width reads of n bytes, with zeros in front where it has more.
  pub read_be : Octets s → (w : Width) (z n : ℕ) → z + n ≡ byte_len w → at + n ≤ length s → Reads s at n (from_be_bytes w (replicate z 0 ++ bytes_at s at n))
  read_be all w z n e h =
      let size : length (replicate z 0 ++ bytes_at s at n) ≡ byte_len w = length-append (replicate {A = ℕ} z 0) (bytes_at s at n)
      ∙ rw (length-replicate, length-bytes_at s at n h) e in
      rw (number-be w (replicate z 0 ++ bytes_at s at n) size, number-zeros z (bytes_at s at n)) (read_all s at all n h)

  -- The bytes at an offset, one by one.
  abbrev pub behind : ℕ → ℕ → List ℕ
  behind i zero = []
  behind i (suc n) = get_or s (at + i) 0 ∷ behind (suc i) n

  bytes-behind : (i n : ℕ) → at + i + n ≤ length s → bytes_at s (at + i) n ≡ behind i n
  unfolding bytes_at
  bytes-behind i zero h = refl
  bytes-behind i (suc n) h =
      let e : at + i + 1 ≡ at + suc i = omega arith in
      bytes_at-suc s (at + i) n (omega arith) ∙ rw e (ap (λ (l : List ℕ). get_or s (at + i) 0 ∷ l) (bytes-behind (suc i) n (omega arith)))

  pub bytes-one_by_one : (n : ℕ) → at + suc n ≤ length s → bytes_at s at (suc n) ≡ get_or s at 0 ∷ behind 1 n
  bytes-one_by_one n h = bytes_at-suc s at n (omega arith) ∙ ap (λ (l : List ℕ). get_or s at 0 ∷ l) (bytes-behind 1 n (omega arith))

pub two-be : (n : ℕ) → n < 65536 → to_be_bytes w16 n ≡ two n
unfolding two
two-be n h = let e : n / 256 % 256 ≡ n / 256 = omega arith in ap (λ (k : ℕ). k ∷ n % 256 ∷ []) e

pub four-be : (n : ℕ) → n < 4294967296 → to_be_bytes w32 n ≡ four n
unfolding four
four-be n h = let e : n / 16777216 % 256 ≡ n / 16777216 = omega arith in ap (λ (k : ℕ). k ∷ n / 65536 % 256 ∷ n / 256 % 256 ∷ n % 256 ∷ []) e

-- ---- writes into a buffer

module _ {A : Type 0} where
  pub put-nil : (d : List A) (at : ℕ) → d ≡ put d at []
  unfolding put
  put-nil d at = paste-zero d at []

  pub put_one : (d : List A) (at : ℕ) (a : A) → at + 1 ≤ length d → set d at a ≡ put d at (a ∷ [])
  unfolding put
  put_one d at a h = sets-eq (a ∷ []) d at h

  module _ (d : List A) (at : ℕ) (vs : List A) (room : at + length vs ≤ length d) where
    front : length (take at d ++ vs) ≡ at + length vs
    front = length-append (take at d) vs ∙ ap (λ (k : ℕ). k + length vs) (length-take-le at d (omega arith))

    pub length-put : length (put d at vs) ≡ length d
    unfolding put
    length-put = length-append (take at d ++ vs) (drop (at + length vs) d) ∙ simp (front, length-drop) (omega arith)

    -- What stands before the end of a write, and after it.
    pub take_put : take (at + length vs) (put d at vs) ≡ take at d ++ vs
    unfolding put
    take_put = take_at (take at d ++ vs) (drop (at + length vs) d) (at + length vs) front

    pub drop-put : drop (at + length vs) (put d at vs) ≡ drop (at + length vs) d
    unfolding put
    drop-put = drop_at (take at d ++ vs) (drop (at + length vs) d) (at + length vs) front

  -- A write at the front.
  module _ (d vs : List A) (room : length vs ≤ length d) where
    pub front-is : take (length vs) (put d 0 vs) ≡ vs
    front-is = rw zero-add at (take_put d 0 vs (omega arith))

    pub rest-is : drop (length vs) (put d 0 vs) ≡ drop (length vs) d
    rest-is = rw zero-add at (drop-put d 0 vs (omega arith))

  put-put : (d : List A) (at : ℕ) (vs : List A) (k : ℕ) (ws : List A) → k ≡ at + length vs → k + length ws ≤ length d → put (put d at vs) k ws ≡ put d at (vs ++ ws)
  unfolding put
  put-put d at vs k ws e h =
      let p = take at d ++ vs in
      let r = drop (at + length vs) d in
      let n = length ws in
      let f : length p ≡ k = front d at vs (omega arith) ∙ sym e in
      let g : at + length vs + n ≡ at + length (vs ++ ws) = omega (arith, length-append vs ws) in
      ap (λ (l : List A). l ++ ws ++ drop (k + n) (p ++ r)) (take_at p r k f)
      ∙ ap (λ (l : List A). p ++ ws ++ l) (sym (drop-drop n k (p ++ r)) ∙ ap (drop n) (drop_at p r k f) ∙ drop-drop n (at + length vs) d)
      ∙ ap (λ (l : List A). l ++ drop (at + length vs + n) d) (append_assoc (take at d) vs ws)
      ∙ ap (λ (j : ℕ). take at d ++ (vs ++ ws) ++ drop j d) g

  -- A second write, right after a first, is one write of both.
  pub put_then : (d e f : List A) (at : ℕ) (vs : List A) (k : ℕ) (ws : List A)
      → e ≡ put d at vs → f ≡ put e k ws → k ≡ at + length vs → k + length ws ≤ length d → f ≡ put d at (vs ++ ws)
  put_then d e f at vs k ws p q r h = q ∙ ap (λ (l : List A). put l k ws) p ∙ put-put d at vs k ws r h

  -- Two elements stored one by one.
  pub set-two : (d : List A) (at : ℕ) (a b : A) → at + 2 ≤ length d → set (set d at a) (at + 1) b ≡ put d at (a ∷ b ∷ [])
  set-two d at a b h =
      put_then d (set d at a) (set (set d at a) (at + 1) b) at (a ∷ []) (at + 1) (b ∷ [])
      (put_one d at a (omega arith)) (put_one (set d at a) (at + 1) b (rw length-set (omega arith))) refl (omega arith)

  -- A part written as one.
  pub part-written : (d : List A) (at k : ℕ) (new vs : List A) → new ≡ vs → k ≡ length vs → take at d ++ (new ++ drop k (drop at d)) ≡ put d at vs
  unfolding put
  part-written d at k new vs e f = rw (e, f, drop-drop (length vs) at d) (sym (append_assoc (take at d) vs (drop (at + length vs) d)))

  -- A copy, element by element: i of them are copied.
  module _ (d : List A) (at : ℕ) (s : List A) (i : ℕ) (out : List A) (so : out ≡ paste d at s i) where
    pub copy-next : (z : A) → at + i < length d → i < length s → set out (at + i) (get_or s i z) ≡ paste d at s (i + 1)
    copy-next z h l = rw (so, add-one i) (paste-suc d at s i z h l)

    pub copy-end : i ≡ length s → out ≡ put d at s
    unfolding put
    copy-end e = so ∙ ap (paste d at s) e ∙ rw (take-length s)

-- A part of a buffer copied to another place of it: the byte to come.
pub get_d-bytes_at : (s : List ℕ) (at n i : ℕ) → i < n → get_or (bytes_at s at n) i 0 ≡ get_or s (at + i) 0
unfolding bytes_at
get_d-bytes_at s at n i h = get_or-take n (drop at s) i 0 h ∙ get_or-drop at s i 0

-- A part of what stands before an offset.
pub bytes_at-take : (s : List ℕ) (end at n : ℕ) → at + n ≤ end → bytes_at (take end s) at n ≡ bytes_at s at n
unfolding bytes_at
bytes_at-take s end at n h =
    let e : at + (end - at) ≡ end = omega arith in
    ap (λ (i : ℕ). take n (drop at (take i s))) (sym e) ∙ ap (take n) (drop-take at (end - at) s) ∙ take-take n (end - at) (drop at s) (omega arith)

pub copy-part-next : (d : List ℕ) (from n to i : ℕ) (out : List ℕ) → out ≡ paste d to (bytes_at d from n) i → (b : ℕ) → b ≡ get_or d (from + i) 0 → i < n → from + n ≤ to → to + n ≤ length d
    → set out (to + i) b ≡ paste d to (bytes_at d from n) (i + 1)
copy-part-next d from n to i out so b e h l k =
    rw (e ∙ sym (get_d-bytes_at d from n i h)) (copy-next d to (bytes_at d from n) i out so 0 (omega arith) (omega (arith, length-bytes_at d from n (omega arith))))

-- What is written is read back.
pub bytes_at-put : (d : List ℕ) (at : ℕ) (vs : List ℕ) → at + length vs ≤ length d → bytes_at (put d at vs) at (length vs) ≡ vs
unfolding bytes_at put
bytes_at-put d at vs room =
    ap (λ (l : List ℕ). take (length vs) (drop at l)) (append_assoc (take at d) vs (drop (at + length vs) d))
    ∙ ap (take (length vs)) (drop_at (take at d) (vs ++ drop (at + length vs) d) at (length-take-le at d (omega arith)))
    ∙ take_at vs (drop (at + length vs) d) (length vs) refl

-- What stands before a write stays.
module _ (d : List ℕ) (at : ℕ) (vs : List ℕ) (room : at + length vs ≤ length d) where
  get_d-before : (j : ℕ) → j < at → get_or (put d at vs) j 0 ≡ get_or d j 0
  unfolding put
  get_d-before j h =
      let l = length-take-le at d (omega arith) in
      ap (λ (x : List ℕ). get_or x j 0) (append_assoc (take at d) vs (drop (at + length vs) d))
      ∙ get_or-append (take at d) (vs ++ drop (at + length vs) d) 0 j (omega arith)
      ∙ get_or-take at d j 0 h

  pub bytes_at-before : (p n : ℕ) → p + n ≤ at → bytes_at (put d at vs) p n ≡ bytes_at d p n
  bytes_at-before p n h =
      let l = length-put d at vs room in
      let x = length-bytes_at (put d at vs) p n (omega arith) in
      let y = length-bytes_at d p n (omega arith) in
      ext_get_or 0 (bytes_at (put d at vs) p n) (bytes_at d p n) (x ∙ sym y) (λ i k.
      get_d-bytes_at (put d at vs) p n i (omega arith) ∙ get_d-before (p + i) (omega arith) ∙ sym (get_d-bytes_at d p n i (omega arith)))

-- ---- equal runs

pub same-complete : (x : List ℕ) → same_bytes x x ≡ true
unfolding same_bytes
same-complete [] = refl
same-complete (a ∷ x) = rw (eq-eqb a a refl, same-complete x)

pub same-sound : (x y : List ℕ) → same_bytes x y ≡ true → x ≡ y
unfolding same_bytes
same-sound [] [] e = refl
same-sound [] (b ∷ y) e = cc
same-sound (a ∷ x) [] e = cc
same-sound (a ∷ x) (b ∷ y) e = go (eqb a b) refl e (same-sound x y)
  where
    go : (t : Bool) → eqb a b ≡ t → (t && same_bytes x y) ≡ true → (same_bytes x y ≡ true → x ≡ y) → a ∷ x ≡ b ∷ y
    go true f e rest = cc (eqb-true a b f, rest e)
    go false f e rest = cc

pub same_not : (x y : List ℕ) → (x ≡ y → ⊥) → false ≡ same_bytes x y
same_not x y h = go (same_bytes x y) refl
  where
    go : (t : Bool) → same_bytes x y ≡ t → false ≡ t
    go true e = absurd (h (same-sound x y e))
    go false e = refl

-- Runs of different lengths are not equal.
pub same-lengths : (x y : List ℕ) → (length x ≡ length y → ⊥) → false ≡ same_bytes x y
same-lengths x y h = same_not x y (λ e. h (ap length e))

-- As the standard library compares them.
pub same-pointwise : (x y : List ℕ) → pointwise eqb x y ≡ same_bytes x y
unfolding same_bytes
same-pointwise [] [] = refl
same-pointwise [] (b ∷ y) = refl
same-pointwise (a ∷ x) [] = refl
same-pointwise (a ∷ x) (b ∷ y) = ap (λ (t : Bool). eqb a b && t) (same-pointwise x y)
