-- A length that is right in run A is right in BGP-LS: one test over the rows of the table, computed, gives it for every type.
-- `limit` is the most bytes that a kind's TLV has in the export of an IS-IS link. Assumes nothing.
use mathlib.Core.Path.{◌≡◌, refl, sym, ap, ◌∙◌}
use mathlib.Core.Logic.{◌⊎◌, inl, inr}
use mathlib.Core.Bool.{Bool, true, false, cond, ◌&&◌, not, false≢true}
use mathlib.Core.List.{List, [], ◌∷◌, map, Memᴰ}
use Prim.Native.Nat.{ℕ, suc, ◌+◌, ◌*◌, ◌%◌, ◌≤◌, zero-le}
use native.Mathlib.Omega.{arith}
use borrow.Author.Tests.{leb-true, le-leb, eqb-true, eq-eqb, not-true, not-false}
use lib.Dec.{leb, eqb}
use Rattle.linkstate.specs.Lists.{any, all, lookup, member}
use Rattle.linkstate.specs.Kinds.{Size, exactly, fours_from, fours_within, fits, Kind, kind, kinds, codes, has_code, wrong_at_top}
use Rattle.isis.specs.Types.{TypeInA, type_in_a, types, has_type, code_of_type, wrong_in_a}
use Rattle.rivals.proofs.KindLaws.{codes-different}
use Rattle.linkstate.proofs.ListLaws.{different, mem-map, mem-member, and_l, and_r, all-mem, any-mem, any-no}
use Rattle.demands.proofs.MoreLists.{any_false, lookup-cases}

-- Type, length and value: 4 bytes and at most 2,048 of SRLGs, at most 252 of an extended group, 32 of unreserved bandwidth, 8 of min/max delay, else 4.
unfoldable pub limit : ℕ → ℕ
limit k = cond (eqb k 1096) 2052 (cond (eqb k 1173) 256 (cond (eqb k 1091) 36 (cond (eqb k 1115) 12 8)))

-- A length that a BGP-LS value of the code may have, within the limit.
pub record RightLength (code n : ℕ) : Type 0 where
  pub fit : wrong_at_top code n ≡ false
  pub low : 4 + n ≤ limit code

-- ---- one row

-- The length in BGP-LS: "TE metric (4 bytes in BGP-LS, zero in front)".
unfoldable pub length_in_bgp_ls : Bool → ℕ → ℕ
length_in_bgp_ls front n = cond front (suc n) n

-- Whether every length of the first size is, in BGP-LS, of the second size and within a bound.
size_test : Size → Size → Bool → ℕ → Bool
size_test (exactly k) b front most = fits b (length_in_bgp_ls front k) && leb (4 + length_in_bgp_ls front k) most
size_test (fours_from l) b front most = false
size_test (fours_within l m) (exactly k) front most = false
size_test (fours_within l m) (fours_from k) front most = not front && leb k l && leb (4 + m) most
size_test (fours_within l m) (fours_within k o) front most = false

size-right : (i b : Size) (front : Bool) (most : ℕ) → size_test i b front most ≡ true → (n : ℕ) → fits i n ≡ true
    → (fits b (length_in_bgp_ls front n) ≡ true) × (4 + length_in_bgp_ls front n ≤ most)
unfolding size_test fits length_in_bgp_ls
size-right (exactly k) b front most h n f =
    let e : n ≡ k = eqb-true n k f in
    rw e (and_l (fits b (cond front (suc k) k)) (leb (4 + cond front (suc k) k) most) h, leb-true (4 + cond front (suc k) k) most (and_r (fits b (cond front (suc k) k)) (leb (4 + cond front (suc k) k) most) h))
size-right (fours_from l) b front most h n f = absurd (false≢true h)
size-right (fours_within l m) (exactly k) front most h n f = absurd (false≢true h)
size-right (fours_within l m) (fours_from k) true most h n f = absurd (false≢true h)
size-right (fours_within l m) (fours_from k) false most h n f =
    let low : k ≤ l = leb-true k l (and_l (leb k l) (leb (4 + m) most) h) in
    let high : 4 + m ≤ most = leb-true (4 + m) most (and_r (leb k l) (leb (4 + m) most) h) in
    let within = and_l (eqb (n % 4) 0 && leb l n) (leb n m) f in
    let over : l ≤ n = leb-true l n (and_r (eqb (n % 4) 0) (leb l n) within) in
    let under : n ≤ m = leb-true n m (and_r (eqb (n % 4) 0 && leb l n) (leb n m) f) in
    (rw (and_l (eqb (n % 4) 0) (leb l n) within, le-leb k n (omega arith)), omega arith)
size-right (fours_within l m) (fours_within k o) front most h n f = absurd (false≢true h)

-- ---- the table

-- No two rows have the same code: it stands nowhere else, so it shows the row.
elsewhere : (x : Kind) (qs : List Kind) → different (x.code ∷ map (λ q. q.code) qs) ≡ true → (q : Kind) → Memᴰ q qs → x.code ≡ q.code → ⊥
unfolding different
elsewhere x qs h q i e =
    let ms = map (λ q. q.code) qs in
    let a : member x.code ms ≡ false = not-true (member x.code ms) (and_l (not (member x.code ms)) (different ms) h) in
    let b : member q.code ms ≡ true = mem-member ms (mem-map (λ q. q.code) qs i) in
    false≢true (sym a ∙ ap (λ (n : ℕ). member n ms) e ∙ b)

one-row : (qs : List Kind) → different (map (λ q. q.code) qs) ≡ true → (q r : Kind) → Memᴰ q qs → Memᴰ r qs → q.code ≡ r.code → r ≡ q
unfolding different
one-row [] h q r m n c = elim m [ ]
one-row (x ∷ qs) h q r (Memᴰ.head d) (Memᴰ.head e) c = e ∙ sym d
one-row (x ∷ qs) h q r (Memᴰ.head d) (Memᴰ.tail j) c = absurd (elsewhere x qs h r j (sym (ap (λ (y : Kind). y.code) d) ∙ c))
one-row (x ∷ qs) h q r (Memᴰ.tail i) (Memᴰ.head e) c = absurd (elsewhere x qs h q i (sym (ap (λ (y : Kind). y.code) e) ∙ sym c))
one-row (x ∷ qs) h q r (Memᴰ.tail i) (Memᴰ.tail j) c = one-row qs (and_r (not (member x.code (map (λ q. q.code) qs))) (different (map (λ q. q.code) qs)) h) q r i j c

kinds-different : different (map (λ q. q.code) kinds) ≡ true
unfolding codes different
kinds-different = and_r (not (member 1122 codes)) (different codes) codes-different

-- A row's own size decides whether a length is wrong at its code.
row-decides : (q : Kind) (n : ℕ) → Memᴰ q kinds → fits q.bgpls_size n ≡ true → wrong_at_top q.code n ≡ false
unfolding wrong_at_top has_code
row-decides q n i f = any-no (λ r. has_code q.code r && not (fits r.bgpls_size n)) kinds (λ r j. go r j (has_code q.code r) refl)
  where
    go : (r : Kind) → Memᴰ r kinds → (b : Bool) → has_code q.code r ≡ b → b && not (fits r.bgpls_size n) ≡ false
    go r j true e = rw (one-row kinds kinds-different q r i j (eqb-true q.code r.code e), f)
    go r j false e = refl

pub zero-is-no-code : member 0 codes ≡ true → ⊥
unfolding member codes kinds kind
zero-is-no-code h = false≢true h

-- ---- the types

-- Whether every length that a type may have is right for its code and within its limit: a computed test.
row_test : TypeInA → Bool
row_test q = any (λ r. has_code q.code r && size_test q.size r.bgpls_size (eqb q.type 18) (limit q.code)) kinds

rows_right : all row_test types ≡ true
unfolding all any row_test size_test types type_in_a kinds kind has_code fits length_in_bgp_ls limit
rows_right = refl

row-right : (q : TypeInA) (t n : ℕ) → row_test q ≡ true → has_type t q ≡ true → fits q.size n ≡ true → RightLength q.code (length_in_bgp_ls (eqb t 18) n)
unfolding row_test has_type has_code
row-right q t n h y f =
    let test : Kind → Bool = λ r. size_test q.size r.bgpls_size (eqb q.type 18) (limit q.code) in
    let r = any-mem (λ r. eqb q.code r.code && test r) kinds h in
    let e : q.code ≡ r.0.code = eqb-true q.code r.0.code (and_l (eqb q.code r.0.code) (test r.0) r.2) in
    let s = size-right q.size r.0.bgpls_size (eqb q.type 18) (limit q.code) (and_r (eqb q.code r.0.code) (test r.0) r.2) n f in
    rw (eqb-true t q.type y) (record { fit = ap (λ (c : ℕ). wrong_at_top c (length_in_bgp_ls (eqb q.type 18) n)) e ∙ row-decides r.0 _ r.1 s.0; low = s.1 })

-- "a known kind .. has a wrong length": where A's check passes a known type, the length is right for its code.
pub type-right : (t n : ℕ) → wrong_in_a t n ≡ false → member (code_of_type t) codes ≡ true → RightLength (code_of_type t) (length_in_bgp_ls (eqb t 18) n)
unfolding wrong_in_a code_of_type
type-right t n w m = go (lookup-cases (has_type t) (λ q. q.code) 0 types)
  where
    found : (q : TypeInA) → Memᴰ q types → has_type t q ≡ true → RightLength q.code (length_in_bgp_ls (eqb t 18) n)
    found q i e =
        let f : fits q.size n ≡ true = not-false _ (rw e at (any_false (λ r. has_type t r && not (fits r.size n)) types w i)) in
        row-right q t n (all-mem row_test types rows_right i) e f

    go : ((q : TypeInA) × Memᴰ q types × (has_type t q ≡ true) × (lookup (has_type t) (λ q. q.code) 0 types ≡ q.code)) ⊎ (lookup (has_type t) (λ q. q.code) 0 types ≡ 0)
        → RightLength (lookup (has_type t) (λ q. q.code) 0 types) (length_in_bgp_ls (eqb t 18) n)
    go (inl r) = rw r.3 (found r.0 r.1 r.2)
    go (inr e) = absurd (zero-is-no-code (rw e at m))

-- SRLGs: any multiple of four is right.
pub fours-right : (n : ℕ) → 4 + 4 * n ≤ 2052 → RightLength 1096 (4 * n)
unfolding limit wrong_at_top any kinds kind has_code fits
fours-right n h = record { fit = rw (eq-eqb (4 * n % 4) 0 (omega arith), le-leb 0 (4 * n) zero-le); low = h }
