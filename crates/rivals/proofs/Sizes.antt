-- What attributes and values weigh in bytes. A kind's value, written with its type and length, is no longer than the attributes that
-- it was read from (`value-cost`), and the attributes of an accepted list of elements are the whole list (`whole`).
use mathlib.Core.Path.{◌≡◌, refl}
use mathlib.Core.Bool.{Bool, true, false, cond}
use mathlib.Core.List.{List, [], ◌∷◌}
use Prim.Native.Nat.{ℕ, suc, ◌+◌, ◌*◌, ◌≤◌, zero-le}
use native.Mathlib.Nat.{le_refl, le_trans}
use native.Mathlib.Omega.{arith}
use borrow.Author.Tests.{eqb-true}
use lib.Dec.{ltb, eqb}
use lib.ListN.{length, length-append, length-drop}
use Rattle.linkstate.specs.Lists.{keep, each, empty}
use Rattle.linkstate.specs.Bytes.{words, insert, distinct, four, bytes_of_words, two}
use Rattle.linkstate.specs.Replies.{Run, Verdict, accepted, refused, Refusal, fault}
use Rattle.linkstate.specs.Elements.{Element, size_of, elements, faults}
use Rattle.linkstate.specs.Attributes.{Attribute, attribute, of_kind, srlgs, first_value, value_of}
use Rattle.linkstate.specs.BgpLs.{attributes_of}
use Rattle.linkstate.specs.Export.{Tlv, tlv, bytes_of, present}
use Rattle.linkstate.proofs.ElementLaws.{Framed, done, short, step, framed, value-length}
use Rattle.linkstate.proofs.ListLaws.{different}
use Rattle.linkstate.proofs.WalkLaws.{then-second}
use Rattle.rivals.proofs.Sums.{sum_of, sum_if, sum_of-le, sum_of-keep, parts}

-- ---- checks in turn

pub not-refused : {A : Type 0} (x : Refusal) → refused x ≡ accepted → A
not-refused x h = let z : ◌≡◌ {A = ℕ} 0 1 = cc in absurd (omega arith)

-- ---- attributes

-- A type, a length and a value.
unfoldable pub weight : Attribute → ℕ
weight t = 4 + length t.value

whole_in : {at : ℕ} {s : List ℕ} {es : List Element} → Framed 2 at s es → (run : Run) (check : ℕ → ℕ → List ℕ → Verdict)
    → faults run check es ≡ accepted → sum_of weight (each attributes_of es) ≡ length s
unfolding faults fault attributes_of attribute each sum_of weight size_of
whole_in done run check h = refl
whole_in (short l) run check h = not-refused _ h
whole_in (step {at = at} {s = s} {es = es} l f) run check h =
    omega (arith, whole_in f run check (then-second (check at _ _) (faults run check es) h), value-length 2 s l, length-drop (size_of 2 s) s)

-- The elements that pass their checks are the whole list.
pub whole : (run : Run) (check : ℕ → ℕ → List ℕ → Verdict) (at : ℕ) (s : List ℕ)
    → faults run check (elements 2 at s) ≡ accepted → sum_of weight (each attributes_of (elements 2 at s)) ≡ length s
whole run check at s h = whole_in (framed 2 (omega arith) at s) run check h

-- ---- a value

-- With its type and length; nothing where it is absent.
unfoldable pub cost : List ℕ → ℕ
cost [] = 0
cost (b ∷ bs) = 4 + length (b ∷ bs)

cost-le : (v : List ℕ) → cost v ≤ 4 + length v
unfolding cost
cost-le [] = omega arith
cost-le (b ∷ bs) = omega arith

-- What a set's values weigh.
unfoldable pub costs : List ℕ → (ℕ → List ℕ) → ℕ
costs ks f = sum_of (λ k. cost (f k)) ks

-- ---- SRLGs: no more bytes than were read

pub length-fours : (ns : List ℕ) → length (bytes_of_words ns) ≡ 4 * length ns
unfolding bytes_of_words each four
length-fours [] = refl
length-fours (n ∷ ns) = omega (arith, length-fours ns)

length-insert : (n : ℕ) (ms : List ℕ) → length (insert n ms) ≤ suc (length ms)
unfolding insert
length-insert n [] = le_refl 1
length-insert n (m ∷ ms) = go (ltb n m) (ltb m n) (length-insert n ms)
  where
    go : (b c : Bool) → length (insert n ms) ≤ suc (length ms)
        → length (cond b (n ∷ m ∷ ms) (cond c (m ∷ insert n ms) (m ∷ ms))) ≤ suc (suc (length ms))
    go true c h = omega arith
    go false true h = omega arith
    go false false h = omega arith

pub length-distinct : (ns : List ℕ) → length (distinct ns) ≤ length ns
unfolding distinct
length-distinct [] = zero-le
length-distinct (n ∷ ns) = omega (arith, length-distinct ns, length-insert n (distinct ns))

pub length-words : (s : List ℕ) → 4 * length (words s) ≤ length s
unfolding words
length-words [] = zero-le
length-words (a ∷ []) = zero-le
length-words (a ∷ b ∷ []) = zero-le
length-words (a ∷ b ∷ c ∷ []) = zero-le
length-words (a ∷ b ∷ c ∷ d ∷ s) = omega (arith, length-words s)

-- The words of attributes, with four bytes for one header, weigh no more than the attributes.
words-weight : (t : Attribute) (ts : List Attribute) → 4 + 4 * length (each (λ t. words t.value) (t ∷ ts)) ≤ sum_of weight (t ∷ ts)
unfolding each sum_of weight
words-weight t [] = omega (arith, length-append (words t.value) [], length-words t.value)
words-weight t (u ∷ ts) =
    omega (
      arith,
      length-append (words t.value) (each (λ t. words t.value) (u ∷ ts)),
      length-words t.value,
      words-weight u ts,
    )

srlg-cost : (ts : List Attribute) → cost (bytes_of_words (distinct (each (λ t. words t.value) ts))) ≤ sum_of weight ts
unfolding each distinct bytes_of_words cost sum_of
srlg-cost [] = zero-le
srlg-cost (t ∷ ts) =
    let ns = each (λ t. words t.value) (t ∷ ts) in
    omega (arith, cost-le (bytes_of_words (distinct ns)), length-fours (distinct ns), length-distinct ns, words-weight t ts)

-- ---- a kind's value

first-cost : (ts : List Attribute) → cost (first_value ts) ≤ sum_of weight ts
unfolding first_value sum_of cost weight
first-cost [] = zero-le
first-cost (t ∷ ts) = omega (arith, cost-le t.value)

pub value-cost : (k : ℕ) (ts : List Attribute) → cost (value_of k ts) ≤ sum_if (λ t. eqb k t.code) weight ts
unfolding value_of srlgs of_kind
value-cost k ts = go (eqb k 1096) refl
  where
    go : (b : Bool) → eqb k 1096 ≡ b
        → cost (cond b (bytes_of_words (distinct (each (λ t. words t.value) (keep (λ t. eqb 1096 t.code) ts)))) (first_value (keep (λ t. eqb k t.code) ts)))
        ≤ sum_if (λ t. eqb k t.code) weight ts
    go true e =
        let z : k ≡ 1096 = eqb-true k 1096 e in
        rw z (omega (arith, srlg-cost (keep (λ t. eqb 1096 t.code) ts), sum_of-keep (λ t. eqb 1096 t.code) weight ts))
    go false e = omega (arith, first-cost (keep (λ t. eqb k t.code) ts), sum_of-keep (λ t. eqb k t.code) weight ts)

-- The kinds of a set that was read from attributes are together no longer than these.
pub set-cost : (ks : List ℕ) → different ks ≡ true → (ts : List Attribute) → costs ks (λ k. value_of k ts) ≤ sum_of weight ts
unfolding costs
set-cost ks d ts =
    le_trans (sum_of-le (λ k. cost (value_of k ts)) (λ k. sum_if (λ t. eqb k t.code) weight ts) ks (λ k m. value-cost k ts)) (parts (λ t. t.code) weight ks d ts)

-- ---- TLVs that are written

unfoldable pub size : Tlv → ℕ
size (tlv t v) = 4 + length v

pub length-bytes : (ts : List Tlv) → length (each bytes_of ts) ≡ sum_of size ts
unfolding each bytes_of two sum_of size
length-bytes [] = refl
length-bytes (tlv t v ∷ ts) = omega (arith, length-append v (each bytes_of ts), length-bytes ts)

pub size-present : (ks : List ℕ) (f : ℕ → List ℕ) → sum_of size (present ks f) ≡ costs ks f
unfolding present sum_of costs size cost empty
size-present [] f = refl
size-present (k ∷ ks) f = go (f k) (size-present ks f)
  where
    go : (v : List ℕ) → sum_of size (present ks f) ≡ costs ks f → sum_of size (cond (empty v) (present ks f) (tlv k v ∷ present ks f)) ≡ cost v + costs ks f
    go [] h = omega arith
    go (b ∷ bs) h = omega arith
