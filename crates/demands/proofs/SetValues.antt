-- The value of a kind, from the attributes that are read together: absent, or of a right length. For SRLG this needs only that few bytes were read,
-- for any other kind that each attribute has a right length. A set of such values is within the bounds of `Values`. Assumes nothing.
use mathlib.Core.Path.{◌≡◌, refl, sym}
use mathlib.Core.Bool.{true, false, false≢true}
use mathlib.Core.List.Memᴰ
use mathlib.Core.List.{List, [], ◌∷◌, ◌++◌, Memᴰ}
use mathlib.Core.Logic.{◌⊎◌, inl, inr}
use Prim.Native.Nat.{ℕ, ◌≤◌, zero-le}
use native.Mathlib.Omega.{arith}
use borrow.Author.Tests.{eqb-true}
use lib.Dec.{eqb}
use lib.ListN.{length}
use Rattle.linkstate.specs.Lists.{keep, each, empty, member}
use Rattle.linkstate.specs.Limits.{most_in_ab, most_in_set}
use Rattle.linkstate.specs.Bytes.{words, distinct, bytes_of_words}
use Rattle.linkstate.specs.Kinds.{codes}
use Rattle.linkstate.specs.Attributes.{Attribute, of_kind, srlgs, first_value, value_of}
use Rattle.linkstate.specs.Export.{present}
use Rattle.linkstate.specs.WellFormed.{Values}
use Rattle.linkstate.proofs.ListLaws.{keep-mem, member-mem}
use Rattle.rivals.proofs.Sums.{sum_of, sum_of-le}
use Rattle.rivals.proofs.Sizes.{cost, costs, length-fours, length-bytes, size-present}
use Rattle.rivals.proofs.SrlgLaws.{canonical-twice}
use Rattle.demands.proofs.SrlgLengths.{value_bytes, length-srlgs}
use Rattle.demands.proofs.Lengths.{limit, RightLength, fours-right}

-- A value is absent or has a right length.
abbrev pub Right : ℕ → List ℕ → Type 0
Right k v = empty v ≡ false → RightLength k (length v)

-- Attributes of known kinds have right lengths.
abbrev pub Sound : List Attribute → Type 0
Sound ts = (t : Attribute) → Memᴰ t ts → member t.code codes ≡ true → RightLength t.code (length t.value)

pub sound-append : (ts us : List Attribute) → Sound ts → Sound us → Sound (ts ++ us)
sound-append ts us f g t i = go (Memᴰ.append_cases ts i)
  where
    go : Memᴰ t ts ⊎ Memᴰ t us → member t.code codes ≡ true → RightLength t.code (length t.value)
    go (inl j) = f t j
    go (inr j) = g t j

-- ---- one value

-- Any kind but SRLG: the value is that of one of the attributes.
pub first-right : (k : ℕ) (ts : List Attribute) → eqb k 1096 ≡ false → member k codes ≡ true → Sound ts → Right k (value_of k ts)
unfolding value_of of_kind first_value empty
first-right k ts e m s = rw e (go (keep (λ t. eqb k t.code) ts) (λ t i. keep-mem (λ t. eqb k t.code) ts i))
  where
    go : (us : List Attribute) → ((t : Attribute) → Memᴰ t us → (eqb k t.code ≡ true) × Memᴰ t ts) → Right k (first_value us)
    go [] f h = absurd (false≢true (sym h))
    go (t ∷ us) f h =
        let q = f t (Memᴰ.head refl) in
        let c : k ≡ t.code = eqb-true k t.code q.0 in
        rw c (s t q.1 (rw c at m))

-- SRLGs.
pub srlgs-right : (ts : List Attribute) → value_bytes ts ≤ most_in_ab → Right 1096 (value_of 1096 ts)
unfolding value_of
srlgs-right ts h e = rw (length-fours (srlgs ts)) (fours-right (length (srlgs ts)) (omega (arith, length-srlgs ts)))

-- SRLGs are in written form, whatever was read.
pub srlgs-canonical : (ts : List Attribute) → bytes_of_words (distinct (words (value_of 1096 ts))) ≡ value_of 1096 ts
unfolding value_of srlgs
srlgs-canonical ts = canonical-twice (each (λ t. words t.value) (of_kind 1096 ts))

-- ---- a set

pub value-limited : (k : ℕ) (v : List ℕ) → Right k v → cost v ≤ limit k
unfolding cost empty
value-limited k [] h = zero-le
value-limited k (b ∷ bs) h = (h refl).low

pub set-limited : (ks : List ℕ) (f : ℕ → List ℕ) → ((k : ℕ) → Memᴰ k ks → Right k (f k)) → costs ks f ≤ sum_of limit ks
unfolding costs
set-limited ks f h = sum_of-le (λ k. cost (f k)) limit ks (λ k i. value-limited k (f k) (h k i))

pub values_of : (ks : List ℕ) (f : ℕ → List ℕ) → sum_of limit ks ≤ most_in_set → bytes_of_words (distinct (words (f 1096))) ≡ f 1096
    → ((k : ℕ) → Memᴰ k ks → Right k (f k)) → Values ks f
values_of ks f l c h =
    record {
      right = λ k m e. (h k (member-mem k ks m) e).fit;
      canonical = c;
      small = omega (arith, length-bytes (present ks f), size-present ks f, set-limited ks f h);
    }
