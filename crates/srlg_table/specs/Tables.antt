-- The table of classes by their bits, with a head for each: its mark, and the next class of its bucket's chain.
use Rattle.std.specs.Prelude.{◌≡◌, Bool, true, false, cond, List, [], ◌∷◌, ℕ, suc, ◌*◌, ◌%◌, ◌≤◌, ◌<◌, eqb, length, get_or, set, Option, MatchOption}
use Rattle.linkstate.specs.Limits.{most_sources}
use Rattle.srlg_ranks.specs.Ranks.{keep_from, in_words}
use Rattle.srlg_sources.specs.Classes.{has_source, in_class}
use Rattle.srlg_table.specs.Chains.{Chain}
use Rattle.srlg_table.specs.Marks.{mark_of}

-- The same bits below n.
abbrev pub Equal : ℕ → (ℕ → Bool) → (ℕ → Bool) → Type 0
Equal n p q = (i : ℕ) → i < n → p i ≡ q i

-- How many bits below n are set: as many as numbers of any list of at most n that they pick, where they have none beyond it.
abbrev pub Counts : ℕ → (ℕ → Bool) → ℕ → Type 0
Counts n p k = (values : List ℕ) → length values ≤ n → ((i : ℕ) → length values ≤ i → i < n → p i ≡ false) → k ≡ length (keep_from p 0 values)

-- The sources of a class are among the first m.
abbrev pub Rowed : ℕ → List ℕ → Type 0
Rowed m class = (j : ℕ) → j < most_sources → has_source class j ≡ true → j < m

unfoldable pub bucket_of : List (List ℕ) → ℕ → ℕ
bucket_of heads c = get_or (get_or heads c []) 0 0 % 128

unfoldable pub next_of : List (List ℕ) → ℕ → ℕ
next_of heads c = get_or (get_or heads c []) 1 0

unfoldable pub first_of : List ℕ → ℕ → ℕ
first_of buckets b = get_or buckets b 0

-- A table of `count` classes of m sources, by the first words of their bits. Class 0 has none and stands in no chain.
pub record Table (rows : List (List ℕ)) (m words : ℕ) (classes heads : List (List ℕ)) (buckets : List ℕ) (count : ℕ) : Type 0 where
  pub room : (count ≤ length classes) × (count ≤ length heads)
  pub rowed : (c : ℕ) → c < count → Rowed m (get_or classes c [])
  pub counted : (c : ℕ) → c < count → Counts (64 * words) (in_class rows (get_or classes c [])) (get_or (get_or classes c []) 2 0)
  pub unwritten : (c : ℕ) → c < count → get_or (get_or classes c []) 3 0 ≡ 0
  pub none : (0 < count) × Equal (64 * words) (in_class rows (get_or classes 0 [])) (λ i. false)
  pub different : (c d : ℕ) → c < count → d < count → Equal (64 * words) (in_class rows (get_or classes c [])) (in_class rows (get_or classes d [])) → c ≡ d
  pub marked : (c : ℕ) → 0 < c → c < count → get_or (get_or heads c []) 0 0 ≡ mark_of words (in_class rows (get_or classes c []))
  pub chain : Chain 128 (bucket_of heads) (next_of heads) (first_of buckets) count

-- A search for bits: a class but 0 that has them, or none where none has them but class 0.
abbrev pub Finds : List (List ℕ) → ℕ → List ℕ → List (List ℕ) → ℕ → Option ℕ → Type 0
Finds rows words x classes count r =
    MatchOption r ((c : ℕ) → 0 < c → c < count → Equal (64 * words) (in_words x) (in_class rows (get_or classes c [])) → ⊥)
    (λ i. (0 < i) × (i < count) × Equal (64 * words) (in_words x) (in_class rows (get_or classes i [])))

-- What became of the tables: nothing, where no bit is set, or a class behind the others, first of its bucket's chain.
pub data Adds (words : ℕ) (x : List ℕ) (low high mark : ℕ) (classes heads : List (List ℕ)) (buckets : List ℕ) (count r : ℕ) (classes' heads' : List (List ℕ)) (buckets' : List ℕ) : Type 0 where
  nothing : Counts (64 * words) (in_words x) 0 → r ≡ 0 → classes' ≡ classes → heads' ≡ heads → buckets' ≡ buckets → Adds words x low high mark classes heads buckets count r classes' heads' buckets'
  another : (n : ℕ) → Counts (64 * words) (in_words x) n → (n ≡ 0 → ⊥) → r ≡ count → classes' ≡ set classes count (low ∷ high ∷ n ∷ 0 ∷ [])
      → heads' ≡ set heads count (mark ∷ get_or buckets (mark % 128) 0 ∷ []) → buckets' ≡ set buckets (mark % 128) count
      → Adds words x low high mark classes heads buckets count r classes' heads' buckets'

-- How many classes there are with class r, which may be a new one.
unfoldable pub with_class : ℕ → ℕ → ℕ
with_class count r = cond (eqb r count) (suc count) count

-- The class r of the joined bits of some sources, in a table that may have got it.
pub record Given (rows : List (List ℕ)) (m words low high : ℕ) (before after heads : List (List ℕ)) (buckets : List ℕ) (count r : ℕ) : Type 0 where
  pub table : Table rows m words after heads buckets (with_class count r)
  pub kept : (c : ℕ) → c < count → get_or after c [] ≡ get_or before c []
  pub here : r < with_class count r
  pub bits : Equal (64 * words) (in_class rows (get_or after r [])) (in_class rows (low ∷ high ∷ []))
