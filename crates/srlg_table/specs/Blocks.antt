-- Blocks of applications by the sources that name them. An application is given by its bit in sent masks, standard from 0 on, user from 64 on.
use Rattle.std.specs.Prelude.{◌≡◌, Bool, true, ◌&&◌, ◌||◌, not, List, [], ◌∷◌, ℕ, zero, suc, ◌+◌, ◌≤◌, ◌<◌, eqb, ltb, length, get_or}
use Rattle.linkstate.specs.Limits.{most_sources}
use Rattle.linkstate.specs.Lists.{numbers, keep}
use Rattle.srlg_ranks.specs.Ranks.{in_words}

-- How many of the bits of two masks pass a test.
unfoldable pub size_of : (ℕ → Bool) → ℕ
size_of p = length (keep p (numbers 0 128))

-- Two pairs of masks, or rows that begin with them, have the same applications.
abbrev pub Alike : List ℕ → List ℕ → Type 0
Alike x y = (a : ℕ) → a < 128 → in_words x a ≡ in_words y a

-- Whether the advertisement of source j names an application.
unfoldable pub named_by : List (List ℕ) → ℕ → ℕ → Bool
named_by rows j a = in_words (get_or (get_or rows j []) 16 0 ∷ get_or (get_or rows j []) 17 0 ∷ []) a

-- The sources below n that name it: the first two, legacy values and the general ones, are no advertisement's.
unfoldable pub naming : List (List ℕ) → ℕ → ℕ → ℕ → Bool
naming rows n a j = ltb 1 j && (ltb j n && named_by rows j a)

-- Whether a block has an application, and whether it has a source.
unfoldable pub in_block : List ℕ → ℕ → Bool
in_block b a = in_words b a

unfoldable pub block_source : List ℕ → ℕ → Bool
block_source b j = in_words (get_or b 2 0 ∷ get_or b 3 0 ∷ []) j

-- The applications x and y of a block, and source i besides its own.
pub record Part (b : List ℕ) (x y i : ℕ) (part : List ℕ) : Type 0 where
  pub masks : (a : ℕ) → a < 128 → in_block part a ≡ in_words (x ∷ y ∷ []) a
  pub sources : (j : ℕ) → j < most_sources → block_source part j ≡ block_source b j || eqb j i

-- The other applications of a block.
pub record Rest (b : List ℕ) (x y : ℕ) (rest : List ℕ) : Type 0 where
  pub masks : (a : ℕ) → a < 128 → in_block rest a ≡ in_block b a && not (in_words (x ∷ y ∷ []) a)
  pub sources : (j : ℕ) → block_source rest j ≡ block_source b j

-- What became of block k of n: all its applications are x and y, and it stays one; or those are a block more.
pub data Cut (blocks after : List (List ℕ)) (k n r x y i : ℕ) : Type 0 where
  whole : r ≡ n → Alike (x ∷ y ∷ []) (get_or blocks k []) → Part (get_or blocks k []) x y i (get_or after k []) → Cut blocks after k n r x y i
  two : r ≡ suc n → (Alike (x ∷ y ∷ []) (get_or blocks k []) → ⊥) → Rest (get_or blocks k []) x y (get_or after k []) → Part (get_or blocks k []) x y i (get_or after n []) → Cut blocks after k n r x y i

pub record Split (blocks after : List (List ℕ)) (k n r x y i : ℕ) : Type 0 where
  pub others : (l : ℕ) → l < n → (l ≡ k → ⊥) → get_or after l [] ≡ get_or blocks l []
  pub cut : Cut blocks after k n r x y i

-- The applications of the first n blocks, counted.
unfoldable pub total : List (List ℕ) → ℕ → ℕ
total blocks zero = 0
total blocks (suc n) = total blocks n + size_of (in_block (get_or blocks n []))

-- The applications of two masks in n blocks: each in one block alone, and no block without one.
pub record Laid (standard user : ℕ) (blocks : List (List ℕ)) (n : ℕ) : Type 0 where
  pub cover : (a : ℕ) → a < 128 → in_words (standard ∷ user ∷ []) a ≡ true → (k : ℕ) × (k < n) × (in_block (get_or blocks k []) a ≡ true)
  pub inside : (k a : ℕ) → k < n → a < 128 → in_block (get_or blocks k []) a ≡ true → in_words (standard ∷ user ∷ []) a ≡ true
  pub alone : (k l a : ℕ) → k < n → l < n → a < 128 → in_block (get_or blocks k []) a ≡ true → in_block (get_or blocks l []) a ≡ true → k ≡ l
  pub some : (k : ℕ) → k < n → 0 < size_of (in_block (get_or blocks k []))
  pub most : total blocks n ≤ size_of (in_words (standard ∷ user ∷ []))

-- And the sources of each block are those below `done` that name its applications.
pub record Blocks (rows : List (List ℕ)) (standard user : ℕ) (blocks : List (List ℕ)) (n done : ℕ) : Type 0 where
  pub laid : Laid standard user blocks n
  pub sources : (k a j : ℕ) → k < n → a < 128 → j < most_sources → in_block (get_or blocks k []) a ≡ true → block_source (get_or blocks k []) j ≡ naming rows done a j
