-- Entries of a table in chains, so that a search meets only those that share a bucket.
use Rattle.std.specs.Prelude.{◌≡◌, ℕ, ◌≤◌, ◌<◌}

-- Entries 1, 2, .. below count: `first b` is the last entry of bucket b, `next i` the last entry before i of i's bucket; 0 is no entry.
pub record Chain (buckets : ℕ) (bucket next first : ℕ → ℕ) (count : ℕ) : Type 0 where
  pub first_low : (b : ℕ) → b < buckets → first b < count
  pub first_in : (b : ℕ) → b < buckets → 0 < first b → bucket (first b) ≡ b
  pub first_last : (d : ℕ) → 0 < d → d < count → d ≤ first (bucket d)
  pub next_low : (i : ℕ) → 0 < i → i < count → next i < i
  pub next_in : (i : ℕ) → 0 < i → i < count → 0 < next i → bucket (next i) ≡ bucket i
  pub next_last : (i d : ℕ) → 0 < i → i < count → 0 < d → d < i → bucket d ≡ bucket i → d ≤ next i

-- A search of bucket b that has come to entry i: of every later entry of the bucket it is known that it is not what is sought.
pub record Search (bucket : ℕ → ℕ) (count b : ℕ) (Not : ℕ → Type 0) (i : ℕ) : Type 0 where
  pub low : i < count
  pub here : 0 < i → bucket i ≡ b
  pub past : (d : ℕ) → i < d → d < count → bucket d ≡ b → Not d
