-- Room for the keys and sources of a link, by the lengths of its runs. Assumes nothing.
use Prim.Native.Nat.{ℕ, ◌≤◌}
use native.Mathlib.Omega.{arith}
use Rattle.isis_srlg_index.specs.Sources.{Room}

module _ (b c keys rows : ℕ) where
  pub room-short : b ≤ 320 → c ≤ 192 → 128 ≤ keys → 13 ≤ rows → Room b c keys rows
  room-short x y k r = record { short = (omega arith, omega arith); numbers = omega arith; sources = omega arith }

  pub room-long : b ≤ 2048 → c ≤ 1024 → 768 ≤ keys → 77 ≤ rows → Room b c keys rows
  room-long x y k r = record { short = (x, y); numbers = omega arith; sources = omega arith }
