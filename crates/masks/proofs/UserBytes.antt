-- How many bytes are read of a user mask: all below four, else four. Assumes nothing.
use mathlib.Core.Path.{◌≡◌}
use Prim.Native.Nat.{ℕ, ◌≤◌, ◌<◌}
use borrow.Author.Tests.{lt-ltb, le-ltb}
use Rattle.masks.specs.Applications.{user_bytes}

pub few_bytes_read : (n : ℕ) → n < 4 → user_bytes n ≡ n
few_bytes_read n h = rw (lt-ltb n 4 h)

pub four_bytes_read : (n : ℕ) → 4 ≤ n → user_bytes n ≡ 4
four_bytes_read n h = rw (le-ltb n 4 h)
