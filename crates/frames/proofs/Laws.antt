-- A whole element at a place, a part of a list, and what is left at its front. Assumes nothing.
use mathlib.Core.Path.{◌≡◌, ap, ◌∙◌}
use mathlib.Core.List.{List}
use Prim.Native.Nat.{ℕ, ◌+◌, ◌-◌, ◌≤◌}
use native.Mathlib.Omega.{arith}
use lib.ListN.{length, take, drop}
use Rattle.linkstate.specs.Elements.{elements}
use Rattle.linkstate.proofs.WalkLaws.{left, type_at, length_at}
use Rattle.octets.proofs.Laws.{length-bytes_at, part-is}

-- A whole element of type t with n value bytes stands at a position.
pub record IsWhole (w : ℕ) (s : List ℕ) (at t n : ℕ) : Type 0 where
  pub type : type_at w s at ≡ t
  pub size : length_at w s at ≡ n
  pub within : at + (w + w) + n ≤ length s

-- The part of the code's slice from p to p + n.
pub part_length : (s : List ℕ) (p n : ℕ) → p + n ≤ length s → length (take (p + n - p) (drop p s)) ≡ n
part_length s p n h = ap length (part-is s p n) ∙ length-bytes_at s p n h

-- ---- what is left

pub from_start : (w base : ℕ) (s : List ℕ) → left w base s 0 ≡ elements w base s
from_start w base s = let z : base + 0 ≡ base = omega arith in ap (λ (i : ℕ). elements w i s) z
