-- What the sets of an accepted IS-IS link weigh: this bounds its export, and each value in it. Assumes nothing.
use mathlib.Core.Bool.{Bool, cond}
use mathlib.Core.List.{List}
use Prim.Native.Nat.{ℕ, ◌+◌, ◌≤◌}
use native.Mathlib.Omega.{arith}
use lib.Dec.{eqb}
use Rattle.linkstate.specs.Kinds.{codes, application_codes}
use Rattle.linkstate.specs.Meaning.{Meaning, meaning, Accepted}
use Rattle.linkstate.specs.Export.{top_value}
use Rattle.isis.specs.Link.{link_source}
use Rattle.rivals.proofs.Bounds.{Within}
use Rattle.demands.proofs.MoreLists.{of-cond}
use Rattle.demands.proofs.Lengths.{limit}
use Rattle.demands.proofs.SetValues.{value-limited, set-limited}
use Rattle.demands.proofs.AcceptedLinks.{Limited, all-limits, application-limits, accepted-is-limited}

limit-small : (k : ℕ) → limit k ≤ 24 + 2384
unfolding limit
limit-small k = small (eqb k 1096) (omega arith) (small (eqb k 1173) (omega arith) (small (eqb k 1091) (omega arith) (small (eqb k 1115) (omega arith) (omega arith))))
  where
    small : (b : Bool) {x y : ℕ} → x ≤ 24 + 2384 → y ≤ 24 + 2384 → cond b x y ≤ 24 + 2384
    small b = of-cond (λ (n : ℕ). n ≤ 24 + 2384) b _ _

limited-within : (m : Meaning) → Limited m → Within 2436 2384 m
limited-within m h =
    record {
      together = omega (arith, set-limited codes (top_value m) h.top, all-limits);
      each = λ k i. omega (arith, value-limited k (top_value m k) (h.top k i), limit-small k);
      general = omega (arith, set-limited application_codes m.general h.general, application-limits);
      named = λ a e. omega (arith, set-limited application_codes (m.set a) (h.set a), application-limits);
    }

-- So the export of an accepted link has at most 2,436 + (8 + 2,384) + 95 * (24 + 2,384) bytes, and a value in it at most 20 + 2,384.
pub accepted-is-within : (a b c : List ℕ) → Accepted (link_source a b c) → Within 2436 2384 (meaning (link_source a b c))
accepted-is-within a b c h = limited-within _ (accepted-is-limited a b c h)
