-- Demand 3: the *rivals* of a link, over its meaning.
use Rattle.std.specs.Prelude.{◌≡◌, true, List, ℕ}
use Rattle.linkstate.specs.Lists.{count, member}
use Rattle.linkstate.specs.Masks.{others}
use Rattle.linkstate.specs.Sides.{names}
use Rattle.linkstate.specs.Meaning.{Meaning, meaning, Same, Accepted}
use Rattle.linkstate.specs.BgpLs.{run_source, aslas}

-- A rival: an accepted run of the same meaning, of whose 1122s exactly one names each named application (rules L18, L20).
pub record IsRival (m : Meaning) (r : List ℕ) : Type 0 where
  pub accepted : Accepted (run_source r)
  pub same : Same m (meaning (run_source r))
  pub once : (a : ℕ) → member a others ≡ true → m.named a ≡ true → count (names a) (aslas r) ≡ 1
