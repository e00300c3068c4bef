-- A TLV 238 whose identifier list lies within it: what `check_srlg` says from there on.
use Rattle.std.specs.Prelude.{Bool, true, false, cond, not, List, ◌≡◌, ℕ, ◌+◌, ◌%◌, ◌≤◌, ◌<◌, eqb, length, take, drop, Result}
use Rattle.linkstate.specs.Replies.{Verdict, accepted, fault, ◌then◌, run_b}
use Rattle.linkstate.specs.Elements.{faults}
use Rattle.replies.specs.declared.Refusal.{Refusal}
use Rattle.replies.specs.Told.{told_checked}
use Rattle.rules.specs.Names.{Given}
use Rattle.isis.specs.MaskHeader.{l_flag, header_length, mask_too_long, l_for_nobody}
use Rattle.isis.specs.RunB.{identifiers, identifier_bytes, check_identifier, ignored, srlg_values, live_srlg}

unfoldable pub parts_verdict : ℕ → List ℕ → Verdict
parts_verdict at v =
    faults run_b check_identifier (identifiers at v)
    then cond (ignored v (identifiers at v)) accepted (cond (l_flag v) accepted (cond (eqb (length (srlg_values v) % 4) 0) accepted (fault 4 run_b at)))

-- What follows the neighbour bytes of the TLV that stands in run B from `at` to `end`.
abbrev pub behind_in : List ℕ → ℕ → ℕ → List ℕ
behind_in b at end = drop (at + 9) (take end b)

-- Its L-flag, and the places where its identifier list begins and ends.
pub record Within (b : List ℕ) (l : Bool) (from to end at : ℕ) : Type 0 where
  pub inside : end ≤ length b
  pub head : at + 9 ≤ end
  pub flag : l ≡ l_flag (behind_in b at end)
  pub readable : mask_too_long (behind_in b at end) ≡ false
  pub list : from ≡ at + 9 + header_length (behind_in b at end) + 1
  pub values : to ≡ from + identifier_bytes (behind_in b at end)
  pub fits : to ≤ end
  pub small : to < from + 256

-- Whether the TLV is live, v being what follows its neighbour bytes: L set for nobody is left to its masks, which name nobody.
abbrev pub Lives : ℕ → List ℕ → Bool → Type 0
Lives at v false = live_srlg at v ≡ false
Lives at v true = (mask_too_long v ≡ false) × (header_length v ≤ length v) × (live_srlg at v ≡ not (l_for_nobody v))

-- What its checks answer: their refusal, or whether it is live.
pub record Judges (w : Verdict) (at : ℕ) (v : List ℕ) (r : Result Bool Refusal) : Type 0 where
  pub told : told_checked r ≡ w
  pub lives : Given (Lives at v) r
