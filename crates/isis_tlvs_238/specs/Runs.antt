-- What the functions ask of runs B and C, and what they leave in a lent list.
use Rattle.std.specs.Prelude.{◌≡◌, List, ℕ, ◌≤◌, length}
use Rattle.linkstate.specs.Lists.{put}
use Rattle.linkstate.specs.Replies.{accepted, run_b}
use Rattle.linkstate.specs.Elements.{elements, faults}
use Rattle.isis.specs.RunB.{check_b}
use Rattle.rules.specs.declared.Rule.{Rule}
use Rattle.rules.specs.declared.Rule.TheVariants.{ByL, Naming, General, Legacy, NamingFirst, AloneFirst, LegacyFirst}

-- The runs of a link that was accepted, as far as B and C go.
pub record Passed (b c : List ℕ) : Type 0 where
  pub checked : faults run_b check_b (elements 1 0 b) ≡ accepted
  pub short_b : length b ≤ 2048
  pub short_c : length c ≤ 1024

-- The numbers stand at the front of the list, which was `before`; r is how many.
pub record Fronts (before after : List ℕ) (r : ℕ) (numbers : List ℕ) : Type 0 where
  pub count : r ≡ length numbers
  pub list : after ≡ put before 0 numbers
  pub few : r ≤ 512
  pub room : r ≤ length before

-- The rules by which SRLGs are had: those of a bandwidth are none of them.
abbrev pub OnSideB : Rule → Type 0
OnSideB AloneFirst = ⊥
OnSideB LegacyFirst = ⊥
OnSideB ByL = Unit {0}
OnSideB (Naming n) = Unit {0}
OnSideB General = Unit {0}
OnSideB Legacy = Unit {0}
OnSideB NamingFirst = Unit {0}
