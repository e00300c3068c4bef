-- What the checks of a link answer: its refusal, or what the rule asks of its sides (rules R9, W1 to W3, E2a).
use Rattle.std.specs.Prelude.{◌≡◌, List, ℕ, Result}
use Rattle.isis.specs.RunA.{side_a}
use Rattle.isis.specs.RunB.{side_b}
use Rattle.isis.specs.Link.{link_verdict}
use Rattle.replies.specs.declared.Refusal.{Refusal}
use Rattle.replies.specs.Told.{told_checked}
use Rattle.rules.specs.Names.{Given, TellsSide}
use Rattle.isis_check.specs.declared.Sides.{Sides}

-- W1 to W3, E2a. Whom each side names, and whether its legacy attributes have a value of the eleven kinds.
pub record OfSides (a b c : List ℕ) (s : Sides) : Type 0 where
  pub in_a : TellsSide (side_a a) s.a
  pub in_b : TellsSide (side_b b c) s.b

pub record ChecksLink (a b c : List ℕ) (r : Result Sides Refusal) : Type 0 where
  pub told : told_checked r ≡ link_verdict a b c
  pub names : Given (OfSides a b c) r
