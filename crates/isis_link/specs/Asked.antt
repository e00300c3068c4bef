-- What the checks before an answer leave: the question's refusal, or all that the look-up may take for granted (rules R9, W1 to W3, E2a).
use Rattle.std.specs.Prelude.{◌≡◌, true, false, List, ℕ, eqb, Result}
use Rattle.linkstate.specs.Kinds.{is_code}
use Rattle.linkstate.specs.Replies.{accepted, run_a}
use Rattle.linkstate.specs.Elements.{elements, faults}
use Rattle.linkstate.specs.Questions.{Subject, number_too_high, before_answer}
use Rattle.isis.specs.RunA.{check_a, side_a}
use Rattle.isis.specs.Link.{link_verdict, link_source}
use Rattle.replies.specs.declared.Refusal.{Refusal}
use Rattle.replies.specs.Told.{told_checked}
use Rattle.rules.specs.declared.SideNames.{SideNames}
use Rattle.rules.specs.Names.{Given, TellsSide}
use Rattle.isis_check.specs.declared.Sides.{Sides}
use Rattle.isis_check.specs.Sides.{OfSides}

-- A question that nothing refuses but 5, with what the rule asks of the two sides of the link.
pub record Asked (a b c : List ℕ) (whom : Subject) (k : ℕ) (s : Sides) : Type 0 where
  pub link : link_verdict a b c ≡ accepted
  pub low : number_too_high whom ≡ false
  pub known : is_code k ≡ true
  pub sides : OfSides a b c s

pub record ChecksAsked (a b c : List ℕ) (whom : Subject) (k : ℕ) (r : Result Sides Refusal) : Type 0 where
  pub told : told_checked r ≡ before_answer (link_source a b c) whom k
  pub asked : Given (Asked a b c whom k) r

-- The same for a kind that stands in run A, of which alone it is asked, with what the rule asks of side A.
pub record AskedInA (a : List ℕ) (whom : Subject) (k : ℕ) (m : SideNames) : Type 0 where
  pub passed : faults run_a check_a (elements 1 0 a) ≡ accepted
  pub low : number_too_high whom ≡ false
  pub known : is_code k ≡ true
  pub other : eqb k 1096 ≡ false
  pub tells : TellsSide (side_a a) m
