-- The test of an application number, subject by subject; the general set has none.
use Rattle.linkstate.specs.Questions.{number_too_high}
use Rattle.replies.proofs.number_too_high.Goals as goal

pub returns-in-General : goal.returns-in-General
unfolding number_too_high
returns-in-General c = rw c.in-General.is

pub returns-in-Standard : goal.returns-in-Standard
unfolding number_too_high
returns-in-Standard c = rw c.in-Standard.is

pub returns-in-User : goal.returns-in-User
unfolding number_too_high
returns-in-User c = rw c.in-User.is
