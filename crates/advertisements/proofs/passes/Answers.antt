-- Each arm is one test of the definitions.
use borrow.Author.Rules.{rules}
use Rattle.linkstate.specs.Sides.{names, general, rsvp_te_alone}
use Rattle.linkstate.specs.Why.{names_with_l}
use Rattle.advertisements.specs.Tests.{passing}
use Rattle.advertisements.proofs.passes.Goals as goal

pub returns-in-Names : goal.returns-in-Names
unfolding passing names
returns-in-Names c = search rules

pub returns-in-WithL : goal.returns-in-WithL
unfolding passing names_with_l names
returns-in-WithL c = search rules

pub returns-in-General : goal.returns-in-General
unfolding passing general
returns-in-General c = search rules

pub returns-in-WithoutL : goal.returns-in-WithoutL
unfolding passing
returns-in-WithoutL c = search rules

pub returns-in-RsvpTeAlone : goal.returns-in-RsvpTeAlone
unfolding passing rsvp_te_alone names
returns-in-RsvpTeAlone c = search rules
