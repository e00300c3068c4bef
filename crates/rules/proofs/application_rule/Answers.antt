-- Test by test.
use Rattle.rules.specs.Rules.{application_rule}
use Rattle.rules.proofs.application_rule.Goals as goal

pub returns-then-l : goal.returns-then-l
unfolding application_rule
returns-then-l c = rw c.if-l.true

pub returns-then-named : goal.returns-then-named
unfolding application_rule
returns-then-named c = rw (c.if-l.false, c.if-named.true)

pub returns : goal.returns
unfolding application_rule
returns c = rw (c.if-l.false, c.if-named.false)
