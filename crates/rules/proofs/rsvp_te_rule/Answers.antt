-- Test by test.
use Rattle.rules.specs.Rules.{rsvp_te_rule}
use Rattle.rules.proofs.rsvp_te_rule.Goals as goal

pub returns-then-l : goal.returns-then-l
unfolding rsvp_te_rule
returns-then-l c = rw c.if-l.true

pub returns-then-named : goal.returns-then-named
unfolding rsvp_te_rule
returns-then-named c = rw (c.if-l.false, c.if-named.true)

pub returns-then-legacy : goal.returns-then-legacy
unfolding rsvp_te_rule
returns-then-legacy c = rw (c.if-l.false, c.if-named.false, c.if-legacy.true)

pub returns : goal.returns
unfolding rsvp_te_rule
returns c = rw (c.if-l.false, c.if-named.false, c.if-legacy.false)
