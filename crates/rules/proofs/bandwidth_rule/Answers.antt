-- Test by test.
use native.Mathlib.Omega.{arith}
use borrow.Author.Tests.{eq-eqb, ne_eqb}
use Rattle.rules.specs.Rules.{bandwidth_rule}
use Rattle.rules.proofs.bandwidth_rule.Goals as goal

pub returns-then-code-eq1089 : goal.returns-then-code-eq1089
unfolding bandwidth_rule
returns-then-code-eq1089 c = rw (eq-eqb c.args.code 1089 (omega arith))

pub returns-then-l : goal.returns-then-l
unfolding bandwidth_rule
returns-then-l c = rw (ne_eqb c.args.code 1089 (λ e. omega (arith, e)), c.if-l.true)

pub returns-then-named : goal.returns-then-named
unfolding bandwidth_rule
returns-then-named c = rw (ne_eqb c.args.code 1089 (λ e. omega (arith, e)), c.if-l.false, c.if-named.true)

pub returns : goal.returns
unfolding bandwidth_rule
returns c = rw (ne_eqb c.args.code 1089 (λ e. omega (arith, e)), c.if-l.false, c.if-named.false)
