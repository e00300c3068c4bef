-- The classifier answers with the table: each single type by computing, the range by its law, the rest by being none of them.
use mathlib.Core.Path.{◌∙◌}
use Rattle.isis_kinds.proofs.classify_type.Goals.{in_default-via-then-t-lt33, in_default-via-else-t-lt33+else-t-lt40}
use native.Mathlib.Omega.{arith}
use Rattle.isis_kinds.proofs.Computing.{computing}
use Rattle.isis_kinds.proofs.Laws.{type-range, type-unknown}
use Rattle.isis_kinds.proofs.classify_type.Goals as goal

pub returns-in-3 : goal.returns-in-3
unfolding computing
returns-in-3 c = rw c.in-3.is c.rule_of.ensures

pub returns-in-9 : goal.returns-in-9
unfolding computing
returns-in-9 c = rw c.in-9.is c.rule_of-in-9.ensures

pub returns-in-10 : goal.returns-in-10
unfolding computing
returns-in-10 c = rw c.in-10.is c.rule_of-in-10.ensures

pub returns-in-11 : goal.returns-in-11
unfolding computing
returns-in-11 c = rw c.in-11.is c.rule_of-in-11.ensures

pub returns-in-14 : goal.returns-in-14
unfolding computing
returns-in-14 c = rw c.in-14.is c.rule_of-in-14.ensures

pub returns-in-16 : goal.returns-in-16
unfolding computing
returns-in-16 c = rw c.in-16.is c.rule_of-in-16.ensures

pub returns-in-18 : goal.returns-in-18
unfolding computing
returns-in-18 c = rw c.in-18.is c.rule_of-in-18.ensures

pub returns-in-33-to-39 : goal.returns-in-33-to-39
returns-in-33-to-39 c = c.range_rule.ensures ∙ type-range _ (omega arith) (omega arith)

pub returns-in_default : goal.returns-in_default
returns-in_default c =
    c.rule_of-in_default.ensures
    ∙ type-unknown c.args.t (λ e. omega (arith, e)) (λ e. omega (arith, e)) (λ e. omega (arith, e)) (λ e. omega (arith, e)) (λ e. omega (arith, e)) (λ e. omega (arith, e)) (λ e. omega (arith, e))
    (elim c.in_default.branch [
      | in_default-via-then-t-lt33 w ↦ λ k h g e. omega (arith, e)
      | in_default-via-else-t-lt33+else-t-lt40 w ↦ λ k h g e. omega (arith, e)
    ])
