-- The classifier answers with the table: each single code by computing, the range by its law, the rest by being none of them.
use mathlib.Core.Path.{◌∙◌}
use native.Mathlib.Omega.{arith}
use Rattle.kinds.proofs.Computing.{computing}
use Rattle.kinds.proofs.Laws.{code-range, code-unknown}
use Rattle.kinds.proofs.classify_code.Goals as goal
use Rattle.kinds.proofs.classify_code.Goals.{in_default-via-then-c-lt1114, in_default-via-else-c-lt1114+else-c-lt1121}

pub returns-in-1088 : goal.returns-in-1088
unfolding computing
returns-in-1088 c = rw c.in-1088.is c.rule_of.ensures

pub returns-in-1089 : goal.returns-in-1089
unfolding computing
returns-in-1089 c = rw c.in-1089.is c.rule_of-in-1089.ensures

pub returns-in-1090 : goal.returns-in-1090
unfolding computing
returns-in-1090 c = rw c.in-1090.is c.rule_of-in-1090.ensures

pub returns-in-1091 : goal.returns-in-1091
unfolding computing
returns-in-1091 c = rw c.in-1091.is c.rule_of-in-1091.ensures

pub returns-in-1092 : goal.returns-in-1092
unfolding computing
returns-in-1092 c = rw c.in-1092.is c.rule_of-in-1092.ensures

pub returns-in-1096 : goal.returns-in-1096
unfolding computing
returns-in-1096 c = rw c.in-1096.is c.rule_of-in-1096.ensures

pub returns-in-1122 : goal.returns-in-1122
unfolding computing
returns-in-1122 c = rw c.in-1122.is c.rule_of-in-1122.ensures

pub returns-in-1173 : goal.returns-in-1173
unfolding computing
returns-in-1173 c = rw c.in-1173.is c.rule_of-in-1173.ensures

pub returns-in-1114-to-1120 : goal.returns-in-1114-to-1120
returns-in-1114-to-1120 c = c.range_rule.ensures ∙ code-range _ (omega arith) (omega arith)

pub returns-in_default : goal.returns-in_default
returns-in_default c =
    c.rule_of-in_default.ensures
    ∙ code-unknown c.args.c (λ e. omega (arith, e)) (λ e. omega (arith, e)) (λ e. omega (arith, e)) (λ e. omega (arith, e)) (λ e. omega (arith, e)) (λ e. omega (arith, e)) (λ e. omega (arith, e)) (λ e. omega (arith, e))
    (elim c.in_default.branch [
      | in_default-via-then-c-lt1114 w ↦ λ k h g e. omega (arith, e)
      | in_default-via-else-c-lt1114+else-c-lt1121 w ↦ λ k h g e. omega (arith, e)
    ])
