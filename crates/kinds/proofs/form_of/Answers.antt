-- The form of a code: single codes by computing, the range by its law, the rest by being none of them.
use Rattle.kinds.proofs.Laws.{float-range, form-other}
use Rattle.kinds.proofs.Computing.{computing}
use native.Mathlib.Omega.{arith}
use Rattle.kinds.proofs.form_of.Goals as goal

pub returns-in-1089 : goal.returns-in-1089
unfolding computing
returns-in-1089 c = rw c.in-1089.is

pub returns-in-1090 : goal.returns-in-1090
unfolding computing
returns-in-1090 c = rw c.in-1090.is

pub returns-in-1091 : goal.returns-in-1091
unfolding computing
returns-in-1091 c = rw c.in-1091.is

pub returns-in-1096 : goal.returns-in-1096
unfolding computing
returns-in-1096 c = rw c.in-1096.is

pub returns-in-1115 : goal.returns-in-1115
unfolding computing
returns-in-1115 c = rw c.in-1115.is

pub returns-in-1173 : goal.returns-in-1173
unfolding computing
returns-in-1173 c = rw c.in-1173.is

pub returns-in-1118-to-1120 : goal.returns-in-1118-to-1120
returns-in-1118-to-1120 c = float-range _ (omega arith) (omega arith)

pub returns-in_default : goal.returns-in_default
returns-in_default c = form-other c.args.c (λ e. omega (arith, e)) (λ e. omega (arith, e)) (λ e. omega (arith, e)) (λ e. omega (arith, e)) (λ e. omega (arith, e)) (λ e. omega (arith, e)) (λ k h g e. omega (arith, e))

pub returns-in_default-2 : goal.returns-in_default-2
returns-in_default-2 c = form-other c.args.c (λ e. omega (arith, e)) (λ e. omega (arith, e)) (λ e. omega (arith, e)) (λ e. omega (arith, e)) (λ e. omega (arith, e)) (λ e. omega (arith, e)) (λ k h g e. omega (arith, e))
