-- The three codes apart, else by the code's side of 1092.
use Rattle.isis_grids.proofs.Types.{code-within, type-is}
use borrow.Author.Tests.{ne_eqb, lt-ltb, le-ltb}
use native.Mathlib.Omega.{arith}
use Rattle.isis_grids.proofs.type_of.Goals as goal

pub overflow_sub-result : goal.overflow_sub-result
overflow_sub-result c = omega (arith, (code-within _ c.requires.0).0)

pub returns-then-code-lt1092 : goal.returns-then-code-lt1092
returns-then-code-lt1092 c =
    type-is c.args.code c.requires.0 c.requires.1 _ (rw (ne_eqb c.args.code 1088 (λ e. omega (arith, e)), ne_eqb c.args.code 1092 (λ e. omega (arith, e)), ne_eqb c.args.code 1173 (λ e. omega (arith, e)), lt-ltb _ _ c.if-code-lt1092.true))

pub overflow_cast-result-in_default : goal.overflow_cast-result-in_default
overflow_cast-result-in_default c = omega (arith, (code-within _ c.requires.0).1)

pub returns-in-1088 : goal.returns-in-1088
returns-in-1088 c = type-is c.args.code c.requires.0 c.requires.1 _ (rw c.in-1088.is)

pub returns-in-1092 : goal.returns-in-1092
returns-in-1092 c = type-is c.args.code c.requires.0 c.requires.1 _ (rw c.in-1092.is)

pub returns-in-1173 : goal.returns-in-1173
returns-in-1173 c = type-is c.args.code c.requires.0 c.requires.1 _ (rw c.in-1173.is)

pub returns-else-code-lt1092 : goal.returns-else-code-lt1092
returns-else-code-lt1092 c =
    type-is c.args.code c.requires.0 c.requires.1 _ (rw (ne_eqb c.args.code 1088 (λ e. omega (arith, e)), ne_eqb c.args.code 1092 (λ e. omega (arith, e)), ne_eqb c.args.code 1173 (λ e. omega (arith, e)), le-ltb _ _ c.if-code-lt1092.false))
