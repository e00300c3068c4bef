-- Each known type by computing, the rest by being none of them.
use native.Mathlib.Omega.{arith}
use borrow.Author.Tests.{ne_eqb}
use Rattle.isis_check.specs.Identifiers.{known_of}
use Rattle.isis_check.proofs.known_identifier.Goals as goal

pub returns-in-4 : goal.returns-in-4
unfolding known_of
returns-in-4 c = rw c.in-4.is

pub returns-in-6 : goal.returns-in-6
unfolding known_of
returns-in-6 c = rw c.in-6.is

pub returns-in-8 : goal.returns-in-8
unfolding known_of
returns-in-8 c = rw c.in-8.is

pub returns-in-12 : goal.returns-in-12
unfolding known_of
returns-in-12 c = rw c.in-12.is

pub returns-in-13 : goal.returns-in-13
unfolding known_of
returns-in-13 c = rw c.in-13.is

pub returns-in_default : goal.returns-in_default
unfolding known_of
returns-in_default c =
    simp (ne_eqb c.args.t 4 (λ e. omega (arith, e)), ne_eqb c.args.t 6 (λ e. omega (arith, e)), ne_eqb c.args.t 8 (λ e. omega (arith, e)), ne_eqb c.args.t 12 (λ e. omega (arith, e)), ne_eqb c.args.t 13 (λ e. omega (arith, e)))
