-- One test after the other: a type that is there twice; a 4; the pairs.
use Prim.Native.Nat.{◌+◌}
use native.Mathlib.Omega.{arith}
use borrow.Author.Tests.{lt-ltb, le-ltb, eq-eqb, ne_eqb}
use Rattle.isis_check.specs.Identifiers.{identified_by}
use Rattle.isis_check.proofs.LawsOfB.{once}
use Rattle.isis_check.proofs.identifies.Goals as goal

pub returns-then-a-gt1 : goal.returns-then-a-gt1
unfolding identified_by
returns-then-a-gt1 c = let x = c.args in simp (lt-ltb 1 x.a (omega arith))

pub returns-then-b-gt1 : goal.returns-then-b-gt1
unfolding identified_by
returns-then-b-gt1 c = let x = c.args in simp (le-ltb 1 x.a (omega arith), lt-ltb 1 x.b (omega arith))

pub returns-then-c-gt1 : goal.returns-then-c-gt1
unfolding identified_by
returns-then-c-gt1 c = let x = c.args in simp (le-ltb 1 x.a (omega arith), le-ltb 1 x.b (omega arith), lt-ltb 1 x.c (omega arith))

pub returns-then-d-gt1 : goal.returns-then-d-gt1
unfolding identified_by
returns-then-d-gt1 c = let x = c.args in simp (le-ltb 1 x.a (omega arith), le-ltb 1 x.b (omega arith), le-ltb 1 x.c (omega arith), lt-ltb 1 x.d (omega arith))

pub returns-then-e-gt1 : goal.returns-then-e-gt1
unfolding identified_by
returns-then-e-gt1 c = let x = c.args in simp (le-ltb 1 x.a (omega arith), le-ltb 1 x.b (omega arith), le-ltb 1 x.c (omega arith), le-ltb 1 x.d (omega arith), lt-ltb 1 x.e (omega arith))

pub returns-then-a-eq1 : goal.returns-then-a-eq1
returns-then-a-eq1 c = let x = c.args in rw (once x.a x.b x.c x.d x.e (omega arith) (omega arith) (omega arith) (omega arith) (omega arith), eq-eqb x.a 1 (omega arith))

pub returns-then-b-c-eq2 : goal.returns-then-b-c-eq2
returns-then-b-c-eq2 c = let x = c.args in rw (once x.a x.b x.c x.d x.e (omega arith) (omega arith) (omega arith) (omega arith) (omega arith), ne_eqb x.a 1 (λ e. omega arith), eq-eqb (x.b + x.c) 2 (omega arith))

pub returns : goal.returns
returns c = let x = c.args in rw (once x.a x.b x.c x.d x.e (omega arith) (omega arith) (omega arith) (omega arith) (omega arith), ne_eqb x.a 1 (λ e. omega arith), ne_eqb (x.b + x.c) 2 (λ e. omega arith))
