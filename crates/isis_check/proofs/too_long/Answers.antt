-- One length after the other.
use native.Mathlib.Omega.{arith}
use borrow.Author.Tests.{lt-ltb, le-ltb}
use Rattle.isis_check.proofs.too_long.Goals as goal

pub returns-then-a-gt2048 : goal.returns-then-a-gt2048
returns-then-a-gt2048 c = rw (lt-ltb 2048 c.args.a (omega arith))

pub returns-then-b-gt2048 : goal.returns-then-b-gt2048
returns-then-b-gt2048 c = let x = c.args in rw (le-ltb 2048 x.a (omega arith), lt-ltb 2048 x.b (omega arith))

pub returns : goal.returns
returns c = let x = c.args in rw (le-ltb 2048 x.a (omega arith), le-ltb 2048 x.b (omega arith))
