-- Two tests, one after the other.
use native.Mathlib.Omega.{arith}
use borrow.Author.Tests.{lt-ltb, le-ltb}
use Rattle.isis_check_a.proofs.mask_too_long.Goals as goal

pub returns-then-h-gt8 : goal.returns-then-h-gt8
returns-then-h-gt8 c = rw (lt-ltb 8 c.args.h.standard (omega arith))

pub returns-else-h-gt8 : goal.returns-else-h-gt8
returns-else-h-gt8 c = rw (le-ltb 8 c.args.h.standard (omega arith))
