-- By the two length bytes.
use native.Mathlib.Omega.{arith}
use Rattle.isis_grids.proofs.Taken.{unread-first, read-second}
use Rattle.isis_grids.proofs.is_read.Goals as goal

pub returns-then-v-gt8 : goal.returns-then-v-gt8
returns-then-v-gt8 c = unread-first _ c.if-v-gt8.true

pub returns : goal.returns
returns c = read-second _ (omega arith)
