-- The number of a user application is below 32.
use native.Mathlib.Omega.{arith}
use Rattle.rules.proofs.Laws.{low-user}
use Rattle.why.proofs.number_of.Goals as goal

pub overflow_add-result : goal.overflow_add-result
overflow_add-result c = let l = low-user _ _ c.in-User.is c.requires in omega arith
