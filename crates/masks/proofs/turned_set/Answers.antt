-- Mask by mask.
use native.Mathlib.Omega.{arith}
use Rattle.masks.proofs.Sets.{turned_same}
use Rattle.masks.proofs.turned_set.Goals as goal

pub returns : goal.returns
returns c = turned_same _ _ (omega arith) (omega arith) (omega arith) (omega arith) c.turned.ensures c.turned-2.ensures
