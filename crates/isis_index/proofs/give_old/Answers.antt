-- `isis_index::give_old` meets its contract: the standard places, then the user's. Assumes nothing.
use native.Mathlib.Omega.{arith}
use Rattle.isis_index.proofs.Settling.{gave-both}
use Rattle.isis_index.proofs.give_old.Goals as goal

pub returns : goal.returns
returns c = gave-both _ (omega arith) c.give_slot.ensures c.give_slot-2.ensures
