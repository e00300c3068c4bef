-- `isis_index::walk_and_settle` meets its contract. Assumes nothing.
use Rattle.isis_index.proofs.Slots.{settled-of}
use Rattle.isis_index.proofs.walk_and_settle.Goals as goal

pub returns : goal.returns
returns c = let w = c.walk.ensures in
    settled-of w.0 w.1 _ c.is_named_with_l.ensures c.settle.ensures
