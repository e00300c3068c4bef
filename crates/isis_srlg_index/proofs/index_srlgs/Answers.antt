-- `isis_srlg_index::index_srlgs` meets its contract: the keys are gathered, and ordered. Assumes nothing.
use native.Mathlib.Omega.{arith}
use Rattle.isis_srlg_index.proofs.Gathers.{low_rows, indexes}
use Rattle.isis_srlg_index.proofs.index_srlgs.Goals as goal

pub gather-k-requires : goal.gather-k-requires
gather-k-requires c = c.requires.0

pub order-count-requires : goal.order-count-requires
order-count-requires c =
    let w = c.gather-k in
    let (fits, few) = w.ensures.count_in_bounds in
    (omega arith, omega (arith, w.auto.keys), omega (arith, c.requires.1), low_rows _ _ _ _ w.ensures.carried)

pub returns : goal.returns
returns c =
    let w = c.gather-k.ensures in
    indexes _ _ _ _ _ _ _ w.carried c.order-count.ensures w.count_in_bounds.1 c.order-count.auto.rows
