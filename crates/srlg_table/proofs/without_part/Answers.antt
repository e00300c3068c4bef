-- `srlg_table::without_part` meets its contract. Assumes nothing.
use Rattle.srlg_table.proofs.Splits.{rest-is}
use Rattle.srlg_table.proofs.without_part.Goals as goal

pub returns : goal.returns
returns c = let a = c.args in
    rest-is a.b.now a.x a.y 0 _ _ c.without.ensures c.without-2.ensures
