-- The entry's answer.
use Rattle.nakhshirul.proofs.Laws.{exported-by}
use Rattle.nakhshirul.proofs.nakhshirul_export.Goals as goal

pub returns : goal.returns
returns c = exported-by _ _ _ _ _ c.hand_over.ensures c.from.ensures c.export-written.ensures.out_after
