-- The entry's answer.
use Rattle.nakhshirul.proofs.Laws.{length-by}
use Rattle.nakhshirul.proofs.nakhshirul_export_length.Goals as goal

pub returns : goal.returns
returns c = length-by _ _ _ _ c.hand_over.ensures c.from.ensures c.export_length-length.ensures
