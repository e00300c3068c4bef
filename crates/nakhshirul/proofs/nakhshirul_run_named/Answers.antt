-- The entry's answer.
use Rattle.nakhshirul.proofs.Laws.{named_by}
use Rattle.nakhshirul.proofs.nakhshirul_run_named.Goals as goal

pub returns : goal.returns
returns c = named_by _ _ _ _ c.hand_over.ensures c.from.ensures c.named-named.ensures
