-- The entry's answer, for whom the caller named.
use Rattle.nakhshirul.proofs.Laws.{value-by}
use Rattle.linkstate.specs.BgpLs.{run_source}
use Rattle.nakhshirul.proofs.nakhshirul_run_value.Goals as goal

pub returns : goal.returns
returns c = let a = c.args in
    rw (← c.from-code.ensures) (value-by (run_source a.run.now) a.who a.number c.from-code.result _ c.subject-whom.ensures _ _ c.hand_over.ensures c.value_run.ensures)
