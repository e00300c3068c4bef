-- The entry's answer, for whom the caller named.
use Rattle.nakhshirul.proofs.Laws.{asked_by}
use Rattle.linkstate.specs.BgpLs.{run_source}
use Rattle.nakhshirul.proofs.nakhshirul_run_ask.Goals as goal

pub returns : goal.returns
returns c = let a = c.args in
    rw (← c.from-code.ensures) (asked_by (run_source a.run.now) a.who a.number c.from-code.result _ c.subject-whom.ensures _ _ c.hand_over.ensures a.list.now _ c.ask_run.ensures)
