-- The entry's answer, for whom the caller named.
use Rattle.nakhshirul.proofs.Laws.{asked_by}
use Rattle.isis.specs.Link.{link_source}
use Rattle.nakhshirul.proofs.nakhshirul_ask.Goals as goal

pub returns : goal.returns
returns c = let a = c.args in
    rw (← c.from-code.ensures) (asked_by (link_source a.a.now a.b.now a.c.now) a.who a.number c.from-code.result _ c.subject-whom.ensures _ _ c.hand_over.ensures a.list.now _ c.ask_link.ensures)
