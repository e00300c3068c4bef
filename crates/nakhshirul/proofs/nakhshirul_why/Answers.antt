-- The entry's answer, for whom the caller named.
use Rattle.nakhshirul.proofs.Laws.{link-why-by}
use Rattle.nakhshirul.proofs.nakhshirul_why.Goals as goal

pub returns : goal.returns
returns c = let a = c.args in
    rw (← c.from-code.ensures) (link-why-by a.who a.number c.from-code.result _ c.subject-whom.ensures _ _ c.hand_over.ensures _ c.from.ensures a.a.now a.b.now a.c.now c.link_why-why.ensures)
