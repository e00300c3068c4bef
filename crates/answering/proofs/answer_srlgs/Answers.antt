-- No number at all, too many, or all of them at the list's front.
use Rattle.answering.proofs.Laws.{srlgs-absent, srlgs-too-many, srlgs-written}
use Rattle.answering.proofs.answer_srlgs.Goals as goal

pub returns-then-ns-eq0 : goal.returns-then-ns-eq0
returns-then-ns-eq0 c = srlgs-absent _ _ c.if-ns-eq0.true

pub returns-then-list-ns : goal.returns-then-list-ns
returns-then-list-ns c = srlgs-too-many _ _ _ c.if-ns-eq0.false c.if-list-ns.true c.refuse_call.ensures

pub returns : goal.returns
returns c = srlgs-written _ _ _ c.if-ns-eq0.false c.if-list-ns.false c.copy_words.ensures
