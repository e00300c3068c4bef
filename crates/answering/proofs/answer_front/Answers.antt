-- The list's front, answered.
use Rattle.answering.proofs.Laws.{srlg-front}
use mathlib.Core.Path.{refl}
use Rattle.answering.proofs.answer_front.Goals as goal

pub returns : goal.returns
returns c = let a = c.args in srlg-front _ a.ns.now a.k _ _ c.answer_srlgs.ensures refl
