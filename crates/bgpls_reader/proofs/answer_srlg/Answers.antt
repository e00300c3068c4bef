-- Absent where there is no number, else room by the count.
use Rattle.bgpls_reader.proofs.Laws.{of-set, none-answer}
use Rattle.bgpls_find.proofs.SetLaws.{run-within}
use native.Mathlib.Omega.{arith}
use Rattle.bgpls_reader.proofs.answer_srlg.Goals as goal

pub returns-then-n-eq0 : goal.returns-then-n-eq0
returns-then-n-eq0 c = of-set _ _ _ _ c.set_asked-start.ensures.all (none-answer _ _ c.args.list.now c.count_words-n.ensures.0 c.if-n-eq0.true)

pub answer_in_room-requires : goal.answer_in_room-requires
answer_in_room-requires c = let k = c.count_words-n.ensures in
    (record { starts = c.set_asked-start.ensures.begins; count = k.0 }, omega (arith, k.1, run-within _ c.args.run.passed), omega arith)

pub returns : goal.returns
returns c = of-set _ _ _ _ c.set_asked-start.ensures.all c.answer_in_room.ensures
