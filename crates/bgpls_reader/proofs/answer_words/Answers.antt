-- The numbers are written, sorted where they stand, counted and answered.
use Rattle.bgpls_reader.proofs.Laws.{words-answer}
use Rattle.srlg_sort.proofs.Fronts.{lent-front}
use Rattle.bgpls_reader.proofs.answer_words.Goals as goal

pub returns : goal.returns
returns c = words-answer _ _ c.args.n c.args.xs.now _ _ _ c.requires.1 c.requires.0.count c.write_words.ensures
    (lent-front _ _ c.args.n _ c.sort_long-k.auto.xs c.sort_long-k.ensures).0 c.answer_front.ensures
