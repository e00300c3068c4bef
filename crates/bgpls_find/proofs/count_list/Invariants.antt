-- With what is left, all are counted.
use Rattle.bgpls_find.proofs.SrlgLaws.{words_left, Counted}
use Rattle.bgpls_find.specs.Words.{list_words}
use Rattle.frames.specs.Left.{whole_left}
use Rattle.bgpls_find.proofs.count_list.Given as goal

abbrev pub invariant-loop-e : goal.invariant-loop-e
invariant-loop-e l = Counted (list_words l.s) l.n (words_left (whole_left l.e-iterator))
