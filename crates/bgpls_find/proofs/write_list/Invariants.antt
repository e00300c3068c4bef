-- With what is left, all are written.
use Rattle.bgpls_find.proofs.SrlgLaws.{words_left, Written}
use Rattle.bgpls_find.specs.Words.{list_words}
use Rattle.frames.specs.Left.{whole_left}
use Rattle.bgpls_find.proofs.write_list.Given as goal

abbrev pub invariant-loop-e : goal.invariant-loop-e
invariant-loop-e l = Written l.initial.out l.start (list_words l.s) l.out l.k (words_left (whole_left l.e-iterator))
