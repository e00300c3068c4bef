-- What is given, with what is left to give, is all.
use Rattle.srlg_classes.proofs.Gives.{Giving}
use Rattle.srlg_classes.proofs.give.Given as goal

abbrev pub invariant-loop-t : goal.invariant-loop-t
invariant-loop-t l = Giving l.bits l.base l.c l.t-iterator.0 l.initial.own l.own
