-- A slot and an empty row each, from the lowest bit on.
use Rattle.set_table.proofs.Assigns.{Assigning}
use Rattle.set_table.proofs.assign_bits.Given as goal

abbrev pub invariant-loop-t : goal.invariant-loop-t
invariant-loop-t l = Assigning l.initial.own l.initial.sets l.own l.sets l.base l.set l.t-iterator.0 l.from l.k
