-- Slot by slot, from the lowest bit on.
use Rattle.set_table.proofs.Bits.{Filling}
use Rattle.set_table.proofs.enter_bits.Given as goal

abbrev pub invariant-loop-t : goal.invariant-loop-t
invariant-loop-t l = Filling l.initial.sets l.sets l.own l.base l.bits l.t-iterator.0 l.k l.e.cell l.e.mark l.e.size
