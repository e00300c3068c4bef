-- Place by place, from the lowest bit on.
use Rattle.set_table.proofs.Owns.{Giving}
use Rattle.set_table.proofs.give_slot.Given as goal

abbrev pub invariant-loop-t : goal.invariant-loop-t
invariant-loop-t l = Giving l.initial.own l.own l.base l.bits l.t-iterator.0 l.slot
