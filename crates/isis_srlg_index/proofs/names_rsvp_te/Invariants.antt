-- `isis_srlg_index::names_rsvp_te` meets its contract. Assumes nothing.
use Prim.Native.Nat.{◌<◌}
use Rattle.isis_srlg_index.proofs.names_rsvp_te.Given as goal

abbrev pub invariant-loop-j : goal.invariant-loop-j
invariant-loop-j l = 1 < l.j
