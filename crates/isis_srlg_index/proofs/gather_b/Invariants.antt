-- TLV by TLV.
use Rattle.frames.specs.Left.{whole_left}
use Rattle.isis_srlg_index.proofs.Gathers.{Kept}
use Rattle.isis_srlg_index.proofs.gather_b.Given as goal

abbrev pub invariant-loop-e : goal.invariant-loop-e
invariant-loop-e l = Kept l.b (whole_left l.e-iterator) l.initial.keys l.keys l.initial.rows l.rows l.k
