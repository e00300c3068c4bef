-- What is written so far are the TLVs of the entries passed.
use Prim.Native.Nat.{◌+◌}
use Rattle.export_bytes.proofs.Laws.{Passed}
use Rattle.export_bytes.proofs.write_aslas.Given as goal

abbrev pub invariant-loop-e : goal.invariant-loop-e
invariant-loop-e l = Passed l.sets.run.now l.sets.rows.now l.srlgs.values.now l.srlgs.rows.now l.srlgs.classes.now l.groups l.first l.initial.places l.initial.out l.at (l.first + l.e-index) l.places l.out l.next
