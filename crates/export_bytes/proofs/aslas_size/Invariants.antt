-- Entry by entry.
use Prim.Native.Nat.{◌*◌, ◌≤◌}
use mathlib.Core.Path.{◌≡◌}
use Rattle.export_bytes.specs.Sizes.{sum_from, entry_size}
use Rattle.export_bytes.proofs.aslas_size.Given as goal

abbrev pub invariant-loop-h : goal.invariant-loop-h
invariant-loop-h l = (l.total ≡ sum_from (entry_size l.sets.rows.now l.srlgs.classes.now l.groups) l.first l.h-index) × (l.total ≤ l.h-index * 5000000024)
