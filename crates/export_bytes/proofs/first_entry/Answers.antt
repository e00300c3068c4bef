use native.Mathlib.Omega.{arith}
use Rattle.export_bytes.proofs.SizeLaws.{first-none, first_some}
use Rattle.export_bytes.proofs.first_entry.Goals as goal

pub returns-then-set_size-eq0 : goal.returns-then-set_size-eq0
returns-then-set_size-eq0 c = let a = c.args in (first-none a.sets.rows.now a.srlgs.classes.now a.groups.now _ c.read-e.ensures _ c.set_size.ensures.0 c.if-set_size-eq0.true, omega arith)

pub returns : goal.returns
returns c = let a = c.args in (first_some a.sets.rows.now a.srlgs.classes.now a.groups.now _ c.read-e.ensures _ c.set_size.ensures.0 c.if-set_size-eq0.false, omega arith)
