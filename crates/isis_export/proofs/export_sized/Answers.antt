-- `isis_export::export_sized` meets its contract: its room is enough. Assumes nothing.
use native.Mathlib.Omega.{arith}
use Rattle.isis_export.proofs.Tables.{few-enough, all-enough}
use Rattle.isis_export.proofs.export_sized.Goals as goal

pub export_within-requires : goal.export_within-requires
export_within-requires c = (c.requires, few-enough c.requires.2 (c.at_most.ensures c.if-at_most.true), omega arith)

pub export_within-requires-2 : goal.export_within-requires-2
export_within-requires-2 c = (c.requires, all-enough c.requires.2, omega arith)
