-- `isis_export::export_within` meets its contract: its tables have room. Assumes nothing.
use Rattle.isis_export.proofs.Tables.{made-roomy}
use Rattle.isis_export.proofs.export_within.Goals as goal

pub export_with-requires : goal.export_with-requires
export_with-requires g c = let p = c.requires in
    (p.0, made-roomy _ _ _ p.1)
