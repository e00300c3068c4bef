-- `isis_export::export_length` meets its contract. Assumes nothing.
use Rattle.isis_export.proofs.Entries.{measured}
use Rattle.isis_export.proofs.export_length.Goals as goal

pub returns : goal.returns
returns c = let a = c.args in measured a.a.now a.b.now a.c.now _
    c.export_checked.result c.export_checked.new.out c.export_checked.ensures
