-- `isis_export::export` meets its contract: the third service, and what follows from it. Assumes nothing.
use Rattle.isis_export.proofs.Entries.{exported}
use Rattle.isis_export.proofs.export.Goals as goal

pub returns : goal.returns
returns c =
    let a = c.args in
    let e = exported a.a.now a.b.now a.c.now a.out.now c.export_checked.result c.export_checked.new.out c.export_checked.ensures in
    record { out_after = e.0; by_index = e.1 }
