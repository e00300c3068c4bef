-- `isis_export::export_with` meets its contract: the walk of run A, and then the tables that it leaves. Assumes nothing.
use mathlib.Core.Path.{refl}
use Rattle.isis_export.proofs.Sets.{slotted}
use Rattle.isis_export.proofs.Tables.{table-room, resolved}
use Rattle.isis_export.proofs.export_with.Goals as goal

pub fill_sets-s-requires : goal.fill_sets-s-requires
fill_sets-s-requires c =
    let p = c.requires in
    (p.0.2.passed, record { is = refl }, p.1.enough.slotted.0, p.1.enough.slotted.1)

pub export_rows-requires : goal.export_rows-requires
export_rows-requires c =
    let p = c.requires in
    let of = p.0.2 in
    let (few, is) = c.fill_sets-s.ensures in
    (few, record { slotted = slotted is _; room = table-room of _ _ _ _ _ p.1 is.owned.size; listed = (_, of.listed) })

pub returns : goal.returns
returns c b d of = c.export_rows.ensures _ _ of.listed (resolved of c.fill_sets-s.ensures.1)
