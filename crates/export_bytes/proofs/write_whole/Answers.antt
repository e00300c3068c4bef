-- what comes before the ASLA TLVs, these, and the last kind.
use Rattle.grids.proofs.Laws.{row-slot}
use Rattle.export_bytes.proofs.Parts.{low-asks, aslas-asks, last-asks, whole-written}
use Rattle.export_bytes.proofs.write_whole.Goals as goal

pub write_low-low-requires : goal.write_low-low-requires
write_low-low-requires c = let p = c.requires in
    low-asks p.0.tables p.0 p.3 p.4 p.1 p.2 p.5

pub write_aslas-aslas-requires : goal.write_aslas-aslas-requires
write_aslas-aslas-requires c = let p = c.requires in
    let one = c.write_low-low in
    aslas-asks p.0.tables p.0 p.3 p.4 p.1 p.2 p.5 one.auto.places
    one.auto.out one.ensures

pub write_kind-requires : goal.write_kind-requires
write_kind-requires c = let p = c.requires in
    let one = c.write_low-low in
    let two = c.write_aslas-aslas in
    rw (row-slot c.args.sets.rows.now c.args.top.slot) (last-asks p.0.tables p.0 p.3 p.4 p.1 p.2 p.5 one.auto.places one.auto.out one.ensures two.auto.out two.ensures)

pub returns : goal.returns
returns c = let p = c.requires in
    let one = c.write_low-low in
    let two = c.write_aslas-aslas in
    whole-written p.0.tables p.0 p.3 p.4 p.1 p.2 p.5 one.auto.places
    one.auto.out one.ensures two.auto.out two.ensures (rw (row-slot c.args.sets.rows.now c.args.top.slot) at c.write_kind.ensures)
