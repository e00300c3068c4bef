-- the first kind, the bandwidths, and the kinds up to 1120.
use Rattle.grids.proofs.Laws.{row-slot}
use Rattle.export_bytes.proofs.Parts.{first-asks, bandwidths-asks, middle-asks, low-written}
use Rattle.export_bytes.proofs.write_low.Goals as goal

pub write_kind-first-requires : goal.write_kind-first-requires
write_kind-first-requires c = let p = c.requires in
    rw (row-slot c.args.sets.rows.now c.args.top.slot) (first-asks p.0.tables p.0 p.1 p.2 p.3)

pub write_bandwidths-bandwidths-requires : goal.write_bandwidths-bandwidths-requires
write_bandwidths-bandwidths-requires c = let p = c.requires in
    let one = c.write_kind-first in
    bandwidths-asks p.0.tables p.0 p.1 p.2 p.3 one.auto.out (rw (row-slot c.args.sets.rows.now c.args.top.slot) at one.ensures)

pub write_middle-requires : goal.write_middle-requires
write_middle-requires c = let p = c.requires in
    let is = row-slot c.args.sets.rows.now c.args.top.slot in
    let one = c.write_kind-first in
    let two = c.write_bandwidths-bandwidths in
    rw is (middle-asks p.0.tables p.0 p.1 p.2 p.3 one.auto.out (rw is at one.ensures) two.auto.out two.ensures)

pub returns : goal.returns
returns c = let p = c.requires in
    let is = row-slot c.args.sets.rows.now c.args.top.slot in
    let one = c.write_kind-first in
    let two = c.write_bandwidths-bandwidths in
    low-written p.0.tables p.0 p.1 p.2 p.3 one.auto.out (rw is at one.ensures) two.auto.out two.ensures
    (rw is at c.write_middle.ensures)
