-- The front, then the set.
use Rattle.grids.proofs.Laws.{row-slot}
use Rattle.export_bytes.proofs.Laws.{size-asks, front-asks, set-asks, asla-written}
use Rattle.export_bytes.proofs.Asla.write.Goals as goal

pub set_size-size-requires : goal.set_size-size-requires
set_size-size-requires c = let p = c.requires in
    size-asks p.0.tables p.0 c.args.self p.1 p.2 p.3

pub write_front-inner-requires : goal.write_front-inner-requires
write_front-inner-requires c = let p = c.requires in
    front-asks p.0.tables p.0 c.args.self p.1 p.2 p.3 _ c.set_size-size.ensures.0

pub write_set-requires : goal.write_set-requires
write_set-requires c = let p = c.requires in
    let f = c.write_front-inner in
    rw (row-slot c.args.sets.rows.now c.args.self.slot) (set-asks p.0.tables p.0 c.args.self p.1 p.2 p.3 _ c.set_size-size.ensures.0 f.auto.out f.ensures)

pub returns : goal.returns
returns c = let p = c.requires in
    let f = c.write_front-inner in
    asla-written p.0.tables p.0 c.args.self p.1 p.2 p.3 _ c.set_size-size.ensures.0 f.auto.out f.ensures (rw (row-slot c.args.sets.rows.now c.args.self.slot) at c.write_set.ensures)
