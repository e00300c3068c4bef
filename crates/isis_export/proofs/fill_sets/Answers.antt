-- `isis_export::fill_sets` meets its contract: slots for whom run A names, and then its walk. Assumes nothing.
use Prim.Native.Nat.{◌≤◌}
use native.Mathlib.Omega.{arith}
use lib.ListN.{length}
use Rattle.isis_export.proofs.Tables.{unowned-owned, turned-many, begun-started}
use Rattle.isis_export.proofs.fill_sets.Goals as goal

pub assign_slots-count-requires : goal.assign_slots-count-requires
assign_slots-count-requires c =
    let p = c.requires in
    (unowned-owned _ p.1, omega (arith, p.2, turned-many c.args.side.names _ c.turned_set.ensures), p.3)

pub index_slots-rsvp-requires : goal.index_slots-rsvp-requires
index_slots-rsvp-requires c =
    let p = c.requires in
    let k = c.assign_slots-count in
    let e = k.ensures in
    let room : k.result ≤ length k.new.sets = omega (arith, e.0, e.2, p.2, turned-many c.args.side.names _ c.turned_set.ensures) in
    (p.0, room, begun-started c.args.side.names _ c.turned_set.ensures p.1 e.1 e.0 room (omega (arith, e.2, p.3)))

pub returns : goal.returns
returns c =
    let k = c.assign_slots-count in
    let e = k.ensures in
    let room : k.result ≤ length k.new.sets = omega (arith, e.0, e.2, c.requires.2, turned-many c.args.side.names _ c.turned_set.ensures) in
    (omega (arith, room, c.index_slots-rsvp.auto.sets), c.index_slots-rsvp.ensures)
