-- the classes of the side, the groups, and then parts that describe the meaning.
use Prim.Native.Nat.{◌≤◌}
use native.Mathlib.Omega.{arith}
use lib.ListN.{length}
use Rattle.export_tables.proofs.Described.{placed, general-low, room, tables, entered, describes}
use Rattle.export_tables.proofs.export_slots.Goals as goal

pub group-count-requires : goal.group-count-requires
group-count-requires c =
    let a = c.args in
    let p = c.requires in
    let k = c.classify-k in
    let l = p.listed.1 in
    let of = k.ensures.1 a.values.now p.listed.0 l.words l.sourced l.tells in
    let few : length k.new.classes ≤ 99 = omega (arith, p.room.few, k.auto.classes) in
    (p.slotted.slots, placed p.slotted k.ensures.0 of few, p.room.grouped, general-low p.slotted k.ensures.0 of few)

pub export_parts-requires : goal.export_parts-requires
export_parts-requires c =
    let a = c.args in
    let p = c.requires in
    let k = c.classify-k in
    let s = p.slotted in
    let l = p.listed.1 in
    let of = k.ensures.1 a.values.now p.listed.0 l.words l.sourced l.tells in
    let few : length k.new.classes ≤ 99 = omega (arith, p.room.few, k.auto.classes) in
    let f = c.group-count.ensures in
    record {
      room = (of.table.room, room s k.ensures.0 of few f.1 f.2);
      tables = tables s k.ensures.0 of few l.most l.small;
      entered = entered s k.ensures.0 of few f.1 f.2;
      top = (s.top, omega (arith, of.general.low, of.rsvp.low));
      placed = omega (arith, of.table.room, p.room.placed, k.auto.classes);
      unwritten = p.room.unwritten;
    }

pub returns : goal.returns
returns c m side l so =
    let a = c.args in
    let p = c.requires in
    let k = c.classify-k in
    let of = k.ensures.1 a.values.now side l.words l.sourced l.tells in
    let few : length k.new.classes ≤ 99 = omega (arith, p.room.few, k.auto.classes) in
    let f = c.group-count.ensures in
    c.export_parts.ensures m (describes p.slotted k.ensures.0 of few f.1 f.2 m so)
