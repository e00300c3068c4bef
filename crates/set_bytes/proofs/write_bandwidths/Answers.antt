-- three kinds, one after another.
use Rattle.tlv_bytes.proofs.Laws.{first-room, second-room, third-room, three-write}
use Rattle.grids.specs.Slots.{link_rows}
use Rattle.set_bytes.proofs.Laws.{bandwidths-are, maximum-code, reservable-code, unreserved-code}
use Rattle.set_bytes.proofs.write_bandwidths.Goals as goal

pub write_bandwidth-maximum-requires : goal.write_bandwidth-maximum-requires
write_bandwidth-maximum-requires c = let a = c.args in
    (c.requires.0, c.requires.1, maximum-code, first-room a.out.now a.at (bandwidths-are a.sets.run.now (link_rows a.sets.rows.now)) c.requires.2)

pub write_bandwidth-reservable-requires : goal.write_bandwidth-reservable-requires
write_bandwidth-reservable-requires c = let a = c.args in
    let one = c.write_bandwidth-maximum in
    (c.requires.0, c.requires.1, reservable-code, second-room a.out.now a.at (bandwidths-are a.sets.run.now (link_rows a.sets.rows.now)) c.requires.2 one.auto.out one.ensures)

pub write_bandwidth-requires : goal.write_bandwidth-requires
write_bandwidth-requires c = let a = c.args in
    let one = c.write_bandwidth-maximum in
    let two = c.write_bandwidth-reservable in
    (c.requires.0, c.requires.1, unreserved-code, third-room a.out.now a.at (bandwidths-are a.sets.run.now (link_rows a.sets.rows.now)) c.requires.2 one.auto.out one.ensures two.auto.out two.ensures)

pub returns : goal.returns
returns c = let a = c.args in
    let one = c.write_bandwidth-maximum in
    let two = c.write_bandwidth-reservable in
    three-write a.out.now a.at (bandwidths-are a.sets.run.now (link_rows a.sets.rows.now)) c.requires.2 one.auto.out one.ensures two.auto.out two.ensures c.write_bandwidth.ensures
