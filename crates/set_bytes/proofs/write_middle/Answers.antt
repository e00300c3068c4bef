-- the TE metric, the SRLGs, and the kinds after them.
use Rattle.tlv_bytes.proofs.Laws.{first-room, second-room, third-room, three-write}
use Rattle.set_bytes.specs.Standing.{numbers_in}
use Rattle.set_bytes.proofs.Laws.{metric-code, middle-is, second-stands, third-stands}
use Rattle.set_bytes.proofs.write_middle.Goals as goal

pub write_kind-metric-requires : goal.write_kind-metric-requires
write_kind-metric-requires g c = let a = c.args in
    let ns = numbers_in a.srlgs.values.now a.srlgs.rows.now a.srlgs.classes.now in
    (c.requires.0.fits, metric-code, first-room a.out.now a.at (middle-is a.run.now (g.G.Grid.rows a.g.now) (ns a.c)) c.requires.1)

pub write-shared-requires : goal.write-shared-requires
write-shared-requires g c = let a = c.args in
    let p = c.requires.0 in
    let ns = numbers_in a.srlgs.values.now a.srlgs.rows.now a.srlgs.classes.now in
    let is = middle-is a.run.now (g.G.Grid.rows a.g.now) (ns a.c) in
    let one = c.write_kind-metric in
    let k = one.auto.out in
    (p.known, p.inside, p.placed, second-stands ns a.out.now a.at is c.requires.1 p.standing k one.ensures, second-room a.out.now a.at is c.requires.1 k one.ensures)

pub write_extended-requires : goal.write_extended-requires
write_extended-requires g c = let a = c.args in
    let ns = numbers_in a.srlgs.values.now a.srlgs.rows.now a.srlgs.classes.now in
    let is = middle-is a.run.now (g.G.Grid.rows a.g.now) (ns a.c) in
    let one = c.write_kind-metric in
    let two = c.write-shared in
    (c.requires.0.fits, third-room a.out.now a.at is c.requires.1 one.auto.out one.ensures two.auto.out two.ensures.0)

pub returns : goal.returns
returns g c = let a = c.args in
    let ns = numbers_in a.srlgs.values.now a.srlgs.rows.now a.srlgs.classes.now in
    let is = middle-is a.run.now (g.G.Grid.rows a.g.now) (ns a.c) in
    let one = c.write_kind-metric in
    let two = c.write-shared in
    let k = one.auto.out in
    let j = two.auto.out in
    let e = c.write_extended.ensures in
    (three-write a.out.now a.at is c.requires.1 k one.ensures j two.ensures.0 e, third-stands ns a.out.now a.at is c.requires.1 c.requires.0.standing k one.ensures j two.ensures.0 two.ensures.1 e)
