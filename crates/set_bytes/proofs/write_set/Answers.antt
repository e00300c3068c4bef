-- the first kind, those in the middle, and the last.
use Rattle.tlv_bytes.proofs.Laws.{first-room, second-room, third-room, three-write}
use Rattle.set_bytes.specs.Standing.{numbers_in}
use Rattle.set_bytes.proofs.Laws.{first_code, last_code, set_is, second-stands, third-stands}
use Rattle.set_bytes.proofs.write_set.Goals as goal

pub write_kind-first-requires : goal.write_kind-first-requires
write_kind-first-requires g c = let a = c.args in
    let ns = numbers_in a.srlgs.values.now a.srlgs.rows.now a.srlgs.classes.now in
    (c.requires.0.fits, first_code, first-room a.out.now a.at (set_is a.run.now (g.G.Grid.rows a.g.now) (ns a.c)) c.requires.1)

pub write_middle-middle-requires : goal.write_middle-middle-requires
write_middle-middle-requires g c = let a = c.args in
    let p = c.requires.0 in
    let ns = numbers_in a.srlgs.values.now a.srlgs.rows.now a.srlgs.classes.now in
    let is = set_is a.run.now (g.G.Grid.rows a.g.now) (ns a.c) in
    let one = c.write_kind-first in
    let k = one.auto.out in (
      record { fits = p.fits; known = p.known; inside = p.inside; placed = p.placed; standing = second-stands ns a.out.now a.at is c.requires.1 p.standing k one.ensures },
      second-room a.out.now a.at is c.requires.1 k one.ensures,
    )

pub write_kind-requires : goal.write_kind-requires
write_kind-requires g c = let a = c.args in
    let ns = numbers_in a.srlgs.values.now a.srlgs.rows.now a.srlgs.classes.now in
    let is = set_is a.run.now (g.G.Grid.rows a.g.now) (ns a.c) in
    let one = c.write_kind-first in
    let two = c.write_middle-middle in
    (c.requires.0.fits, last_code, third-room a.out.now a.at is c.requires.1 one.auto.out one.ensures two.auto.out two.ensures.0)

pub returns : goal.returns
returns g c = let a = c.args in
    let ns = numbers_in a.srlgs.values.now a.srlgs.rows.now a.srlgs.classes.now in
    let is = set_is a.run.now (g.G.Grid.rows a.g.now) (ns a.c) in
    let one = c.write_kind-first in
    let two = c.write_middle-middle in
    let k = one.auto.out in
    let j = two.auto.out in
    let e = c.write_kind.ensures in
    (three-write a.out.now a.at is c.requires.1 k one.ensures j two.ensures.0 e, third-stands ns a.out.now a.at is c.requires.1 c.requires.0.standing k one.ensures j two.ensures.0 two.ensures.1 e)
