-- copied, or made and noted.
use native.Mathlib.Omega.{arith}
use Rattle.linkstate.specs.Bytes.{bytes_of_words}
use Rattle.srlg.proofs.Laws.{length-bytes_of_words}
use Rattle.set_bytes.specs.Standing.{numbers_in}
use Rattle.set_bytes.proofs.SrlgLaws.{standing_on, standing-new, copied}
use Rattle.set_bytes.proofs.Srlgs.write_numbers.Goals as goal

pub copy_on-requires : goal.copy_on-requires
copy_on-requires c = let a = c.args in
    let st = c.requires.5.stands a.c c.if-from-ne0.true in
    (omega (arith, st.0, c.requires.3), omega (arith, c.requires.6, c.requires.3, length-bytes_of_words (numbers_in a.self.values.now a.self.rows.now a.self.classes.now a.c)))

pub returns-then-from-ne0 : goal.returns-then-from-ne0
returns-then-from-ne0 c = let a = c.args in
    let ns = numbers_in a.self.values.now a.self.rows.now a.self.classes.now in
    let w = copied ns c.requires.5 a.c c.if-from-ne0.true a.n c.requires.3 c.copy_on.ensures in
    (w, standing_on ns c.requires.5 (bytes_of_words (ns a.c)) w c.requires.6)

pub returns : goal.returns
returns c = let a = c.args in
    let ns = numbers_in a.self.values.now a.self.rows.now a.self.classes.now in
    let w = c.write_first.ensures in
    (w, standing-new ns c.requires.5 a.c c.requires.2 w c.requires.6)
