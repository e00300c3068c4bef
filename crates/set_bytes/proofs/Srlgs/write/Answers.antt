-- no numbers, nothing; else head and numbers.
use mathlib.Core.Path.{sym, ◌∙◌}
use native.Mathlib.Omega.{arith}
use Rattle.srlg.proofs.Laws.{length-bytes_of_words}
use Rattle.set_bytes.specs.Standing.{numbers_in}
use Rattle.set_bytes.proofs.SrlgLaws.{read_some, read_none, no-srlgs, size_is, head-stands, srlgs-written}
use Rattle.set_bytes.proofs.Srlgs.write.Goals as goal

pub returns-in_default : goal.returns-in_default
returns-in_default c = let a = c.args in
    let z = read_none a.self.values.now a.self.rows.now a.self.classes.now a.c c.requires.0 c.requires.1 (sym c.count.ensures ∙ c.in_default.is) in
    (no-srlgs (numbers_in a.self.values.now a.self.rows.now a.self.classes.now) a.out.now a.at a.c z, c.requires.3)

pub overflow_mul-size : goal.overflow_mul-size
overflow_mul-size c = let a = c.args in
    omega (arith, (read_some a.self.values.now a.self.rows.now a.self.classes.now a.c c.requires.0 c.requires.1 _ (sym c.count.ensures ∙ c.in-Some.is)).2)

pub overflow_cast-size : goal.overflow_cast-size
overflow_cast-size c = let a = c.args in
    omega (arith, (read_some a.self.values.now a.self.rows.now a.self.classes.now a.c c.requires.0 c.requires.1 _ (sym c.count.ensures ∙ c.in-Some.is)).2)

pub write_head-requires : goal.write_head-requires
write_head-requires c = let a = c.args in
    let ns = numbers_in a.self.values.now a.self.rows.now a.self.classes.now in
    let k = read_some a.self.values.now a.self.rows.now a.self.classes.now a.c c.requires.0 c.requires.1 _ (sym c.count.ensures ∙ c.in-Some.is) in
    omega (arith, c.requires.4, size_is ns a.c _ k.0 k.1)

pub write_numbers-requires : goal.write_numbers-requires
write_numbers-requires c = let a = c.args in
    let ns = numbers_in a.self.values.now a.self.rows.now a.self.classes.now in
    let k = read_some a.self.values.now a.self.rows.now a.self.classes.now a.c c.requires.0 c.requires.1 _ (sym c.count.ensures ∙ c.in-Some.is) in
    let h = c.write_head in
    (c.requires.0, c.requires.1, c.requires.2, k.0, k.2, head-stands ns a.c _ k.0 k.1 a.places.now a.out.now a.at c.requires.4 _ h.ensures c.requires.3, omega (arith, c.requires.4, size_is ns a.c _ k.0 k.1, h.auto.out, length-bytes_of_words (ns a.c), k.0))

pub returns : goal.returns
returns c = let a = c.args in
    let ns = numbers_in a.self.values.now a.self.rows.now a.self.classes.now in
    let k = read_some a.self.values.now a.self.rows.now a.self.classes.now a.c c.requires.0 c.requires.1 _ (sym c.count.ensures ∙ c.in-Some.is) in
    let w = c.write_numbers.ensures in
    (srlgs-written ns a.c _ k.0 k.1 a.places.now a.out.now a.at c.requires.4 _ c.write_head.ensures w.0, w.1)
