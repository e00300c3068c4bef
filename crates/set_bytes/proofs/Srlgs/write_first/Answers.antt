-- the numbers of the class's bits.
use mathlib.Core.Path.{ap}
use mathlib.Core.List.{[]}
use lib.ListN.{length, get_or}
use native.Mathlib.Omega.{arith}
use Rattle.linkstate.specs.Bytes.{bytes_of_words}
use Rattle.srlg.proofs.Laws.{length-bytes_of_words}
use Rattle.tlv_bytes.proofs.Laws.{same_write}
use Rattle.set_bytes.specs.Standing.{numbers_in}
use Rattle.set_bytes.proofs.SrlgLaws.{pair-sources, bits-within, bits_are}
use Rattle.set_bytes.proofs.Srlgs.write_first.Goals as goal

pub bits_of-bits-requires : goal.bits_of-bits-requires
bits_of-bits-requires c = let a = c.args in
    let class = get_or a.self.classes.now a.c [] in
    (omega (arith, c.requires.0.most), pair-sources a.self.values.now a.self.rows.now class (c.requires.0.class a.c c.requires.1))

pub write_bits-requires : goal.write_bits-requires
write_bits-requires c = let a = c.args in
    let vs = a.self.values.now in
    let class = get_or a.self.classes.now a.c [] in
    let ok = c.requires.0.class a.c c.requires.1 in
    let most = c.requires.0.most in
    let so = c.bits_of-bits.ensures in
    let e = ap length (bits_are vs a.self.rows.now class ok most _ so) in
    (most, c.requires.0.small, bits-within vs a.self.rows.now class ok most _ so, omega (arith, e, c.requires.2, length-bytes_of_words (numbers_in vs a.self.rows.now a.self.classes.now a.c)))

pub returns : goal.returns
returns c = let a = c.args in
    let e = bits_are a.self.values.now a.self.rows.now (get_or a.self.classes.now a.c []) (c.requires.0.class a.c c.requires.1) c.requires.0.most _ c.bits_of-bits.ensures in
    same_write (ap bytes_of_words e) a.out.now a.at c.write_bits.ensures
