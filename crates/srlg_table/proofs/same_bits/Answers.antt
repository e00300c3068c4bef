-- `srlg_table::same_bits` meets its contract: words are equal where their bits are. Assumes nothing.
use Rattle.std.proofs.Common.{arith, sym, ◌∙◌, take}
use mathlib.Core.Bool.{false≢true}
use Rattle.std.proofs.lemmas.Bool.Decides.{Decides-eqb}
use Rattle.std.proofs.lemmas.Slice.Eq.{slice_eq-Decides}
use Rattle.srlg_table.proofs.Words.{front-equal, equal-front}
use Rattle.srlg_table.proofs.same_bits.Goals as goal

pub returns : goal.returns
returns c = let x = c.args.x.now in
    let y = c.args.y.now in
    let n = c.args.words in
    let d = slice_eq-Decides Decides-eqb (take n x) (take n y) c.eq.result c.eq.ensures in
    (λ e. front-equal x y n (d.0 e), λ e h. false≢true (sym e ∙ d.1 (equal-front x y n (omega arith, omega arith) c.fits-x c.fits-y h)))
