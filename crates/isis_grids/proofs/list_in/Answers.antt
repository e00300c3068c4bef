-- Behind the masks of one that is selected.
use mathlib.Core.Path.{sym, ◌∙◌}
use native.Mathlib.Omega.{arith}
use Rattle.isis_grids.proofs.Taken.{masks-fit, header_is, taken-read}
use Rattle.isis_grids.proofs.list_in.Goals as goal

pub returns-then-not-is_selected : goal.returns-then-not-is_selected
returns-then-not-is_selected c = sym c.is_selected.ensures ∙ c.if-not-is_selected.true

pub returns : goal.returns
returns c = let t = sym c.is_selected.ensures ∙ c.if-not-is_selected.false in
    let r = taken-read _ _ c.requires t in
    (t, omega (arith, header_is _ r, c.from.ensures, c.from-2.ensures), omega (arith, (masks-fit _ r).2, c.from.ensures, c.from-2.ensures))
