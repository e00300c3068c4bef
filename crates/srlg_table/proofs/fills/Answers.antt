-- `srlg_table::fills` meets its contract. Assumes nothing.
use borrow.Author.Tests.{eqb-true, eqb-false}
use Rattle.srlg_table.proofs.Sizes.{alike_is, alike-not}
use Rattle.srlg_table.proofs.fills.Goals as goal

pub returns : goal.returns
returns c = let a = c.args in
    let f = c.ranges in (
      λ e. alike_is a.x a.y f.x.fits f.y.fits a.standard a.user (eqb-true _ 0 e),
      λ e.
          alike-not a.x a.y f.x.fits f.y.fits a.standard a.user f.standard.fits f.user.fits (eqb-false _ 0 e),
    )
