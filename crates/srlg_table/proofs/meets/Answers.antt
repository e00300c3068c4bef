-- `srlg_table::meets` meets its contract. Assumes nothing.
use borrow.Author.Tests.{not-true, not-false, eqb-true, eqb-false}
use Rattle.srlg_table.proofs.Sizes.{masks-none, masks-some}
use Rattle.srlg_table.proofs.meets.Goals as goal

pub returns : goal.returns
returns c = let a = c.args in
    (λ e. masks-some a.x a.y c.ranges.x.fits c.ranges.y.fits (eqb-false _ 0 (not-true _ e)), λ e. masks-none a.x a.y (eqb-true _ 0 (not-false _ e)))
