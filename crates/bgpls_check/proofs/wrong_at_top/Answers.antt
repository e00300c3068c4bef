-- `bgpls_check::wrong_at_top` meets its contract: by four bytes, or by the size of the code's rule.
use Rattle.bgpls_check.proofs.Laws.{top-four, top-by}
use mathlib.Core.Bool.{not}
use mathlib.Core.Path.{sym, ap, ◌∙◌}
use Rattle.bgpls_check.proofs.wrong_at_top.Goals as goal

pub returns-then-n-eq4 : goal.returns-then-n-eq4
returns-then-n-eq4 c = let a = c.args in top-four a.code a.n c.if-n-eq4.true

pub returns : goal.returns
returns c = let a = c.args in
    ap not c.fits.ensures ∙ sym (top-by _ a.code a.n c.classify_code-size.ensures)
