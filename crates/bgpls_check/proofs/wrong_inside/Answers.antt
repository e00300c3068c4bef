-- By four bytes, by two codes, or by the kind of the code's rule.
use mathlib.Core.Bool.{not}
use mathlib.Core.Path.{refl, sym, ap, ◌∙◌}
use Rattle.bgpls_check.proofs.Laws.{inside-four, inside-srlg, inside-delays, inside-by, inside-link, inside-other}
use Rattle.bgpls_check.proofs.wrong_inside.Goals as goal

pub returns-then-n-eq4 : goal.returns-then-n-eq4
returns-then-n-eq4 c = let a = c.args in inside-four a.code a.n c.if-n-eq4.true

pub returns-then-code-eq1096 : goal.returns-then-code-eq1096
returns-then-code-eq1096 c = let a = c.args in inside-srlg a.code a.n c.if-code-eq1096.true

pub returns-then-code-eq1115 : goal.returns-then-code-eq1115
returns-then-code-eq1115 c = let a = c.args in inside-delays a.code a.n c.if-code-eq1115.true

pub returns-then-is_link : goal.returns-then-is_link
returns-then-is_link c = inside-link _ _ _ (sym c.is_link.ensures ∙ c.if-is_link.true) ∙ sym (inside-by _ _ _ _ c.classify_code-rule.ensures refl)

pub returns : goal.returns
returns c = ap not c.fits.ensures ∙ inside-other _ _ _ (sym c.is_link.ensures ∙ c.if-is_link.false) ∙ sym (inside-by _ _ _ _ c.classify_code-rule.ensures refl)
