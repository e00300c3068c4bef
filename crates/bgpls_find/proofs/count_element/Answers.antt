-- `bgpls_find::count_element` meets its contract: four bytes make a number.
use Rattle.bgpls_find.proofs.SrlgLaws.{of-1096, of_others}
use Rattle.srlg.proofs.Laws.{length-words}
use lib.ListN.{length}
use native.Mathlib.Omega.{arith}
use mathlib.Core.Path.{sym, ap, ◌∙◌}
use Rattle.bgpls_find.proofs.count_element.Goals as goal

pub returns-then-code-ne1096 : goal.returns-then-code-ne1096
returns-then-code-ne1096 c = let a = c.args in (ap length (of_others a.code a.v.now c.if-code-ne1096.true), omega arith)

pub returns : goal.returns
returns c = let a = c.args in (sym (length-words a.v.now) ∙ ap length (of-1096 a.code a.v.now c.if-code-ne1096.false), omega arith)
