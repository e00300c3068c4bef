-- `set_bytes::srlgs_size` meets its contract.
use mathlib.Core.Path.{sym, ◌∙◌}
use native.Mathlib.Omega.{arith}
use Rattle.set_bytes.specs.Standing.{count_in}
use Rattle.set_bytes.proofs.SrlgLaws.{count-some, count_none, size_none, size-some}
use Rattle.set_bytes.proofs.Srlgs.size.Goals as goal

pub returns-in-None : goal.returns-in-None
returns-in-None c = let a = c.args in (size_none (count_in a.self.classes.now a.c) (count_none (count_in a.self.classes.now a.c) (sym c.count.ensures ∙ c.in-None.is)), omega arith)

pub returns-in-Some : goal.returns-in-Some
returns-in-Some c = let a = c.args in
    let s = count-some (count_in a.self.classes.now a.c) _ (sym c.count.ensures ∙ c.in-Some.is) in
    (omega (arith, s.0, size-some (count_in a.self.classes.now a.c) (omega (arith, s.0, s.1))), omega (arith, s.0))
