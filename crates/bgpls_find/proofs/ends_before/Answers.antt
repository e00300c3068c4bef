-- `bgpls_find::ends_before` meets its contract, set by set.
use Rattle.bgpls_find.proofs.Laws.{ends-standard, ends-user}
use Rattle.bgpls_find.specs.Sets.{ends_before}
use native.Mathlib.Omega.{arith}
use Rattle.bgpls_find.proofs.ends_before.Goals as goal

pub returns-then-a-lt64 : goal.returns-then-a-lt64
returns-then-a-lt64 c = ends-standard _ _ _ _ c.in-Naming.is (omega arith)

pub returns-in-Top : goal.returns-in-Top
unfolding ends_before
returns-in-Top c = rw c.in-Top.is

pub returns-in-Every : goal.returns-in-Every
unfolding ends_before
returns-in-Every c = rw c.in-Every.is

pub returns-in-General : goal.returns-in-General
unfolding ends_before
returns-in-General c = rw c.in-General.is

pub returns-else-a-lt64 : goal.returns-else-a-lt64
returns-else-a-lt64 c = ends-user _ _ _ _ c.in-Naming.is (omega arith)
