-- No byte, or by the checks.
use Rattle.isis_check.proofs.Laws.{none-b}
use Rattle.isis_check.proofs.check_side_b.Goals as goal

pub returns-then-b-eq0 : goal.returns-then-b-eq0
returns-then-b-eq0 c = λ d. none-b _ d _ c.if-b-eq0.true c.nobody.ensures
