-- A 4 alone, or by the digits.
use mathlib.Core.Path.{sym, ap}
use Rattle.isis_check.specs.Identifiers.{identified_by, identified_in}
use Rattle.isis_check.proofs.tally_identifies.Goals as goal

pub returns-then-tally-eq1 : goal.returns-then-tally-eq1
unfolding identified_by
returns-then-tally-eq1 c = sym (ap identified_in c.if-tally-eq1.true)
