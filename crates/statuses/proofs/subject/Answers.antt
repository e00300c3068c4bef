-- Each whom, and nobody.
use native.Mathlib.Omega.{arith}
use Rattle.statuses.proofs.Laws.{nobody}
use Rattle.statuses.proofs.subject.Goals as goal

pub returns-in-0 : goal.returns-in-0
returns-in-0 c = rw c.in-0.is

pub returns-in-1 : goal.returns-in-1
returns-in-1 c = rw (c.in-1.is, c.lowered.ensures)

pub returns-in-2 : goal.returns-in-2
returns-in-2 c = rw (c.in-2.is, c.lowered-in-2.ensures)

pub returns-in_default : goal.returns-in_default
returns-in_default c = nobody c.args.who _ (λ e. omega arith) (λ e. omega arith) (λ e. omega arith)
