-- `isis_srlg_index::names_rsvp_te` meets its contract. Assumes nothing.
use mathlib.Core.Path.{sym, ◌∙◌}
use mathlib.Core.Bool.{false≢true}
use native.Mathlib.Omega.{arith}
use Rattle.isis_srlg_index.proofs.Gathers.{named-seven}
use Rattle.isis_srlg_index.proofs.names_rsvp_te.Goals as goal

pub returns-then-has : goal.returns-then-has
returns-then-has c = λ e. (c.loop-j.j, c.loop-j.invariant, omega arith, named-seven c.args.rows.now c.loop-j.j ∙ sym c.has.ensures ∙ c.if-has.true)

pub overflow_step-j : goal.overflow_step-j
overflow_step-j c = omega arith

pub loop-j-smaller : goal.loop-j-smaller
loop-j-smaller c = omega arith

pub loop-j-preserved : goal.loop-j-preserved
loop-j-preserved c = omega arith

pub returns : goal.returns
returns c = λ e. absurd (false≢true e)
