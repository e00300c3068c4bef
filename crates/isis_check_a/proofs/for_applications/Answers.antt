-- From 40 on no type is one; below, each has its bit.
use mathlib.Core.Path.{refl, sym, ◌∙◌}
use native.Mathlib.Omega.{arith}
use Rattle.isis.proofs.Computing.{computing}
use Rattle.isis_check_a.specs.Legacy.{for_applications}
use Rattle.isis_check_a.proofs.Legacy.{bit_told, type-bit, type-high}
use Rattle.isis_check_a.proofs.for_applications.Goals as goal

pub returns-then-t-ge40 : goal.returns-then-t-ge40
returns-then-t-ge40 c = sym (type-high _ (omega arith))

pub returns : goal.returns
unfolding computing for_applications bit_told
returns c = c.has.ensures ∙ type-bit _ refl c.args.t (omega arith)
