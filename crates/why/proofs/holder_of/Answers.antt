-- None has the value, the first of those that pass, or the first that has it.
use mathlib.Core.Path.{sym, ap, ◌∙◌}
use Rattle.advertisements.specs.Walks.{held}
use Rattle.why.proofs.Rules.{some-held, none-held, holds-other, holds-none, holds-srlg}
use Rattle.why.proofs.holder_of.Goals as goal

pub returns-in_err-place : goal.returns-in_err-place
returns-in_err-place c =
    ap held (c.from_residual.ensures ∙ sym c.in_err-place.was)
    ∙ holds-none c.args.run c.args.s.now c.args.code c.requires c.args.test _ c.first_with.ensures (none-held _ c.in_err-place.was)

pub returns-then-code-eq1096 : goal.returns-then-code-eq1096
returns-then-code-eq1096 c =
    holds-srlg c.args.run c.args.s.now c.args.code c.requires c.args.test _ c.first_with.ensures
    c.if-code-eq1096.true (some-held _ _ c.in_ok-place.was) _ c.first_such.ensures

pub returns : goal.returns
returns c =
    ap held (sym c.in_ok-place.was) ∙ holds-other c.args.run c.args.s.now c.args.code c.requires c.args.test _ c.first_with.ensures c.if-code-eq1096.false
