-- One names it, or none.
use mathlib.Core.Path.{◌∙◌}
use Rattle.why.proofs.Rules.{is-some-held, rule-named, rule-unnamed}
use Rattle.why.proofs.named_rule.Goals as goal

pub returns-then-is_some : goal.returns-then-is_some
returns-then-is_some c = rule-named c.args.run.bytes.now c.args.run.passed c.args.n _ c.first_such.ensures (is-some-held _ _ c.is_some.ensures ∙ c.if-is_some.true)

pub returns : goal.returns
returns c = rule-unnamed c.args.run.bytes.now c.args.run.passed c.args.n _ c.first_such.ensures (is-some-held _ _ c.is_some.ensures ∙ c.if-is_some.false)
