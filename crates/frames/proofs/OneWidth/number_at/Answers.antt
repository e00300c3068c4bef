-- The number of one byte is the byte.
use mathlib.Core.Path.{sym, ◌∙◌}
use Rattle.linkstate.proofs.WalkLaws.{type-one}
use Rattle.frames.proofs.Steps.{type-is}
use Rattle.frames.proofs.OneWidth.number_at.Goals as goal

pub returns-clause-value : goal.returns-clause-value
returns-clause-value c = c.from.ensures ∙ sym (type-one c.args.s.now c.args.at) ∙ type-is 1 c.args.s.now c.args.at
