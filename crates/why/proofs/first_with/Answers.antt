-- One passes and has the kind, by its type.
use mathlib.Core.Path.{◌∙◌}
use Rattle.why.proofs.Runs.{with_in}
use Rattle.why.proofs.first_with.Goals as goal

pub returns : goal.returns
returns c = c.first_such.ensures ∙ with_in c.args.run c.args.s.now c.args.code c.requires c.args.test _ c.type_in.ensures
