-- Where it stands, or nothing.
use mathlib.Core.Path.{◌∙◌}
use Rattle.replies.specs.Told.{told_run}
use Rattle.statuses.proofs.EntryLaws.{row-placed, row-not-placed}
use Rattle.statuses.proofs.place_row.Goals as goal

pub returns-in-Some : goal.returns-in-Some
returns-in-Some c = λ ts e. c.of_span.ensures ∙ row-placed (told_run c.args.run) _ _ c.in-Some.is ts e

pub returns-in-None : goal.returns-in-None
returns-in-None c = λ ts e. c.nothing.ensures ∙ row-not-placed (told_run c.args.run) _ c.in-None.is ts e
