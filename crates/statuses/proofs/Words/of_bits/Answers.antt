-- The four bytes are all of the value.
use mathlib.Core.Path.{◌∙◌}
use Rattle.statuses.proofs.Laws.{whole_run}
use Rattle.statuses.proofs.Words.of_bits.Goals as goal

pub returns : goal.returns
returns c = c.two.ensures ∙ rw (c.from-bits.ensures, c.read32.ensures.0, whole_run _ 4 c.requires)
