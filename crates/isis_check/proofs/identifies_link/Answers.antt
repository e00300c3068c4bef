-- The counts are the digits of the tally, which is the same wherever the list begins.
use mathlib.Core.Path.{◌∙◌}
use native.Mathlib.Omega.{arith}
use Rattle.isis_check.proofs.LawsOfB.{tally-says}
use Rattle.isis_check.proofs.identifies_link.Goals as goal

pub returns : goal.returns
returns c = λ base. c.tally_identifies.ensures ∙ tally-says _ _ (omega arith) c.tally_identifiers.ensures base
