-- `octets::float_at` meets its contract: the float of the number that is read.
-- Assumes nothing.
use mathlib.Core.Path.{ap, ◌∙◌}
use lib.Ieee.{of_bits, binary32}
use Rattle.octets.proofs.float_at.Goals as goal

pub returns : goal.returns
returns c = c.float_of.ensures ∙ ap (of_bits binary32) c.read32.ensures.0
