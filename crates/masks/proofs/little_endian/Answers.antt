-- At once, or byte by byte.
use mathlib.Core.Path.{◌∙◌}
use native.Mathlib.Omega.{arith}
use Rattle.masks.proofs.Steps.{four-all, eight-all}
use Rattle.masks.proofs.little_endian.Goals as goal

pub returns-in-len4 : goal.returns-in-len4
returns-in-len4 c = c.from.ensures ∙ c.from_le_bytes.ensures ∙ four-all _ (omega arith)

pub returns-in-len8 : goal.returns-in-len8
returns-in-len8 c = c.from_le_bytes-in-len8.ensures ∙ eight-all _ (omega arith)
