-- Of eight bytes the first n.
use mathlib.Core.Path.{◌∙◌}
use Rattle.masks.proofs.Steps.{eight-all, front_all}
use Rattle.masks.proofs.front_bytes.Goals as goal

pub returns : goal.returns
returns c = front_all _ _ _ c.fits-s c.told-s (c.from_le_bytes.ensures ∙ eight-all _ c.told-s) c.requires.1
