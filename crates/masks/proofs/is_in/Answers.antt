-- The bit at its place in the mask.
use mathlib.Core.Path.{◌∙◌}
use native.Mathlib.Omega.{arith}
use Rattle.masks.proofs.Sets.{low_bit, user-bit}
use Rattle.masks.proofs.is_in.Goals as goal

pub returns-then-n-lt64 : goal.returns-then-n-lt64
returns-then-n-lt64 c = c.has.ensures ∙ low_bit c.args.m _ (omega arith)

pub returns : goal.returns
returns c = c.has-2.ensures ∙ user-bit c.args.m _ (omega arith)
