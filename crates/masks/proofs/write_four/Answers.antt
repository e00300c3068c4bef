-- Four bytes in the place of four.
use mathlib.Core.Path.{◌∙◌, ap}
use lib.ListN.{length}
use native.Mathlib.Omega.{arith}
use Rattle.linkstate.specs.Lists.{put}
use Rattle.masks.specs.Sets.{four_bytes}
use Rattle.masks.proofs.Steps.{put-part, four-low}
use Rattle.masks.proofs.write_four.Goals as goal

pub returns : goal.returns
unfolding four_bytes
returns c = let e = c.copy_from_slice.ensures.after ∙ c.to_le_bytes.ensures ∙ four-low c.args.m in put-part _ _ _ _ (omega (arith, ap length e)) ∙ ap (put c.args.out.now c.args.at) e
