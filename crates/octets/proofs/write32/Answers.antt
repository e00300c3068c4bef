-- The bytes in the standard library's order.
use mathlib.Core.Path.{ap, ◌∙◌}
use native.Mathlib.Omega.{arith}
use Rattle.linkstate.specs.Lists.{put}
use Rattle.octets.proofs.Laws.{four-be}
use Rattle.octets.proofs.write32.Goals as goal

pub returns : goal.returns
returns c = c.copy_all.ensures ∙ ap (put _ _) (c.to_be_bytes.ensures ∙ four-be c.args.x (omega arith))
