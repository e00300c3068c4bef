-- `octets::copy_part` meets its contract: the part is copied whole.
-- Assumes nothing.
use mathlib.Core.Path.{ap, ◌∙◌}
use Rattle.linkstate.specs.Lists.{put}
use Rattle.octets.proofs.Laws.{part-is}
use Rattle.octets.proofs.copy_part.Goals as goal

pub returns : goal.returns
returns c = let a = c.args in
    c.copy_all.ensures ∙ ap (put _ _) (part-is a.src.now a.a a.n)
