-- `octets::same_parts` meets its contract: the two parts are compared whole.
-- Assumes nothing.
use mathlib.Core.Path.{◌∙◌}
use Rattle.octets.proofs.Laws.{part-is}
use Rattle.octets.proofs.same_parts.Goals as goal

pub returns : goal.returns
returns c = let a = c.args in
    c.same.ensures ∙ simp (part-is a.s.now a.p a.n, part-is a.t.now a.q a.m)
