use native.Mathlib.Omega.{arith}
use Rattle.srlg_sources.proofs.Joins.{joined-all}
use Rattle.srlg_sources.proofs.join_row.Goals as goal

pub returns : goal.returns
returns c = let l = c.loop-i in
    (l.invariant.1.size, λ i h. joined-all c.args.x.now c.args.row.now l.x l.i l.invariant.1 i (omega arith))
