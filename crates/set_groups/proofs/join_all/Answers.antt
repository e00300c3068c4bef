-- The two masks, one after the other.
use native.Mathlib.Omega.{arith}
use Rattle.masks.specs.Applications.{at_place}
use Rattle.set_groups.specs.Table.{Begun}
use Rattle.set_groups.proofs.Fills.{begun, filled, ahead-standard, ahead-user}
use Rattle.set_groups.proofs.join_all.Goals as goal
use Rattle.set_groups.proofs.join_all.Goals.{After-join_mask-count}

pub join_mask-count-requires : goal.join_mask-count-requires
join_mask-count-requires c = let a = c.args in
    (omega arith, c.requires.0, (at_place a.m, 1, c.requires.1, begun _ _ _ (at_place a.m) _ _ c.requires.3 c.requires.2, ahead-standard a.m _ c.without-others.ensures))

first : (c : After-join_mask-count) → Begun c.args.sets.run.now c.args.sets.rows.now c.args.own.now (at_place c.args.m) 64 c.join_mask-count.result c.join_mask-count.new.groups c.join_mask-count.new.buckets
first c = let a = c.args in c.join_mask-count.ensures.1 (at_place a.m) 1 c.requires.1 (begun _ _ _ (at_place a.m) _ _ c.requires.3 c.requires.2) (ahead-standard a.m _ c.without-others.ensures)

pub join_mask-requires : goal.join_mask-requires
join_mask-requires c = (omega arith, c.requires.0, (at_place c.args.m, 64, c.requires.1, first (goal.at.join_mask-requires c).After-join_mask-count, ahead-user c.args.m))

pub returns : goal.returns
returns c = filled _ _ _ (at_place c.args.m) (c.join_mask.ensures.1 (at_place c.args.m) 64 c.requires.1 (first (goal.at.returns c).After-join_mask-count) (ahead-user c.args.m))
