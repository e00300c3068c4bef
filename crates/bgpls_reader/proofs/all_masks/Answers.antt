-- With what the 1122s that are left name, the numbers hold all that are named.
use Rattle.bgpls_reader.proofs.NamedLaws.{held_start, held-end, held-skip, held_next, room}
use Rattle.bgpls_find.proofs.SetLaws.{run-passes, run-within}
use Rattle.bgpls_find.proofs.Laws.{sound}
use Rattle.frames.specs.Left.{whole_left}
use Rattle.frames.proofs.Walks.{Within, within, uncut, passed-here, passed-rest}
use Rattle.linkstate.specs.BgpLs.{check_top}
use Rattle.linkstate.specs.Elements.{faults}
use Rattle.linkstate.specs.Replies.{run_bgp_ls}
use lib.ListN.{length}
use native.Mathlib.Omega.{arith}
use mathlib.Core.Path.{sym, ap, subst, ◌∙◌}
use Rattle.bgpls_reader.proofs.all_masks.Goals as goal

pub new-e-items-requires-clause-uncut : goal.new-e-items-requires-clause-uncut
new-e-items-requires-clause-uncut c = uncut run_bgp_ls check_top _ (run-passes c.args.run.bytes.now c.args.run.passed)

pub loop-e-init : goal.loop-e-init
loop-e-init c = let r = c.args.run.bytes.now in
    let e = ap whole_left c.into_iter-e-iterator.ensures.into_iter_gives ∙ c.new-e-items.ensures in
    record {
      within = subst (Within 2 (length r)) (sym e) (within 2 (omega arith) 0 _ r (omega arith));
      passes = ap (faults run_bgp_ls check_top) e ∙ run-passes r c.args.run.passed;
      held = held_start r _ e c.nobody-m.ensures;
    }

pub is_chosen-requires : goal.is_chosen-requires
is_chosen-requires c = sound _ _ _ (passed-here run_bgp_ls check_top c.in-Some.ensures.steps c.loop-e.invariant.passes)

pub join_masks-m-requires : goal.join_masks-m-requires
join_masks-m-requires c = let l = c.loop-e.invariant in
    let e = c.in-Some.ensures.steps in
    let v = room _ _ (sound _ _ _ (passed-here run_bgp_ls check_top e l.passes)) (sym c.is_chosen.ensures ∙ c.if-is_chosen.true) in
    (v.fixed, v.live, v.masks, omega (arith, (rw e at l.within).0, run-within _ c.args.run.passed))

pub loop-e-preserved-then-is_chosen : goal.loop-e-preserved-then-is_chosen
loop-e-preserved-then-is_chosen c = let l = c.loop-e.invariant in
    let e = c.in-Some.ensures.steps in
    record {
      within = (rw e at l.within).1;
      passes = passed-rest run_bgp_ls check_top e l.passes;
      held = held_next _ _ l.held e (sym c.is_chosen.ensures ∙ c.if-is_chosen.true) _ c.join_masks-m.ensures;
    }

pub loop-e-preserved : goal.loop-e-preserved
loop-e-preserved c = let l = c.loop-e.invariant in
    let e = c.in-Some.ensures.steps in
    record {
      within = (rw e at l.within).1;
      passes = passed-rest run_bgp_ls check_top e l.passes;
      held = held-skip _ _ l.held e (sym c.is_chosen.ensures ∙ c.if-is_chosen.false);
    }

pub returns : goal.returns
returns c = held-end _ _ c.loop-e.invariant.held c.in-None.ensures.steps.0
