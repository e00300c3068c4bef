-- A turn takes the element that the iterator gives.
use Rattle.frames.specs.Left.{whole_left}
use Rattle.frames.proofs.Walks.{uncut, left-all}
use Rattle.isis.specs.RunA.{check_a}
use Rattle.linkstate.specs.Replies.{run_a}
use Rattle.isis_index.proofs.Walking.{walking-begin, walking-ready, place_here, place-kind, place-named, place-next, place-end}
use mathlib.Core.Path.{sym, ap, ◌∙◌}
use Rattle.isis_index.proofs.walk.Goals as goal

pub new-e-items-requires-clause-uncut : goal.new-e-items-requires-clause-uncut
new-e-items-requires-clause-uncut c = uncut run_a check_a _ c.requires.0

pub loop-e-init : goal.loop-e-init
loop-e-init c = let p = c.requires in
    record {
      at = 0;
      left = ap whole_left c.into_iter-e-iterator.ensures.into_iter_gives ∙ c.new-e-items.ensures ∙ sym (left-all 1 0 c.args.a.now);
      walks = walking-begin p.0 p.2 p.3 p.4;
    }

pub add_element-requires : goal.add_element-requires
add_element-requires c = let i = c.loop-e.invariant in
    let e = c.in-Some.ensures.steps in
    (walking-ready i.walks c.requires.2, place_here i e c.requires.1, place-kind i e, place-named i e)

pub loop-e-preserved : goal.loop-e-preserved
loop-e-preserved c = place-next c.loop-e.invariant c.in-Some.ensures.steps c.add_element.ensures

pub shape_of-sets : goal.shape_of-sets
shape_of-sets c = c.loop-e.invariant.walks.done.adds.same

pub returns : goal.returns
returns c = let p = c.requires in let i = c.loop-e.invariant in
    (i.walks.done.adds.same, place-end i c.in-None.ensures.steps.0 p.2 p.3)
