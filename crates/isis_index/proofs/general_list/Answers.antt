-- A turn takes the attribute that the iterator gives.
use Rattle.frames.specs.Left.{whole_left}
use Rattle.frames.proofs.Walks.{uncut}
use Rattle.isis.specs.RunA.{check_attribute}
use Rattle.linkstate.specs.Replies.{run_a}
use Rattle.isis_index.specs.Index.{heard_by_all}
use Rattle.isis_index.proofs.Lists.{place-begin, place-end, place-right, place-next, took-then, took-empty, general-ready}
use native.Mathlib.Omega.{arith}
use mathlib.Core.Path.{ap, ◌∙◌}
use Rattle.isis_index.proofs.general_list.Goals as goal

pub new-at-items-requires-clause-uncut : goal.new-at-items-requires-clause-uncut
new-at-items-requires-clause-uncut c = uncut run_a check_attribute _ c.requires.2.passed

pub loop-at-init : goal.loop-at-init
loop-at-init c = place-begin c.requires.2 (ap whole_left c.into_iter-at-iterator.ensures.into_iter_gives ∙ c.new-at-items.ensures)
    (took-empty c.args.a.now c.args.sets.now heard_by_all c.requires.0)

pub enter_general-requires : goal.enter_general-requires
enter_general-requires c = let i = c.loop-at.invariant in
    let g = general-ready c.requires.1 i.reads in
    (g.0, g.1, place-right c.requires.2 i c.in-Some.ensures.steps (λ k. omega (arith, c.type_inv.a k)))

pub overflow_add-at : goal.overflow_add-at
overflow_add-at c = let r = place-right c.requires.2 c.loop-at.invariant c.in-Some.ensures.steps (λ k. omega (arith, c.type_inv.a k)) in omega (arith, r.low)

pub loop-at-preserved : goal.loop-at-preserved
loop-at-preserved c = let i = c.loop-at.invariant in
    place-next c.requires.2 i c.in-Some.ensures.steps (λ v. took-then i.reads.done (c.enter_general.ensures v))

pub shape_of-sets : goal.shape_of-sets
shape_of-sets c = c.loop-at.invariant.reads.done.kept.same

pub returns : goal.returns
returns c = place-end c.requires.2 c.loop-at.invariant c.in-None.ensures.steps.0
