-- A turn takes the attribute that the iterator gives.
use Rattle.frames.specs.Left.{whole_left}
use Rattle.frames.proofs.Walks.{uncut}
use Rattle.isis.specs.RunA.{check_attribute}
use Rattle.linkstate.specs.Replies.{run_a}
use Rattle.isis_index.specs.Index.{heard}
use Rattle.isis_index.proofs.Lists.{place-begin, place-end, place-right, place-next, for-then, for-empty, named-ready}
use native.Mathlib.Omega.{arith}
use mathlib.Core.Path.{ap, ◌∙◌}
use Rattle.isis_index.proofs.named_list.Goals as goal

pub new-at-items-requires-clause-uncut : goal.new-at-items-requires-clause-uncut
new-at-items-requires-clause-uncut c = uncut run_a check_attribute _ c.requires.1.passed

pub loop-at-init : goal.loop-at-init
loop-at-init c = let a = c.args in
    place-begin c.requires.1 (ap whole_left c.into_iter-at-iterator.ensures.into_iter_gives ∙ c.new-at-items.ensures)
    (for-empty a.a.now a.own.now a.sets.now a.have.now (heard a.who) c.requires.0)

pub enter_for-requires : goal.enter_for-requires
enter_for-requires c = let i = c.loop-at.invariant in let p = c.requires in
    (named-ready p.0 i.reads, place-right p.1 i c.in-Some.ensures.steps (λ k. omega (arith, c.type_inv.a k)), p.2)

pub overflow_add-at : goal.overflow_add-at
overflow_add-at c = let r = place-right c.requires.1 c.loop-at.invariant c.in-Some.ensures.steps (λ k. omega (arith, c.type_inv.a k)) in omega (arith, r.low)

pub loop-at-preserved : goal.loop-at-preserved
loop-at-preserved c = let i = c.loop-at.invariant in
    place-next c.requires.1 i c.in-Some.ensures.steps (λ v. for-then i.reads.done (c.enter_for.ensures v))

pub shape_of-sets : goal.shape_of-sets
shape_of-sets c = c.loop-at.invariant.reads.done.adds.same

pub returns : goal.returns
returns c = place-end c.requires.1 c.loop-at.invariant c.in-None.ensures.steps.0
