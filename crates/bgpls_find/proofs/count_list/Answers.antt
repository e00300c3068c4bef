-- With what is left, all are counted.
use Rattle.bgpls_find.proofs.SrlgLaws.{words_left, words-start, words-turn, words-end, few-words, uncut_alone, count-start, count_next, count-end}
use Rattle.frames.specs.Left.{whole_left}
use native.Mathlib.Omega.{arith}
use mathlib.Core.Path.{ap, ◌∙◌}
use Rattle.bgpls_find.proofs.count_list.Goals as goal

pub new-e-items-requires-clause-uncut : goal.new-e-items-requires-clause-uncut
new-e-items-requires-clause-uncut c = uncut_alone c.requires.0 c.args.s.now c.requires.1

pub loop-e-init : goal.loop-e-init
loop-e-init c = count-start _ _ (ap words_left (ap whole_left c.into_iter-e-iterator.ensures.into_iter_gives ∙ c.new-e-items.ensures) ∙ words-start c.args.s.now)

pub overflow_add-n : goal.overflow_add-n
overflow_add-n c = let k = count_next _ _ _ _ _ _ c.loop-e.invariant (words-turn c.in-Some.ensures.steps) c.count_element-n.ensures.0 in
    omega (arith, few-words c.args.s.now)

pub loop-e-preserved : goal.loop-e-preserved
loop-e-preserved c = count_next _ _ _ _ _ _ c.loop-e.invariant (words-turn c.in-Some.ensures.steps) c.count_element-n.ensures.0

pub returns : goal.returns
returns c = let e = count-end _ _ _ c.loop-e.invariant (words-end c.in-None.ensures.steps.0) in
    (e, omega (arith, few-words c.args.s.now))
