-- With what is left, all are written.
use Rattle.bgpls_find.proofs.SrlgLaws.{words_left, words-start, words-turn, words-end, uncut_alone, written_start, written_next, written-end, written-room}
use Rattle.frames.specs.Left.{whole_left}
use mathlib.Core.Path.{ap, ◌∙◌}
use Rattle.bgpls_find.proofs.write_list.Goals as goal

pub new-e-items-requires-clause-uncut : goal.new-e-items-requires-clause-uncut
new-e-items-requires-clause-uncut c = uncut_alone c.requires.1.0 c.args.s.now c.requires.1.1

pub loop-e-init : goal.loop-e-init
loop-e-init c = written_start _ _ _ _ (ap words_left (ap whole_left c.into_iter-e-iterator.ensures.into_iter_gives ∙ c.new-e-items.ensures) ∙ words-start c.args.s.now) c.requires.0

pub write_element-k-requires : goal.write_element-k-requires
write_element-k-requires c = written-room _ _ _ _ _ _ _ _ c.loop-e.invariant (words-turn c.in-Some.ensures.steps)

pub loop-e-preserved : goal.loop-e-preserved
loop-e-preserved c = let w = c.write_element-k.ensures in
    written_next _ _ _ _ _ _ _ _ _ _ c.loop-e.invariant (words-turn c.in-Some.ensures.steps) w.0 w.1

pub shape_of-out : goal.shape_of-out
shape_of-out c = c.loop-e.invariant.same

pub returns : goal.returns
returns c = written-end _ _ _ _ _ _ c.loop-e.invariant (words-end c.in-None.ensures.steps.0)
