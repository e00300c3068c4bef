-- The numbers that the rule takes, sorted.
use mathlib.Core.Path.{◌∙◌, ap}
use native.Mathlib.Omega.{arith}
use Rattle.linkstate.specs.Attributes.{srlgs}
use Rattle.replies.specs.Told.{subject_of}
use Rattle.isis.specs.RunB.{side_b}
use Rattle.isis_tlvs_238.proofs.Sorted.{sorted_front}
use Rattle.isis_tlvs_238.proofs.Words.{on-side-b}
use Rattle.isis_tlvs_238.proofs.srlgs_of.Goals as goal

pub words_by-k-requires : goal.words_by-k-requires
words_by-k-requires c = (c.requires.0, c.requires.1, c.requires.2, on-side-b (subject_of c.args.whom) (side_b c.args.b.now c.args.c.now) _ (c.decide-rule.ensures.rule _ c.requires.4.0 c.requires.4.1))

pub sort_front-requires : goal.sort_front-requires
sort_front-requires c = let w = c.words_by-k in (omega (arith, w.ensures.room, w.auto.out), w.ensures.few)

pub returns : goal.returns
returns c = let w = c.words_by-k in let s = c.sort_front.ensures in
    (sorted_front _ _ _ _ w.ensures _ s.0 ∙ ap srlgs (c.decide-rule.ensures.taken (side_b c.args.b.now c.args.c.now) c.requires.4.0 c.requires.4.1), omega (arith, w.ensures.few, s.1), omega (arith, w.ensures.room, s.1))
