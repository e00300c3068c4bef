-- By the rule that side B's names give.
use Rattle.why.proofs.Rules.{link-in-b}
use Rattle.isis.specs.RunB.{side_b}
use Rattle.replies.specs.Told.{subject_of}
use mathlib.Core.Path.{refl}
use Rattle.why.proofs.why_in_b.Goals as goal

pub why_by-requires : goal.why_by-requires
why_by-requires c = ((c.requires.0, refl), c.requires.1)

pub returns : goal.returns
returns c = λ a d t. link-in-b a c.args.b.now d (subject_of c.args.whom) _ _ (c.decide.ensures.rule (side_b c.args.b.now d) t.0 t.1)
    c.why_by.ensures
