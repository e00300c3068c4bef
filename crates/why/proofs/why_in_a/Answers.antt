-- By the rule that side A's names give: of a bandwidth, or of the subject.
use Rattle.why.proofs.Rules.{link-bandwidth, link-in-a, ready-in-a}
use Rattle.isis.specs.RunA.{side_a}
use Rattle.replies.specs.Told.{subject_of}
use mathlib.Core.Path.{sym, ◌∙◌}
use Rattle.why.proofs.why_in_a.Goals as goal

pub bandwidth_why-requires : goal.bandwidth_why-requires
bandwidth_why-requires c = ready-in-a _ _ _ _ c.requires

pub returns-then-is_link_code : goal.returns-then-is_link_code
returns-then-is_link_code c = λ d e. link-bandwidth c.args.a.now d e (subject_of c.args.whom) _ _ c.args.code
    (c.decide-rule.ensures.rule (side_a c.args.a.now) c.requires.tells.0 c.requires.tells.1)
    (sym c.is_link_code.ensures ∙ c.if-is_link_code.true) c.bandwidth_why.ensures

pub why_by-requires : goal.why_by-requires
why_by-requires c = (ready-in-a _ _ _ _ c.requires, c.requires.low)

pub returns : goal.returns
returns c = λ d e. link-in-a c.args.a.now d e (subject_of c.args.whom) _ _ c.args.code
    (c.decide-rule.ensures.rule (side_a c.args.a.now) c.requires.tells.0 c.requires.tells.1)
    (sym c.is_link_code.ensures ∙ c.if-is_link_code.false) c.requires.other c.why_by.ensures
