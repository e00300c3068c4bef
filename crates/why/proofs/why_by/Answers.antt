-- Rule by rule.
use mathlib.Core.Path.{◌∙◌}
use Rattle.why.proofs.Rules.{by-l, by-naming, by_general, by-naming-first, by-else, with-l}
use Rattle.replies.specs.Told.{subject_of}
use Rattle.why.specs.Runs.{standing}
use Rattle.why.proofs.why_by.Goals as goal

pub returns-in-ByL : goal.returns-in-ByL
returns-in-ByL c = c.because.ensures ∙ by-l c.args.rule (subject_of c.args.whom) c.args.code (standing c.args.run c.args.s.now) _ c.in-ByL.is
    (with-l c.args.run c.args.s.now c.args.code c.requires.0 _ _ c.number_of.ensures _ c.first_such.ensures)

pub returns-in-Naming : goal.returns-in-Naming
returns-in-Naming c = by-naming c.args.rule (subject_of c.args.whom) c.args.code (standing c.args.run c.args.s.now) _ _ c.in-Naming.is
    c.naming_why.ensures

pub returns-in-General : goal.returns-in-General
returns-in-General c = c.because-in-General.ensures ∙ by_general c.args.rule (subject_of c.args.whom) c.args.code (standing c.args.run c.args.s.now)
    c.in-General.is _ _ c.general_rule.ensures c.holder_of.ensures

pub returns-in-NamingFirst : goal.returns-in-NamingFirst
returns-in-NamingFirst c = by-naming-first c.args.rule (subject_of c.args.whom) c.args.code (standing c.args.run c.args.s.now) _
    c.in-NamingFirst.is c.naming_first_why.ensures

pub returns-in_default : goal.returns-in_default
returns-in_default c = by-else c.args.rule (subject_of c.args.whom) c.args.code (standing c.args.run c.args.s.now) _
    c.in_default.not-ByL c.in_default.not-Naming c.in_default.not-General c.in_default.not-NamingFirst
    (c.legacy_why.ensures c.args.s.now)
