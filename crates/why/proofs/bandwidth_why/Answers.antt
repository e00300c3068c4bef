-- Rule by rule.
use Rattle.why.proofs.Rules.{band-legacy-first, band-alone-first, band-else}
use Rattle.linkstate.specs.Questions.{generally}
use Rattle.replies.specs.declared.Run.TheVariants.{A}
use Rattle.why.specs.Runs.{standing}
use Rattle.why.proofs.bandwidth_why.Goals as goal

pub returns-in-LegacyFirst : goal.returns-in-LegacyFirst
returns-in-LegacyFirst c = band-legacy-first c.args.rule generally c.args.code (standing A c.args.a.now) _ c.in-LegacyFirst.is
    c.legacy_first_why.ensures

pub returns-in-AloneFirst : goal.returns-in-AloneFirst
returns-in-AloneFirst c = band-alone-first c.args.rule generally c.args.code (standing A c.args.a.now) _ c.in-AloneFirst.is c.carried_why.ensures

pub returns-in_default : goal.returns-in_default
returns-in_default c = band-else c.args.rule generally c.args.code (standing A c.args.a.now) _ c.in_default.not-LegacyFirst c.in_default.not-AloneFirst
    (c.legacy_why.ensures c.args.a.now)
