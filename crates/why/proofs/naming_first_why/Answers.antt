-- One holds the value, or legacy.
use mathlib.Core.Path.{sym, ap, ◌∙◌}
use Rattle.linkstate.specs.Why.{because, by_name}
use Rattle.advertisements.specs.Walks.{held}
use Rattle.why.proofs.Rules.{some-held, none-held, naming-first-legacy, naming-first-held}
use Rattle.why.proofs.naming_first_why.Goals as goal

pub returns-in_default : goal.returns-in_default
returns-in_default c =
    naming-first-legacy c.args.run c.args.s.now c.args.code c.requires _ c.holder_of.ensures
    (none-held _ c.in_default.is) _ (c.legacy_why.ensures c.args.s.now)

pub returns : goal.returns
returns c =
    c.because.ensures ∙ ap (λ r. because by_name (held r)) (sym c.in-Some.is)
    ∙ naming-first-held c.args.run c.args.s.now c.args.code c.requires _ c.holder_of.ensures (some-held _ _ c.in-Some.is)
