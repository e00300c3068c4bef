-- One that passes holds the value, or legacy.
use mathlib.Core.Path.{sym, ap, ◌∙◌}
use Rattle.linkstate.specs.Why.{because, carried}
use Rattle.replies.specs.declared.Run.TheVariants.{A}
use Rattle.advertisements.specs.Walks.{held}
use Rattle.why.proofs.Rules.{some-held, none-held, carried_none, carried-is}
use Rattle.why.proofs.carried_why.Goals as goal

pub returns-in_default : goal.returns-in_default
returns-in_default c =
    carried_none A c.args.a.now c.args.code c.requires c.args.test _ c.holder_of.ensures
    (none-held _ c.in_default.is) _ (c.legacy_why.ensures c.args.a.now)

pub returns : goal.returns
returns c =
    c.because.ensures ∙ ap (λ r. because carried (held r)) (sym c.in-Some.is)
    ∙ carried-is A c.args.a.now c.args.code c.requires c.args.test _ c.holder_of.ensures (some-held _ _ c.in-Some.is)
