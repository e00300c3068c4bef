-- The one that holds the value, or the first.
use mathlib.Core.Path.{◌∙◌}
use borrow.Author.Rules.{rules}
use Rattle.why.proofs.Rules.{naming-is}
use Rattle.why.proofs.naming_why.Goals as goal

pub returns : goal.returns
returns c =
    c.because.ensures
    ∙ naming-is c.args.run c.args.s.now c.args.code c.requires c.args.n _ _ c.holder_of.ensures _ c.or_else-found.ensures (λ p. search (rules, p))
