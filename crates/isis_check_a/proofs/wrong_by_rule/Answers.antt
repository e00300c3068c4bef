-- A wrong length is one that does not fit the size of the type's rule.
use mathlib.Core.Bool.{not}
use mathlib.Core.Path.{ap, sym, ◌∙◌}
use Rattle.kinds.specs.Rules.{fits_in}
use Rattle.kinds.specs.declared.Rule.{Rule}
use Rattle.isis_kinds.proofs.Laws.{wrong-in-a}
use Rattle.isis_check_a.proofs.wrong_by_rule.Goals as goal

pub returns : goal.returns
returns c = ap not (c.fits.ensures ∙ ap (λ (r : Rule). fits_in r.size c.args.n) c.classify_type-rule.ensures) ∙ sym (wrong-in-a _ _)
