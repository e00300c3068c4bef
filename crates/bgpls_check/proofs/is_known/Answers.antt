-- By the kind of the code's rule.
use mathlib.Core.Path.{refl, ◌∙◌}
use Rattle.bgpls_check.proofs.Laws.{known_by}
use Rattle.bgpls_check.proofs.is_known.Goals as goal

pub returns : goal.returns
returns c = c.is_of_applications.ensures ∙ known_by _ _ _ c.classify_code-kind.ensures refl
