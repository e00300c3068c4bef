-- By the kind of the type's rule.
use mathlib.Core.Path.{◌∙◌}
use Rattle.isis_check_a.proofs.Types.{known_by}
use Rattle.isis_check_a.proofs.is_known.Goals as goal

pub returns : goal.returns
returns c = c.is_known.ensures ∙ known_by _ _ c.classify_type-kind.ensures
