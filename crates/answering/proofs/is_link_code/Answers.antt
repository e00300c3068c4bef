-- A code is one of the link's three exactly if its rule's kind is.
use mathlib.Core.Path.{◌∙◌}
use Rattle.answering.proofs.Laws.{link-by-kind}
use Rattle.answering.proofs.is_link_code.Goals as goal

pub returns : goal.returns
returns c = c.is_link.ensures ∙ link-by-kind _ _ c.classify_code-kind.ensures
