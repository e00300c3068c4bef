-- Each element is asked in turn.
use mathlib.Core.Path.{◌∙◌}
use borrow.Author.Tests.{tests}
use Rattle.std.proofs.Common.{rules}
use Rattle.std.proofs.lemmas.Iterator.Consumers.{YieldsList-from_first}
use Rattle.std.proofs.lemmas.Iterator.Search.{any_from_yields_List}
use Rattle.frames.specs.Left.{shown, elements_left}
use Rattle.advertisements.specs.Tests.{is_of}
use Rattle.advertisements.proofs.Walks.{any-listed}
use Rattle.advertisements.proofs.list_has.Goals as goal

pub returns : goal.returns
returns g c =
    any_from_yields_List (is_of c.args.kind) c.any.new.self _ c.any.result c.any.ensures.ran
    (YieldsList-from_first shown elements_left _ c.new.ensures) (λ x b q k. search (rules, tests))
    ∙ any-listed _ _
