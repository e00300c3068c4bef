-- The first of the kind in the set that the question is about.
use Rattle.octets.specs.Spans.{found_in}
use Rattle.linkstate.specs.Attributes.{Attribute, of_kind}
use mathlib.Core.List.{List}
use mathlib.Core.Path.{ap, ◌∙◌}
use Rattle.bgpls_reader.proofs.find_value.Goals as goal

pub first_in-requires : goal.first_in-requires
first_in-requires c = c.set_asked-start.ensures.begins

pub returns : goal.returns
returns c = c.first_in.ensures ∙ ap (λ (ts : List Attribute). found_in (of_kind c.args.code ts)) c.set_asked-start.ensures.all
