-- Where the first of attributes stands.
use Rattle.std.specs.Prelude.{List, [], ◌∷◌, Option, Some, None}
use Rattle.linkstate.specs.Attributes.{Attribute}
use Rattle.octets.specs.declared.Span.{Span}

unfoldable pub found_in : List Attribute → Option Span
found_in [] = None
found_in (t ∷ ts) = Some (record { place = t.at; len = t.len })
