-- The SRLG numbers of attributes, of a list of elements, and of one element.
use Rattle.std.specs.Prelude.{cond, List, [], ℕ, eqb}
use Rattle.linkstate.specs.Lists.{each}
use Rattle.linkstate.specs.Bytes.{words}
use Rattle.linkstate.specs.Elements.{elements}
use Rattle.linkstate.specs.Attributes.{Attribute, of_kind}
use Rattle.linkstate.specs.BgpLs.{attributes_of}

-- W5. The values of all 1096s, in byte order.
unfoldable pub srlg_words : List Attribute → List ℕ
srlg_words ts = each (λ t. words t.value) (of_kind 1096 ts)

unfoldable pub list_words : List ℕ → List ℕ
list_words s = srlg_words (each attributes_of (elements 2 0 s))

unfoldable pub element_words : ℕ → List ℕ → List ℕ
element_words t v = cond (eqb 1096 t) (words v) []
