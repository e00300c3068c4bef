-- What an iterator over elements has left to give, and the element that an item shows.
use Rattle.std.specs.Prelude.{List, Result}
use Rattle.std.specs.declared.result.Result.TheVariants.{Ok, Err}
use Rattle.linkstate.specs.Elements as linkstate
use Rattle.frames.specs.declared.Width.{Ghosts}
use Rattle.frames.specs.declared.Element.{Element}
use Rattle.frames.specs.declared.Cut.{Cut}
use Rattle.frames.specs.declared.Elements.{Elements}
use Rattle.frames.specs.declared.Whole.{Whole}
use Rattle.frames.specs.Uncut.{left}

abbrev pub of_whole : Element → linkstate.Element
of_whole e = linkstate.element e.at e.kind e.value.now

abbrev pub shown : Result Element Cut → linkstate.Element
shown (Ok e) = of_whole e
shown (Err c) = linkstate.cut c.at

abbrev pub elements_left : {W : Type 0} {g : Ghosts W} → Elements W g → List linkstate.Element
elements_left {g = g} it = left g.BYTES it.base it.list.now it.at

abbrev pub whole_left : {W : Type 0} {g : Ghosts W} → Whole W g → List linkstate.Element
whole_left {g = g} it = left g.BYTES it.base it.list.now it.at
