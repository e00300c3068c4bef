-- What is left of a list at a place, and that no element is cut off.
use Rattle.std.specs.Prelude.{◌≡◌, Bool, true, false, List, [], ◌∷◌, ℕ, ◌+◌, drop}
use Rattle.linkstate.specs.Elements.{Element, element, cut, elements}

-- Of a list whose first byte is at the offset `base` of its run, where a type and a length have w bytes each.
abbrev pub left : ℕ → ℕ → List ℕ → ℕ → List Element
left w base s at = elements w (base + at) (drop at s)

abbrev pub uncut : List Element → Bool
uncut [] = true
uncut (element at t v ∷ es) = uncut es
uncut (cut at ∷ es) = false

abbrev pub Uncut : List Element → Type 0
Uncut es = uncut es ≡ true
