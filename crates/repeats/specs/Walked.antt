-- The types that stood in a list before an element of it, and the bits that remember them.
use Rattle.std.specs.Prelude.{◌≡◌, true, List, [], ◌∷◌, ℕ, ◌+◌, ◌%◌, ◌≤◌, length, drop}
use Rattle.linkstate.specs.Lists.{member}
use Rattle.linkstate.specs.Masks.{in_number}
use Rattle.linkstate.specs.Elements.{type_of, length_of}

-- From a place of s on stand whole elements of these types, and the last of them ends at `end`. A type and a length have w bytes each.
abbrev pub Walked : ℕ → List ℕ → ℕ → ℕ → List ℕ → Type 0
Walked w s end at [] = at ≡ end
Walked w s end at (t ∷ ts) = (type_of w (drop at s) ≡ t) × (at + (w + w) + length_of w (drop at s) ≤ length s) × Walked w s end (at + (w + w) + length_of w (drop at s)) ts

-- The bit of each of these types is set, which is that of its last six.
abbrev pub Remembers : ℕ → List ℕ → Type 0
Remembers bits ts = (t : ℕ) → member t ts ≡ true → in_number bits (t % 64) ≡ true
