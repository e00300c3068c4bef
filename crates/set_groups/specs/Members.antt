-- A group's entry with a member more, and the applications of two masks that were turned.
use Rattle.std.specs.Prelude.{◌||◌, List, [], ◌∷◌, ℕ, eqb, get_or}
use Rattle.linkstate.specs.Masks.{user, as_number, in_number}
use Rattle.masks.specs.Sets.{turned_place}

-- An entry with application n as a member more.
unfoldable pub with_member : List ℕ → ℕ → List ℕ
with_member h n = as_number (λ k. in_number (get_or h 0 0) k || eqb (turned_place k) n) ∷ as_number (λ k. in_number (get_or h 1 0) k || eqb (user (turned_place k)) n) ∷ get_or h 2 0 ∷ []
