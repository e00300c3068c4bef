-- The mark and the size of a set, by its values. Equal sets share a mark, so that a mark can rule a set out; no rule of document 01 speaks of it.
use Rattle.std.specs.Prelude.{cond, List, [], ◌∷◌, ℕ, suc, ◌+◌, ◌*◌, ◌/◌, ◌%◌, length}
use Rattle.linkstate.specs.Lists.{empty}
use Rattle.linkstate.specs.Bytes.{words}

-- The numbers of a value, mixed.
unfoldable pub mixed : ℕ → List ℕ → ℕ
mixed h [] = h
mixed h (w ∷ ws) = mixed (h % 4294967296 * 37 + w) ws

-- The mark of a value of kind k, from its numbers mixed.
unfoldable pub spread : ℕ → ℕ → ℕ
spread k h = (h % 4294967296 + k) * 2654435769 / 65536 % 4294967296

unfoldable pub value_mark : ℕ → List ℕ → ℕ
value_mark k v = cond (empty v) 0 (spread k (mixed 0 (words v)))

-- L1. How many bytes the TLV of a value has, none where it is absent.
unfoldable pub value_size : ℕ → List ℕ → ℕ
value_size k v = cond (empty v) 0 (4 + length v)

-- What f says of the values of the kinds from k on, together.
unfoldable pub total : (ℕ → List ℕ → ℕ) → ℕ → List (List ℕ) → ℕ
total f k [] = 0
total f k (v ∷ vs) = f k v + total f (suc k) vs

unfoldable pub set_mark : List (List ℕ) → ℕ
set_mark vs = total value_mark 0 vs % 4294967296

unfoldable pub set_size : List (List ℕ) → ℕ
set_size vs = total value_size 0 vs
