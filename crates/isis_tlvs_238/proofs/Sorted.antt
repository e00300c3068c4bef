-- Numbers at the front of a list, sorted where they stand.
use mathlib.Core.Path.{◌≡◌, ap, ◌∙◌}
use mathlib.Core.List.{List}
use Prim.Native.Nat.{ℕ}
use native.Mathlib.Omega.{arith}
use lib.ListN.{take}
use Rattle.linkstate.specs.Lists.{put}
use Rattle.linkstate.specs.Bytes.{distinct}
use Rattle.linkstate.specs.Attributes.{Attribute, srlgs}
use Rattle.octets.proofs.Laws.{front-is}
use Rattle.isis_tlvs_238.specs.Selected.{srlg_words}
use Rattle.isis_tlvs_238.specs.Runs.{Fronts}

-- What stands at the front.
module _ (before after : List ℕ) (k : ℕ) (ts : List Attribute) (f : Fronts before after k (srlg_words ts)) where
  pub fronted : take k after ≡ srlg_words ts
  fronted =
      ap (take k) f.list ∙ ap (λ (i : ℕ). take i (put before 0 (srlg_words ts))) f.count ∙ front-is before (srlg_words ts) (omega (arith, f.count, f.room))

  pub sorted_front : (l : List ℕ) → l ≡ distinct (take k after) → l ≡ srlgs ts
  unfolding srlgs srlg_words
  sorted_front l e = e ∙ ap distinct fronted
