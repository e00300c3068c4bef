-- What the meaning of every accepted link has, whatever its protocol: the theorems of demands 2 and 3 are about meanings like this.
use Rattle.std.specs.Prelude.{◌≡◌, true, false, List, ℕ, ◌≤◌, length}
use Rattle.linkstate.specs.Lists.{member, each, empty}
use Rattle.linkstate.specs.Limits.{most_in_set}
use Rattle.linkstate.specs.Bytes.{words, distinct, bytes_of_words}
use Rattle.linkstate.specs.Kinds.{codes, application_codes, wrong_at_top}
use Rattle.linkstate.specs.Masks.{others}
use Rattle.linkstate.specs.Meaning.{Meaning}
use Rattle.linkstate.specs.Export.{bytes_of, present, top_value}

-- The values of a set: each has a right length, SRLGs ascend without repeats, and together their TLVs are within `most_in_set`, so that every
-- length fits 16 bits and an export, of at most 129 such sets, is within the reader's 524,288.
pub record Values (ks : List ℕ) (f : ℕ → List ℕ) : Type 0 where
  pub right : (k : ℕ) → member k ks ≡ true → empty (f k) ≡ false → wrong_at_top k (length (f k)) ≡ false
  pub canonical : bytes_of_words (distinct (words (f 1096))) ≡ f 1096
  pub small : length (each bytes_of (present ks f)) ≤ most_in_set

-- Only applications other than RSVP-TE are named, and the bandwidths with the RSVP-TE set, the general set and each named set have such values.
pub record WellFormed (m : Meaning) : Type 0 where
  pub named_only : (a : ℕ) → m.named a ≡ true → member a others ≡ true
  pub top : Values codes (top_value m)
  pub general : Values application_codes m.general
  pub set : (a : ℕ) → m.named a ≡ true → Values application_codes (m.set a)
