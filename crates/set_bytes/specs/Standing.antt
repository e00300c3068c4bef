-- The SRLG TLV of a class of a link's SRLGs, and where the numbers of classes stand once they are written (rules L2, L8).
use Rattle.std.specs.Prelude.{◌≡◌, Option, Some, None, cond, List, [], ◌∷◌, ℕ, ◌+◌, ◌*◌, ◌≤◌, ◌<◌, eqb, length, get_or}
use Rattle.linkstate.specs.Limits.{most_numbers}
use Rattle.linkstate.specs.Bytes.{bytes_at, bytes_of_words}
use Rattle.tlv_bytes.specs.Tlvs.{in_tlvs, Wrote}
use Rattle.srlg_sources.specs.Classes.{class_numbers, Class}

-- The TLV of SRLGs, none where there are none; how many bytes that of n numbers has.
abbrev pub srlg_tlv : List ℕ → List ℕ
srlg_tlv ns = in_tlvs (λ _. bytes_of_words ns) (1096 ∷ [])

unfoldable pub srlg_size : ℕ → ℕ
srlg_size n = cond (eqb n 0) 0 (4 + 4 * n)

-- How many numbers class c of a table has, and which.
abbrev pub count_in : List (List ℕ) → ℕ → ℕ
count_in classes c = get_or (get_or classes c []) 2 0

abbrev pub numbers_in : List ℕ → List (List ℕ) → List (List ℕ) → ℕ → List ℕ
numbers_in values rows classes c = class_numbers values rows (get_or classes c [])

-- A count as the code takes it.
abbrev pub count_read : ℕ → Option ℕ
count_read n = cond (eqb n 0) None (Some n)

-- A table of classes, as long as it has classes, over numbers of 32 bits.
pub record Classes (values : List ℕ) (rows classes : List (List ℕ)) : Type 0 where
  pub class : (c : ℕ) → c < length classes → Class values rows (get_or classes c [])
  pub most : length values ≤ most_numbers
  pub small : (i : ℕ) → get_or values i 0 < 4294967296

-- Where a class has a place in a buffer, its numbers stand there, before `at`; 0 is no place.
pub record Standing (numbers : ℕ → List ℕ) (places buffer : List ℕ) (at : ℕ) : Type 0 where
  pub stands : (c : ℕ) → (get_or places c 0 ≡ 0 → ⊥)
      → (get_or places c 0 + 4 * length (numbers c) ≤ at) × (bytes_at buffer (get_or places c 0) (4 * length (numbers c)) ≡ bytes_of_words (numbers c))

-- Bytes written at a place of a buffer, and where the numbers of classes stand then.
abbrev pub Written : (ℕ → List ℕ) → List ℕ → ℕ → List ℕ → ℕ → List ℕ → List ℕ → Type 0
Written numbers buffer at vs next places after = Wrote buffer at vs next after × Standing numbers places after next
