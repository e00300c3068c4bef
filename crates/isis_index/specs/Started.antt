-- The tables that the walk of run A starts from: a slot for each application that the run names.
use Rattle.std.specs.Prelude.{◌≡◌, true, false, List, [], ℕ, ◌≤◌, ◌<◌, length, get_or}
use Rattle.masks.specs.Sets.{turned_place}
use Rattle.rules.specs.declared.Names.{Names}
use Rattle.masks.specs.Applications.{in_set}
use Rattle.set_table.specs.Tables.{slot_at, Owned}
use Rattle.isis_index.specs.Index.{Empty}

-- Who is named has a slot from 3 on, each another, and every such slot is somebody's; the others have slot 0, the general set. All rows are empty, and no class
-- is given.
pub record Started (named : Names) (sets own : List (List ℕ)) : Type 0 where
  pub owned : Owned own
  pub three : 3 ≤ length sets
  pub most : length sets ≤ 256
  pub rows : Empty sets
  pub slots : (n : ℕ) → n < 128 → in_set named.named n ≡ true
      → (3 ≤ slot_at own (turned_place n)) × (slot_at own (turned_place n) < length sets)
  pub apart : (i j : ℕ) → i < 128 → j < 128 → in_set named.named i ≡ true → in_set named.named j ≡ true
      → slot_at own (turned_place i) ≡ slot_at own (turned_place j) → i ≡ j
  pub others : (n : ℕ) → n < 128 → in_set named.named n ≡ false → slot_at own (turned_place n) ≡ 0
  pub taken : (s : ℕ) → 3 ≤ s → s < length sets → (n : ℕ) × (n < 128) × (in_set named.named n ≡ true) × (slot_at own (turned_place n) ≡ s)
  pub unclassed : (p : ℕ) → p < 128 → get_or (get_or own p []) 1 0 ≡ 0
