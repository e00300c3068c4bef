-- When the tables that an export is written from are those of a meaning.
use Rattle.std.specs.Prelude.{◌≡◌, true, List, [], map, ℕ, ◌<◌, length, get_or}
use Rattle.linkstate.specs.Kinds.{codes}
use Rattle.linkstate.specs.Meaning.{Meaning, row}
use Rattle.linkstate.specs.Export.{top_value}
use Rattle.set_groups.specs.Groups.{groups_below}
use Rattle.set_groups.specs.Table.{word, slot_in, class_in, table_groups}
use Rattle.export_bytes.specs.Whole.{slot_set, top_set}

-- Bandwidths and RSVP-TE's set (slot s, class c), the general set (entry 0, with no member), and the groups of all named applications.
pub record Describes (m : Meaning) (run : List ℕ) (sets : List (List ℕ)) (srlgs : ℕ → List ℕ) (groups : List (List ℕ)) (s c : ℕ) : Type 0 where
  pub top : map (top_set run sets srlgs s c) codes ≡ map (top_value m) codes
  pub general : row (slot_set run sets srlgs (slot_in (word groups 0)) (class_in (word groups 0))) ≡ row m.general
  pub nobody : (get_or (get_or groups 0 []) 0 0 ≡ 0) × (get_or (get_or groups 0 []) 1 0 ≡ 0)
  pub low : (n : ℕ) → m.named n ≡ true → n < 96
  pub members : table_groups run sets srlgs groups (length groups) ≡ groups_below m 128
