-- What the walk of an accepted run A leaves for the export: the table of sets, and the slot of every subject (rules W2 to W13).
use Rattle.std.specs.Prelude.{◌≡◌, List, [], map, ℕ, ◌<◌, length, get_or}
use Rattle.linkstate.specs.Kinds.{link_codes}
use Rattle.linkstate.specs.Attributes.{Attribute, value_of}
use Rattle.linkstate.specs.Sides.{general_set, application_set, rsvp_te_kind, bandwidth_kind}
use Rattle.kinds.specs.Rules.{grid_codes}
use Rattle.grids.specs.Grids.{bandwidth_of}
use Rattle.grids.specs.Slots.{link_rows, slot_values, IsSet, Slots, slot_of}
use Rattle.set_table.specs.Tables.{Owned}
use Rattle.isis.specs.RunA.{side_a}

-- W7. A slot that stands for a set: its values are the first ones of attributes, given by code.
pub record Holds (run : List ℕ) (sets : List (List ℕ)) (s : ℕ) (f : ℕ → List Attribute) : Type 0 where
  pub stands : IsSet sets s
  pub values : slot_values run sets s ≡ map (λ c. value_of c (f c)) grid_codes

-- W2 to W13. Slots of applications by `own`, whether they are named or not; slot 0 the general set, slot r RSVP-TE's, slot 2 the link's bandwidths. No class is
-- given yet.
pub record Indexed (a : List ℕ) (sets own : List (List ℕ)) (r : ℕ) : Type 0 where
  pub slots : Slots a sets
  pub owned : Owned own
  pub few : (n : ℕ) → n < 128 → slot_of own n < 256
  pub unclassed : (p : ℕ) → p < 128 → get_or (get_or own p []) 1 0 ≡ 0
  pub application : (n : ℕ) → 0 < n → n < 128 → Holds a sets (slot_of own n) (λ c. application_set n (side_a a))
  pub general : Holds a sets 0 (λ c. general_set (side_a a))
  pub rsvp_te : Holds a sets r (λ c. rsvp_te_kind c (side_a a))
  pub link : (2 < length sets) × (map (bandwidth_of a (link_rows sets)) link_codes ≡ map (λ c. value_of c (bandwidth_kind c (side_a a))) link_codes)
