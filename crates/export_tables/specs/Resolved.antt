-- When a table of sets and the SRLGs of a side are those of a meaning, and what an export from them asks for. No protocol is known here.
use Rattle.std.specs.Prelude.{◌≡◌, Bool, true, List, map, ℕ, ◌+◌, ◌*◌, ◌≤◌, ◌<◌, length, get_or, take}
use Rattle.linkstate.specs.Limits.{most_numbers}
use Rattle.linkstate.specs.Kinds.{codes}
use Rattle.linkstate.specs.Attributes.{srlgs}
use Rattle.linkstate.specs.Sides.{Side, general_set, application_set, rsvp_te_kind}
use Rattle.linkstate.specs.Replies.{Exported}
use Rattle.linkstate.specs.Meaning.{Meaning, row}
use Rattle.linkstate.specs.Export.{top_value, export}
use Rattle.rules.specs.declared.Names.{Names}
use Rattle.rules.specs.declared.SideNames.{SideNames}
use Rattle.rules.specs.Names.{TellsSide}
use Rattle.masks.specs.Applications.{in_set}
use Rattle.srlg_table.specs.declared.Used.{Used}
use Rattle.srlg_classes.specs.Owned.{class_at, Roomy}
use Rattle.srlg_classes.specs.Sided.{Sourced}
use Rattle.grids.specs.Grids.{set_of, top_of}
use Rattle.grids.specs.Slots.{slot_grid, link_rows, IsSet, Slots, slot_of}
use Rattle.set_groups.specs.Table.{left, Named}
use Rattle.set_bytes.specs.Standing.{numbers_in}
use Rattle.export_bytes.specs.Whole.{Tables, Entered, answered}
use Rattle.export_bytes.specs.Describes.{Describes}
use Rattle.export_tables.specs.declared.Plan.{Plan}
use Rattle.export_tables.specs.declared.Parts.{Parts}

-- W1 to W13. The applications that pass a test are those that the meaning names, with the sets of their slots and of the side's SRLGs; so is the general set,
-- of slot 0, and RSVP-TE's, of slot s, with the link's bandwidths of slot 2.
pub record Resolves (m : Meaning) (run : List ℕ) (sets own : List (List ℕ)) (p : ℕ → Bool) (s : ℕ) (side : Side) : Type 0 where
  pub only : (n : ℕ) → m.named n ≡ true → (1 ≤ n) × (n < 96)
  pub named : (n : ℕ) → 1 ≤ n → n < 128 → m.named n ≡ p n
  pub set : (n : ℕ) → Named p n → row (set_of run (slot_grid sets (slot_of own n)) (srlgs (application_set n side))) ≡ row (m.set n)
  pub general : row (set_of run (slot_grid sets 0) (srlgs (general_set side))) ≡ row m.general
  pub top : map (top_of run (link_rows sets) (slot_grid sets s) (srlgs (rsvp_te_kind 1096 side))) codes ≡ map (top_value m) codes

-- A table of sets, with a slot for RSVP-TE's and one, by `own`, for each application that passes a test. No class is given yet.
pub record Slotted (run : List ℕ) (sets own : List (List ℕ)) (p : ℕ → Bool) (s : ℕ) : Type 0 where
  pub slots : Slots run sets
  pub link : 2 < length sets
  pub top : IsSet sets s
  pub slot : (n : ℕ) → Named p n → IsSet sets (slot_of own n) × (slot_of own n < 256)
  pub size : length own ≡ 128
  pub unclassed : (a : ℕ) → a < 128 → class_at own a ≡ 0

-- Numbers of 32 bits and rows of sources, as many as are used, that tell the SRLGs of a side with these names, and with a legacy value of the eleven kinds or without.
pub record Listed (values : List ℕ) (rows : List (List ℕ)) (used : Used) (m : SideNames) (side : Side) : Type 0 where
  pub most : length values ≤ most_numbers
  pub small : (i : ℕ) → get_or values i 0 < 4294967296
  pub words : length values ≤ 64 * used.words
  pub sourced : Sourced values rows used.sources side
  pub tells : TellsSide side m

-- Room for the classes of all subjects, for where these are written, and for a group of each application that passes a test.
pub record Room (rows : List (List ℕ)) (used : Used) (named : Names) (own : List (List ℕ)) (p : ℕ → Bool) (classes groups : List (List ℕ))
    (places : List ℕ) : Type 0 where
  pub some : 0 < length classes
  pub few : length classes ≤ 99
  pub roomy : 0 < used.words → Roomy rows used named classes own
  pub grouped : 1 + left p 1 ≤ length groups
  pub placed : length classes ≤ length places
  pub unwritten : (c : ℕ) → get_or places c 0 ≡ 0

-- The applications of a plan.
abbrev pub asked : Plan → ℕ → Bool
asked n = in_set n.who

-- What an export asks for: slots, room, and numbers and rows that tell the SRLGs of some side.
pub record Ready (run : List ℕ) (n : Plan) (rows : List (List ℕ)) (values : List ℕ) (sets own classes groups : List (List ℕ)) (places : List ℕ) : Type 0 where
  pub slotted : Slotted run sets own (asked n) n.slot
  pub room : Room rows n.used n.side.names own (asked n) classes groups places
  pub listed : (side : Side) × Listed values rows n.used n.side side

-- It answers for every meaning that the table of sets and such a side resolve.
abbrev pub AnswersAll : List ℕ → Plan → List (List ℕ) → List ℕ → List (List ℕ) → List (List ℕ) → List ℕ → Exported → Type 0
AnswersAll run n rows values sets own buffer x =
    (m : Meaning) (side : Side) → Listed values rows n.used n.side side → Resolves m run sets own (asked n) n.slot side
    → x ≡ answered n.measuring (export m) buffer

-- Tables of which so many classes and groups are filled, and an export can be written from these. Nothing is written yet.
pub record Filled (run : List ℕ) (t : Parts) (rows : List (List ℕ)) (values : List ℕ) (sets classes groups : List (List ℕ)) (places : List ℕ) : Type 0 where
  pub room : (t.classes ≤ length classes) × (t.groups ≤ length groups)
  pub tables : Tables run sets values rows (take t.classes classes)
  pub entered : Entered sets (take t.classes classes) (take t.groups groups)
  pub top : IsSet sets t.slot × (t.class < t.classes)
  pub placed : t.classes ≤ length places
  pub unwritten : (c : ℕ) → get_or places c 0 ≡ 0

-- It answers for every meaning that they describe.
abbrev pub AnswersDescribed : List ℕ → Parts → List (List ℕ) → List ℕ → List (List ℕ) → List (List ℕ) → List (List ℕ) → List ℕ → Exported → Type 0
AnswersDescribed run t rows values sets classes groups buffer x =
    (m : Meaning) → Describes m run sets (numbers_in values rows (take t.classes classes)) (take t.groups groups) t.slot t.class
    → x ≡ answered t.measuring (export m) buffer
