-- The bytes of an export, by the tables that it is written from (rules L2, L3), and what it answers.
use Rattle.std.specs.Prelude.{Bool, cond, List, [], ◌++◌, ℕ, ◌-◌, ◌≤◌, ◌<◌, length, get_or}
use Rattle.linkstate.specs.Lists.{numbers, each}
use Rattle.linkstate.specs.Replies.{accepted, bytes, Exported}
use Rattle.linkstate.specs.Questions.{write}
use Rattle.linkstate.specs.Export.{tlv, bytes_of, asla_value}
use Rattle.masks.specs.Applications.{in_set}
use Rattle.tlv_bytes.specs.Tlvs.{in_tlvs}
use Rattle.set_bytes.specs.Standing.{numbers_in, Classes, Standing}
use Rattle.grids.specs.Grids.{set_of, top_of}
use Rattle.grids.specs.Slots.{slot_grid, link_rows, IsSet, Slots}
use Rattle.set_bytes.specs.Sets.{low_codes, high_codes}
use Rattle.set_groups.specs.Table.{word, slot_in, class_in}
use Rattle.export_bytes.specs.declared.Asla.{Asla}
use Rattle.export_bytes.specs.Sizes.{asla_of}

-- The set of a slot and a class.
abbrev pub slot_set : List ℕ → List (List ℕ) → (ℕ → List ℕ) → ℕ → ℕ → ℕ → List ℕ
slot_set run sets srlgs s c = set_of run (slot_grid sets s) (srlgs c)

-- L3 to L6. An ASLA TLV; those of entries from one on.
unfoldable pub asla_tlv : List ℕ → List (List ℕ) → (ℕ → List ℕ) → Asla → List ℕ
asla_tlv run sets srlgs e = bytes_of (tlv 1122 (asla_value (in_set e.members) (slot_set run sets srlgs e.slot e.class)))

abbrev pub entry_tlv : List ℕ → List (List ℕ) → (ℕ → List ℕ) → List (List ℕ) → ℕ → List ℕ
entry_tlv run sets srlgs groups i = asla_tlv run sets srlgs (asla_of (get_or groups i []))

abbrev pub asla_tlvs : List ℕ → List (List ℕ) → (ℕ → List ℕ) → List (List ℕ) → ℕ → ℕ → List ℕ
asla_tlvs run sets srlgs groups from n = each (entry_tlv run sets srlgs groups) (numbers from n)

-- L2. What stands at the top: the link's bandwidths, and RSVP-TE's set by slot and class.
abbrev pub top_set : List ℕ → List (List ℕ) → (ℕ → List ℕ) → ℕ → ℕ → ℕ → List ℕ
top_set run sets srlgs s c = top_of run (link_rows sets) (slot_grid sets s) (srlgs c)

-- All of it, ascending by type, with the ASLA TLVs from an entry on.
unfoldable pub whole_bytes : List ℕ → List (List ℕ) → (ℕ → List ℕ) → List (List ℕ) → ℕ → ℕ → ℕ → List ℕ
whole_bytes run sets srlgs groups from s c =
    in_tlvs (top_set run sets srlgs s c) low_codes ++ asla_tlvs run sets srlgs groups from (length groups - from) ++ in_tlvs (top_set run sets srlgs s c) high_codes

-- Tables of sets and of SRLGs that an export can be written from.
pub record Tables (run : List ℕ) (sets : List (List ℕ)) (values : List ℕ) (rows classes : List (List ℕ)) : Type 0 where
  pub slots : Slots run sets
  pub link : 2 < length sets
  pub known : Classes values rows classes

-- Groups whose entries, from 0 on, have slots and classes of these tables.
pub record Entered (sets classes groups : List (List ℕ)) : Type 0 where
  pub some : 1 ≤ length groups
  pub most : length groups ≤ 128
  pub slot : (i : ℕ) → i < length groups → IsSet sets (slot_in (word groups i))
  pub class : (i : ℕ) → i < length groups → class_in (word groups i) < length classes

-- A place of a buffer up to which such tables are written: the classes that were written stand before it.
pub record Open (run : List ℕ) (sets : List (List ℕ)) (values : List ℕ) (rows classes : List (List ℕ)) (places buffer : List ℕ) (at : ℕ) : Type 0 where
  pub tables : Tables run sets values rows classes
  pub placed : length classes ≤ length places
  pub standing : Standing (numbers_in values rows classes) places buffer at

-- K5, R5. What an export answers: the length alone, with nothing written; or the third service, of a link that was accepted.
unfoldable pub answered : Bool → List ℕ → List ℕ → Exported
answered measuring result buffer = cond measuring (record { reply = bytes (length result); buffer = buffer }) (write accepted result buffer)
