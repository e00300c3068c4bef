-- What an accepted run A gives to the table of its sets: the cells, the attributes that come to each, and the slots when the run has been walked.
use Rattle.std.specs.Prelude.{◌≡◌, Bool, true, false, cond, ◌&&◌, List, [], ◌∷◌, ℕ, ◌+◌, ◌-◌, ◌≤◌, ◌<◌, eqb, leb, length, take, drop, get_or, Option, Some, None}
use Rattle.linkstate.specs.Limits.{most_bytes}
use Rattle.linkstate.specs.Lists.{any, each}
use Rattle.linkstate.specs.Bytes.{bytes_at}
use Rattle.linkstate.specs.Replies.{accepted, run_a}
use Rattle.linkstate.specs.Elements.{Element, element, elements, faults}
use Rattle.linkstate.specs.Kinds.{link_codes}
use Rattle.linkstate.specs.Attributes.{Attribute}
use Rattle.linkstate.specs.Sides.{Advertisement, names}
use Rattle.masks.specs.Sets.{turned_place}
use Rattle.kinds.specs.Rules.{grid_codes}
use Rattle.grids.specs.Slots.{cell}
use Rattle.set_table.specs.Tables.{cell_of, first, Table, slot_at, Slotted, Having, empty_row}
use Rattle.masks.specs.declared.Applications.{Applications}
use Rattle.masks.specs.Applications.{at_place}
use Rattle.isis.specs.Types.{wrong_in_a, code_of_type}
use Rattle.isis.specs.RunA.{check_attribute, check_a, attributes_of, asla_advertisements}
use Rattle.isis_grids.specs.declared.Which.{Which}
use Rattle.isis_grids.specs.declared.Which.TheVariants.{Naming, General, RsvpTeAlone, WithoutL}
use Rattle.isis_grids.specs.Selected.{selected}
use Rattle.isis_index.specs.declared.Asla.{Asla}
use Rattle.isis_index.specs.declared.Asla.TheVariants.{ForAll, ForNamed}

-- W5. The cell of a code's first value among attributes; 0 where it is absent.
unfoldable pub cell_in : ℕ → List Attribute → ℕ
cell_in c [] = 0
cell_in c (t ∷ ts) = first (cond (eqb c t.code) (cell_of t.at t.len) 0) (cell_in c ts)

-- W1. Where attributes come from: legacy, or the live advertisements without L that pass a test; and what an element of run A gives.
pub data Source : Type 0 where
  legacy : Source
  live : Which → Source

unfoldable pub takes : Source → Element → List Attribute
takes legacy e = attributes_of e
takes (live w) e = selected w e

-- The cells that are filled: of the general set and of legacy; of the link's bandwidths from legacy, from any advertisement without L, and from those for
-- RSVP-TE alone;
-- and of an application's own set.
pub data Spot : Type 0 where
  general : (k : ℕ) → Spot
  old : (k : ℕ) → Spot
  bandwidth : (k : ℕ) → Spot
  maximum : Spot
  alone : (k : ℕ) → Spot
  own : (n k : ℕ) → Spot

abbrev pub source_of : Spot → Source
source_of (general k) = live General
source_of (old k) = legacy
source_of (bandwidth k) = legacy
source_of maximum = live WithoutL
source_of (alone k) = live RsvpTeAlone
source_of (own n k) = live (Naming n)

abbrev pub slot_in : List (List ℕ) → Spot → ℕ
slot_in owns (general k) = 0
slot_in owns (old k) = 1
slot_in owns (bandwidth k) = 2
slot_in owns maximum = 2
slot_in owns (alone k) = 2
slot_in owns (own n k) = slot_at owns (turned_place n)

abbrev pub cell_at : Spot → ℕ
cell_at (general k) = k
cell_at (old k) = k
cell_at (bandwidth k) = k
cell_at maximum = 3
cell_at (alone k) = 4 + k
cell_at (own n k) = k

abbrev pub code_of : Spot → ℕ
code_of (general k) = get_or grid_codes k 0
code_of (old k) = get_or grid_codes k 0
code_of (bandwidth k) = get_or link_codes k 0
code_of maximum = 1089
code_of (alone k) = get_or link_codes (1 + k) 0
code_of (own n k) = get_or grid_codes k 0

-- The places that have a slot of their own.
abbrev pub owning : List (List ℕ) → ℕ → Bool
owning owns p = leb 3 (slot_at owns p)

abbrev pub Valid : List (List ℕ) → Spot → Type 0
Valid owns (general k) = k < 10
Valid owns (old k) = k < 10
Valid owns (bandwidth k) = k < 3
Valid owns maximum = Unit {0}
Valid owns (alone k) = k < 2
Valid owns (own n k) = (n < 128) × (owning owns (turned_place n) ≡ true) × (k < 10)

-- The table has the first three slots, and one for each place that has its own.
pub record Ground (owns table : List (List ℕ)) : Type 0 where
  pub three : 3 ≤ length table
  pub slotted : Slotted table owns (owning owns)

-- What a table has become where attributes came to its cells, by their source.
pub record Adds (owns table after : List (List ℕ)) (new : Source → List Attribute) : Type 0 where
  pub same : length after ≡ length table
  pub cells : (x : Spot) → Valid owns x
      → cell after (slot_in owns x) (cell_at x) ≡ first (cell table (slot_in owns x) (cell_at x)) (cell_in (code_of x) (new (source_of x)))

-- The slots of applications are as they were.
pub record Kept (table after : List (List ℕ)) : Type 0 where
  pub same : length after ≡ length table
  pub above : (s k : ℕ) → 3 ≤ s → s < length table → k < 10 → cell after s k ≡ cell table s k

-- R4. A value of a type in run A, of a right length.
pub record Right (run : List ℕ) (t place n : ℕ) : Type 0 where
  pub within : place + n ≤ length run
  pub low : place < 65536
  pub short : n ≤ most_bytes
  pub right : wrong_in_a t n ≡ false

-- Who hears the list of an advertisement without L: that of a general one, and that of one with masks, which are not both empty. RSVP-TE alone is bit 7 of
-- the standard mask.
unfoldable pub heard_by_all : Source → Bool
heard_by_all legacy = false
heard_by_all (live (Naming n)) = false
heard_by_all (live General) = true
heard_by_all (live RsvpTeAlone) = false
heard_by_all (live WithoutL) = true

unfoldable pub heard : Applications → Source → Bool
heard who legacy = false
heard who (live (Naming n)) = at_place who (turned_place n)
heard who (live General) = false
heard who (live RsvpTeAlone) = eqb who.standard 128 && eqb who.user 0
heard who (live WithoutL) = true

-- Legacy's own.
unfoldable pub from_legacy : Source → Bool
from_legacy legacy = true
from_legacy (live w) = false

-- Attributes for those who hear them.
abbrev pub told : (Source → Bool) → List Attribute → Source → List Attribute
told h ts src = cond (h src) ts []

-- The attribute of a type's value.
abbrev pub attribute_at : ℕ → ℕ → ℕ → List ℕ → Attribute
attribute_at t place n v = record { code = code_of_type t; at = place; len = n; value = v }

-- What a table has become where attributes that some hear came to its first three slots.
pub record Took (run : List ℕ) (table after : List (List ℕ)) (h : Source → Bool) (ts : List Attribute) : Type 0 where
  pub holds : Table run after
  pub kept : Kept table after
  pub adds : (owns : List (List ℕ)) → Ground owns table → Adds owns table after (told h ts)

-- The same where they may come to every slot; and who has a value of a kind now.
pub record TookFor (run : List ℕ) (owns table have after had : List (List ℕ)) (h : Source → Bool) (ts : List Attribute) : Type 0 where
  pub holds : Table run after
  pub having : Having after owns had (owning owns)
  pub adds : Adds owns table after (told h ts)

-- What the lists of advertisements that name applications ask for.
pub record Ready (run : List ℕ) (owns table have : List (List ℕ)) : Type 0 where
  pub holds : Table run table
  pub grounded : Ground owns table
  pub having : Having table owns have (owning owns)

-- The part of a run between two places.
abbrev pub part_of : List ℕ → ℕ → ℕ → List ℕ
part_of a from end = take (end - from) (drop from a)

-- A4. An attribute list that stands in run A from one place to another, and has passed its checks.
pub record Listed (a : List ℕ) (from end : ℕ) : Type 0 where
  pub order : from ≤ end
  pub inside : end ≤ length a
  pub small : length a < 65536
  pub passed : faults run_a check_attribute (elements 1 from (part_of a from end)) ≡ accepted

-- W1. What the elements of run A give to a source.
abbrev pub in_run : List ℕ → Source → List Attribute
in_run a src = each (takes src) (elements 1 0 a)

-- The element at a position of run A, by its length byte.
abbrev pub here_in : List ℕ → ℕ → Element
here_in a at = element at (get_or a at 0) (bytes_at a (at + 2) (get_or a (at + 1) 0))

-- An element of run A that has passed its checks, from its position to its end.
pub record Here (a : List ℕ) (at end : ℕ) : Type 0 where
  pub ends : end ≡ at + 2 + get_or a (at + 1) 0
  pub inside : end ≤ length a
  pub small : length a < 65536
  pub passed : check_a at (get_or a at 0) (bytes_at a (at + 2) (get_or a (at + 1) 0)) ≡ accepted

-- Whoever these advertisements name has a slot of its own.
abbrev pub Owning : List (List ℕ) → List Advertisement → Type 0
Owning owns ds = (n : ℕ) → n < 128 → any (names n) ds ≡ true → owning owns (turned_place n) ≡ true

-- A2. The list of the ASLA at a position, from a place on, and who hears it.
pub record Told (a : List ℕ) (at end from : ℕ) (h : Source → Bool) : Type 0 where
  pub listed : Listed a from end
  pub gives : (w : Which) → selected w (here_in a at) ≡ told h (each attributes_of (elements 1 from (part_of a from end))) (live w)

-- A3, A7, A8. What the header of an ASLA says: nobody hears its list, all hear it, or those of a set do, whom it names.
abbrev pub ReadAs : List ℕ → ℕ → ℕ → Option Asla → Type 0
ReadAs a at end None = (w : Which) → selected w (here_in a at) ≡ []
ReadAs a at end (Some (ForAll from)) = Told a at end from heard_by_all
ReadAs a at end (Some (ForNamed from who)) = Told a at end from (heard who) × ((n : ℕ) → at_place who (turned_place n) ≡ any (names n) (asla_advertisements (here_in a at)))

-- What a table has become where attributes came to its cells, by their source; and who has a value of a kind now.
pub record Gains (run : List ℕ) (owns table after had : List (List ℕ)) (new : Source → List Attribute) : Type 0 where
  pub holds : Table run after
  pub having : Having after owns had (owning owns)
  pub adds : Adds owns table after new

-- All rows of a table are empty.
abbrev pub Empty : List (List ℕ) → Type 0
Empty table = (s : ℕ) → s < length table → get_or table s [] ≡ empty_row

-- W5. The table when run A has been walked: each cell has the first value of its source's attributes.
pub record Walked (a : List ℕ) (owns table : List (List ℕ)) : Type 0 where
  pub holds : Table a table
  pub cells : (x : Spot) → Valid owns x → cell table (slot_in owns x) (cell_at x) ≡ cell_in (code_of x) (in_run a (source_of x))
