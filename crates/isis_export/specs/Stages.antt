-- What is known of a link at the stages of its export: once its checks have passed, once its SRLGs are listed, and what the tables have room for.
use Rattle.std.specs.Prelude.{◌≡◌, Bool, ◌||◌, List, ℕ, ◌+◌, ◌≤◌, ◌<◌, length, get_or, replicate}
use Rattle.linkstate.specs.Limits.{most_sources}
use Rattle.linkstate.specs.Replies.{accepted, run_a, run_b, Exported}
use Rattle.linkstate.specs.Elements.{elements, faults}
use Rattle.rules.specs.declared.SideNames.{SideNames}
use Rattle.rules.specs.Names.{TellsSide}
use Rattle.masks.specs.Applications.{in_set}
use Rattle.srlg_classes.specs.Owned.{most_blocks}
use Rattle.srlg_table.specs.declared.Used.{Used}
use Rattle.set_table.specs.Tables.{how_many}
use Rattle.set_groups.specs.Table.{left}
use Rattle.export_tables.specs.Resolved.{Listed}
use Rattle.isis.specs.RunA.{check_a, side_a}
use Rattle.isis.specs.RunB.{check_b, side_b}
use Rattle.isis_check.specs.declared.Sides.{Sides}
use Rattle.isis_export.specs.declared.Link.{Link}
use Rattle.isis_export.specs.Answers.{accepted_link}

-- R9, W2, W3, E2a. A run A that passed its checks, and what the rule asks of its side.
pub record PassedA (a : List ℕ) (m : SideNames) : Type 0 where
  pub passed : faults run_a check_a (elements 1 0 a) ≡ accepted
  pub short : length a ≤ 2048
  pub tells : TellsSide (side_a a) m

-- The same of a link.
pub record Passed (a b c : List ℕ) (s : Sides) : Type 0 where
  pub side_a : PassedA a s.a
  pub run_b : faults run_b check_b (elements 1 0 b) ≡ accepted
  pub short : (length b ≤ 2048) × (length c ≤ 1024)
  pub tells : TellsSide (side_b b c) s.b

-- W1, L19. What an export goes by: what its sides tell, and whom either names.
pub record Joined (s : Sides) (used : Used) (measuring : Bool) (n : Link) : Type 0 where
  pub of : (n.a ≡ s.a) × (n.b ≡ s.b) × (n.used ≡ used) × (n.measuring ≡ measuring)
  pub both : (i : ℕ) → in_set n.who i ≡ in_set n.a.names.named i || in_set n.b.names.named i

-- How much of the sources of SRLGs is used: rows of 16 words of bits, two sources at least.
pub record InUse (rows : List (List ℕ)) (used : Used) : Type 0 where
  pub words : used.words ≤ 16
  pub sources : (2 ≤ used.sources) × (used.sources ≤ most_sources) × (used.sources ≤ length rows)

-- Run A of such a link, with the SRLGs of its side B listed.
pub record Ready (a b c : List ℕ) (n : Link) (rows : List (List ℕ)) (values : List ℕ) : Type 0 where
  pub passed : PassedA a n.a
  pub joined : (i : ℕ) → in_set n.who i ≡ in_set n.a.names.named i || in_set n.b.names.named i
  pub listed : Listed values rows n.used n.b (side_b b c)
  pub used : 0 < n.used.words → InUse rows n.used

-- It is so of some runs B and C; and of all such the answer is theirs.
abbrev pub ReadyFor : List ℕ → Link → List (List ℕ) → List ℕ → Type 0
ReadyFor a n rows values = (b : List ℕ) × (c : List ℕ) × Ready a b c n rows values

abbrev pub AnswersAll : List ℕ → Link → List (List ℕ) → List ℕ → List ℕ → Exported → Type 0
AnswersAll a n rows values buffer x = (b c : List ℕ) → Ready a b c n rows values → x ≡ accepted_link n.measuring a b c buffer

-- A table of slot and class in which no place has one yet.
pub record Unowned (own : List (List ℕ)) : Type 0 where
  pub is : own ≡ replicate 128 (replicate 2 0)

-- So many slots, classes and groups are enough for all whom the sides name, or either: slots from 3 on, three classes more, and an entry before the groups.
pub record Enough (n : Link) (slots classes groups : ℕ) : Type 0 where
  pub slotted : (3 + how_many (in_set n.a.names.named) 128 ≤ slots) × (slots ≤ 256)
  pub classed : (3 + most_blocks n.b.names ≤ classes) × (classes ≤ 99)
  pub grouped : 1 + left (in_set n.who) 1 ≤ groups

-- Tables with that much room, and where classes are written. Nothing is written yet.
pub record Roomy (n : Link) (sets classes groups : List (List ℕ)) (places : List ℕ) : Type 0 where
  pub enough : Enough n (length sets) (length classes) (length groups)
  pub placed : length classes ≤ length places
  pub unwritten : (c : ℕ) → get_or places c 0 ≡ 0
