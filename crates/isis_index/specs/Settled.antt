-- What is done with the table when run A has been walked: the link's bandwidths, and the slots of RSVP-TE and of those that are named with L.
use Rattle.std.specs.Prelude.{Bool, cond, ◌≡◌, List, [], ℕ, eqb, length, get_or, set}
use Rattle.rules.specs.declared.Names.{Names}
use Rattle.masks.specs.Applications.{in_set}
use Rattle.rules.specs.declared.Rule.{Rule}
use Rattle.rules.specs.declared.Rule.TheVariants.{ByL, Naming, General, Legacy, NamingFirst, AloneFirst, LegacyFirst}
use Rattle.rules.specs.Rules.{rsvp_te_rule}
use Rattle.grids.specs.Slots.{cell}
use Rattle.set_table.specs.Tables.{first, slot_at}
use Rattle.isis_index.specs.Index.{Walked}

-- W11. 1089 of legacy, else of any advertisement without L.
abbrev pub with_maximum : List ℕ → List ℕ
with_maximum row = set row 0 (first (get_or row 0 0) (get_or row 3 0))

-- W12. 1090 and 1091 of the advertisements for RSVP-TE alone, else of legacy; of legacy only where RSVP-TE is named with L.
abbrev pub settled : List ℕ → Bool → List ℕ
settled row l = cond l (with_maximum row) (set (set (with_maximum row) 1 (first (get_or row 4 0) (get_or row 1 0))) 2 (first (get_or row 5 0) (get_or row 2 0)))

-- The table when run A has been walked, and its link's row has been settled.
pub record Settled (a : List ℕ) (owns begun table : List (List ℕ)) (l : Bool) : Type 0 where
  pub walked : List (List ℕ)
  pub same : length walked ≡ length begun
  pub walk : Walked a owns walked
  pub settles : table ≡ set walked 2 (settled (get_or walked 2 []) l)

-- What comes to the cells of a slot from legacy's.
abbrev pub from_old : List (List ℕ) → ℕ → ℕ → ℕ → ℕ
from_old table s t k = cond (eqb t s) (cell table 1 k) 0

-- W8, W9, W10, E2a. The slot of RSVP-TE's set, by its rule: its own where those that name it come first, the general set's, else legacy's. Its own is at place 7.
abbrev pub slot_by : Rule → ℕ → ℕ
slot_by ByL s = 1
slot_by (Naming n) s = 1
slot_by General s = 0
slot_by Legacy s = 1
slot_by NamingFirst s = s
slot_by AloneFirst s = 1
slot_by LegacyFirst s = 1

-- W9. The slot that is filled up from legacy's: RSVP-TE's own where those that name it come first, else legacy's, which stays as it is.
abbrev pub filled_by : Rule → ℕ → ℕ
filled_by ByL s = 1
filled_by (Naming n) s = 1
filled_by General s = 1
filled_by Legacy s = 1
filled_by NamingFirst s = s
filled_by AloneFirst s = 1
filled_by LegacyFirst s = 1

-- RSVP-TE's rule, by four masks and by whether legacy has a value.
abbrev pub rule_by : Names → Bool → Rule
rule_by named x = rsvp_te_rule (in_set named.flagged 0) (in_set named.named 0) x

abbrev pub rsvp_te_slot : Names → Bool → List (List ℕ) → ℕ
rsvp_te_slot named x owns = slot_by (rule_by named x) (slot_at owns 7)

abbrev pub filled_slot : Names → Bool → List (List ℕ) → ℕ
filled_slot named x owns = filled_by (rule_by named x) (slot_at owns 7)
