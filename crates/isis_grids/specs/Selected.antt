-- Which advertisements a grid is filled from, and where their attribute lists begin.
use Rattle.std.specs.Prelude.{◌≡◌, Bool, true, false, cond, not, List, [], ℕ, ◌≤◌, length, Option, Some, None}
use Rattle.linkstate.specs.Lists.{keep, each}
use Rattle.linkstate.specs.Elements.{Element}
use Rattle.linkstate.specs.Attributes.{Attribute}
use Rattle.linkstate.specs.Sides.{Advertisement, names, general, rsvp_te_alone}
use Rattle.isis.specs.MaskHeader.{l_flag, mask_too_long, header_length, advertisement}
use Rattle.isis.specs.RunA.{asla_advertisements}
use Rattle.isis_grids.specs.declared.Which.{Which}
use Rattle.isis_grids.specs.declared.Which.TheVariants.{Naming, General, RsvpTeAlone, WithoutL}

-- The tests of document 01's "Who gets what".
unfoldable pub selects : Which → Advertisement → Bool
selects (Naming n) d = names n d
selects General d = general d
selects RsvpTeAlone d = rsvp_te_alone d
selects WithoutL d = not d.L

-- An advertisement without L, by its masks: no test looks at the attributes.
abbrev pub unflagged : List ℕ → List ℕ → Advertisement
unflagged standard user = record { L = false; standard_mask = standard; user_mask = user; attributes = [] }

-- Where the attribute list of an ASLA with the value v begins; past the end where there is none to read, or the ASLA is not selected.
unfoldable pub list_from : Which → List ℕ → ℕ
list_from w v = cond (l_flag v) (length v) (cond (mask_too_long v) (length v) (cond (selects w (advertisement v [])) (header_length v) (length v)))

-- The value of an ASLA whose checks have passed: it has its fixed bytes, and its masks unless they are too long to be read.
abbrev pub Headed : List ℕ → Type 0
Headed v = (2 ≤ length v) × (mask_too_long v ≡ false → header_length v ≤ length v)

-- Whether the list of an ASLA with the value v is read, and the ASLA selected.
unfoldable pub is_taken : Which → List ℕ → Bool
is_taken w v = cond (l_flag v) false (cond (mask_too_long v) false (selects w (advertisement v [])))

-- An ASLA whose masks are read, by its value.
pub record Read (v : List ℕ) : Type 0 where
  pub headed : Headed v
  pub plain : l_flag v ≡ false
  pub short : mask_too_long v ≡ false

-- Where its list begins, if it is selected and its list read.
abbrev pub ListIn : Which → List ℕ → Option ℕ → Type 0
ListIn w v None = is_taken w v ≡ false
ListIn w v (Some n) = (is_taken w v ≡ true) × (n ≡ header_length v) × (n ≤ length v)

-- The attributes of the advertisements of an element that are selected.
unfoldable pub selected : Which → Element → List Attribute
selected w e = each (λ d. d.attributes) (keep (selects w) (asla_advertisements e))
