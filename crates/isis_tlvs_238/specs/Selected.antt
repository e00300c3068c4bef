-- Which TLVs 238 are read, and the numbers of their SRLG values.
use Rattle.std.specs.Prelude.{◌≡◌, Bool, false, List, [], ℕ, ◌+◌, ◌≤◌, length}
use Rattle.linkstate.specs.Lists.{keep, each}
use Rattle.linkstate.specs.Bytes.{words}
use Rattle.linkstate.specs.Elements.{Element}
use Rattle.linkstate.specs.Attributes.{Attribute, of_kind}
use Rattle.linkstate.specs.Sides.{Advertisement, names, general}
use Rattle.isis.specs.MaskHeader.{header_length, mask_too_long}
use Rattle.isis.specs.RunB.{after_neighbour, identifier_bytes, srlg_advertisements}
use Rattle.isis_tlvs_238.specs.declared.Which.{Which}
use Rattle.isis_tlvs_238.specs.declared.Which.TheVariants.{Naming, General}

-- The tests of document 01's "Who gets what".
unfoldable pub selects : Which → Advertisement → Bool
selects (Naming n) d = names n d
selects General d = general d

-- An advertisement by its masks: no test looks at the rest.
abbrev pub masked : List ℕ → List ℕ → Advertisement
masked standard user = record { L = false; standard_mask = standard; user_mask = user; attributes = [] }

-- W5. The numbers of the SRLG values of attributes, in byte order.
unfoldable pub srlg_words : List Attribute → List ℕ
srlg_words ts = each (λ t. words t.value) (of_kind 1096 ts)

-- Those of the selected advertisements of an element.
unfoldable pub words_in : Which → Element → List ℕ
words_in w e = srlg_words (each (λ d. d.attributes) (keep (selects w) (srlg_advertisements e)))

-- The value of a TLV 238 that passed its checks, behind the neighbour bytes: it has its fixed bytes, and its masks and identifiers unless
-- the masks are too long to be read.
pub record Listed (v : List ℕ) : Type 0 where
  pub fixed : 2 ≤ length v
  pub listed : mask_too_long v ≡ false → header_length v + 1 + identifier_bytes v ≤ length v

-- The value of a TLV of type t that passed its checks.
abbrev pub Whole : ℕ → List ℕ → Type 0
Whole t value = t ≡ 238 → (9 ≤ length value) × Listed (after_neighbour value)
