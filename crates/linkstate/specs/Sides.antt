-- Document 01, "Who gets what" (rules W1 to W13; RFC 8919 sections 4.2 and 4.3, with its revision), and document 02's rule E2a, over one side.
use Rattle.std.specs.Prelude.{Bool, cond, ◌&&◌, ◌||◌, not, List, ◌++◌, ℕ, eqb, length}
use Rattle.linkstate.specs.Lists.{keep, any, each, empty}
use Rattle.linkstate.specs.Kinds.{application_codes}
use Rattle.linkstate.specs.Masks.{in_masks, others}
use Rattle.linkstate.specs.Attributes.{Attribute, value_of}

-- A6. A *live* advertisement: its L-flag, its two masks, and the attributes of its list, none where L is set.
pub record Advertisement : Type 0 where
  pub L : Bool
  pub standard_mask : List ℕ
  pub user_mask : List ℕ
  pub attributes : List Attribute

-- W1. A *side*: its legacy attributes and its live advertisements, both in byte order.
pub record Side : Type 0 where
  pub legacy : List Attribute
  pub live : List Advertisement

-- A7, A9. *General*: both masks have no byte at all.
unfoldable pub general : Advertisement → Bool
general d = eqb (length d.standard_mask) 0 && eqb (length d.user_mask) 0

-- A8. *Names*: the application's bit is set.
unfoldable pub names : ℕ → Advertisement → Bool
names a d = in_masks d.standard_mask d.user_mask a

-- W3, W2. Whether some live advertisement names an application, and whether one does so with L.
unfoldable pub named : ℕ → Side → Bool
named a s = any (names a) s.live

unfoldable pub named_with_l : ℕ → Side → Bool
named_with_l a s = any (λ d. d.L && names a d) s.live

-- W5. The attributes of the live advertisements that pass a test, together.
unfoldable pub of_live : (Advertisement → Bool) → Side → List Attribute
of_live p s = each (λ d. d.attributes) (keep p s.live)

-- W4. The general set of a side.
unfoldable pub general_set : Side → List Attribute
general_set s = of_live general s

-- W2, W3, W4. What an application other than RSVP-TE gets on a side: legacy if some L names it, else of those that name it, else the general set.
unfoldable pub application_set : ℕ → Side → List Attribute
application_set a s = cond (named_with_l a s) s.legacy (cond (named a s) (of_live (names a) s) (general_set s))

-- E2a. Whether the legacy attributes of a side have a value of one of the eleven kinds. The link's bandwidths are none of these, and SRLG without a number is no value.
unfoldable pub has_legacy : Side → Bool
has_legacy s = any (λ k. not (empty (value_of k s.legacy))) application_codes

-- E2a. RSVP-TE takes the general set of a side that does not name it, with L or without, and has no legacy value of the eleven kinds.
unfoldable pub takes_general : Side → Bool
takes_general s = not (named 0 s || has_legacy s)

-- E2a, W8, W9, W10. What RSVP-TE gets of one kind: the general set where it takes it; else legacy if named with L; else of those that name it, where they have
-- a value, otherwise legacy.
unfoldable pub rsvp_te_kind : ℕ → Side → List Attribute
rsvp_te_kind k s =
    cond (takes_general s) (general_set s) (cond (named_with_l 0 s || empty (value_of k (of_live (names 0) s))) s.legacy (of_live (names 0) s))

-- W12. Of all bits of both masks, standard 0 alone is set.
unfoldable pub rsvp_te_alone : Advertisement → Bool
rsvp_te_alone d = names 0 d && not (any (λ a. names a d) others)

-- W11. 1089: legacy, else of any live advertisement without L.
unfoldable pub maximum_bandwidth : Side → List Attribute
maximum_bandwidth s = s.legacy ++ of_live (λ d. not d.L) s

-- W12. 1090 and 1091: of those that name RSVP-TE alone, else legacy; legacy only where RSVP-TE is named with L.
unfoldable pub reservable_bandwidth : Side → List Attribute
reservable_bandwidth s = cond (named_with_l 0 s) s.legacy (of_live rsvp_te_alone s ++ s.legacy)

unfoldable pub bandwidth_kind : ℕ → Side → List Attribute
bandwidth_kind k s = cond (eqb k 1089) (maximum_bandwidth s) (reservable_bandwidth s)
