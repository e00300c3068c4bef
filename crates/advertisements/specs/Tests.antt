-- Which elements of a run are advertisements that pass a test and have a kind: those of the definitions of runs A and B and of BGP-LS.
use Rattle.std.specs.Prelude.{Bool, true, false, ◌&&◌, ◌||◌, not, List, [], ℕ, leb, eqb, length, drop, Option, None, Some}
use Rattle.linkstate.specs.Lists.{any}
use Rattle.linkstate.specs.Elements.{Element, element, cut, elements}
use Rattle.linkstate.specs.Sides.{Advertisement, names, general, rsvp_te_alone}
use Rattle.linkstate.specs.Why.{names_with_l}
use Rattle.linkstate.specs.BgpLs.{asla_header, advertisements_of}
use Rattle.isis.specs.MaskHeader.{l_flag, header_length, advertisement}
use Rattle.isis.specs.RunA.{asla_advertisements}
use Rattle.isis.specs.RunB.{after_neighbour, srlg_values, srlg_advertisements}
use Rattle.replies.specs.declared.Run.{Run}
use Rattle.replies.specs.declared.Run.TheVariants.{A, B, C, BgpLs}
use Rattle.advertisements.specs.declared.Test.{Test}
use Rattle.advertisements.specs.declared.Test.TheVariants.{Names, WithL, General, WithoutL, RsvpTeAlone}

-- W2, W3, W4, W11, W12. The tests of document 01's "Who gets what".
unfoldable pub passing : Test → Advertisement → Bool
passing (Names n) d = names n d
passing (WithL n) d = names_with_l n d
passing General d = general d
passing WithoutL d = not d.L
passing RsvpTeAlone d = rsvp_te_alone d

-- An advertisement by its L-flag and its masks: no test looks at the attributes.
abbrev pub seen : Bool → List ℕ → List ℕ → Advertisement
seen l standard user = record { L = l; standard_mask = standard; user_mask = user; attributes = [] }

-- A3, B3. The masks lie within what begins at the byte with the L-flag. The checks refuse by 3 where they do not, and nothing is read of them here.
unfoldable pub stands : List ℕ → Bool
stands v = leb (header_length v) (length v)

unfoldable pub is_advertised : Test → List ℕ → Bool
is_advertised test v = stands v && passing test (advertisement v [])

-- An element of a kind, by its type in a list; of SRLG, with a number.
unfoldable pub is_of : ℕ → Element → Bool
is_of k (element at t v) = eqb t k && (not (eqb k 1096) || leb 4 (length v))
is_of k (cut at) = false

-- Whether a list has one, where one is asked for.
unfoldable pub in_list : ℕ → Option ℕ → List ℕ → Bool
in_list w None s = true
in_list w (Some k) s = any (is_of k) (elements w 0 s)

-- A3. The list of an ASLA, which is not read with L.
unfoldable pub carries_a : Option ℕ → List ℕ → Bool
carries_a None v = true
carries_a (Some k) v = not (l_flag v) && any (is_of k) (elements 1 0 (drop (header_length v) v))

-- B3. SRLG values of a TLV 238 that are read: without L, at least one number of four bytes.
unfoldable pub carries_b : Option ℕ → List ℕ → Bool
carries_b None v = true
carries_b (Some k) v = not (l_flag v) && leb 4 (length (srlg_values v))

-- Whether an element of a run advertises, passes, and has the kind that is asked for.
unfoldable pub such_in : Run → Test → Option ℕ → Element → Bool
such_in run test k (cut at) = false
such_in A test k (element at t v) = (stands v && any (passing test) (asla_advertisements (element at t v))) && carries_a k v
such_in B test k (element at t v) = (stands (after_neighbour v) && any (passing test) (srlg_advertisements (element at t v))) && carries_b k (after_neighbour v)
such_in C test k (element at t v) = false
such_in BgpLs test k (element at t v) =
    (leb (asla_header v) (length v) && any (passing test) (advertisements_of (element at t v))) && in_list 2 k (drop (asla_header v) v)
