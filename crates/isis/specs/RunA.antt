-- Document 01, "Advertisements in A" (rules A1 to A9): legacy attributes and ASLA sub-TLVs of a neighbour entry (RFC 8919 sections 3 and 4.2).
use Rattle.std.specs.Prelude.{Bool, cond, ◌&&◌, ◌||◌, not, List, [], ◌∷◌, ℕ, ◌+◌, ltb, eqb, length, drop}
use Rattle.linkstate.specs.Lists.{each}
use Rattle.linkstate.specs.Replies.{Verdict, accepted, fault, run_a}
use Rattle.linkstate.specs.Elements.{Element, element, cut, elements, faults_once}
use Rattle.linkstate.specs.Attributes.{Attribute, attribute}
use Rattle.linkstate.specs.Sides.{Advertisement, Side}
use Rattle.isis.specs.Types.{code_of_type, wrong_in_a}
use Rattle.isis.specs.MaskHeader.{l_flag, header_length, mask_too_long, l_for_nobody, advertisement}

-- A2. The attribute list of an ASLA whose first byte is at an offset: all that follows the masks.
unfoldable pub list_elements : ℕ → List ℕ → List Element
list_elements at v = elements 1 (at + 2 + header_length v) (drop (header_length v) v)

-- A4, A5. The check of an attribute: a known kind's length; an ASLA inside a list is unknown.
unfoldable pub check_attribute : ℕ → ℕ → List ℕ → Verdict
check_attribute at t v = cond (wrong_in_a t (length v)) (fault 4 run_a at) accepted

-- E5b. What is known in run A: the thirteen types that carry a kind, the link's bandwidths too; an ASLA is not.
unfoldable pub known_type : ℕ → Bool
known_type t = not (eqb (code_of_type t) 0)

-- A3, A4, R11, E5b. The checks of an ASLA, in order; what they do not reach is accepted. No known type stands twice in a list that is read.
unfoldable pub check_asla : ℕ → List ℕ → Verdict
check_asla at v =
    cond (ltb (length v) 2) (fault 3 run_a at)
    (cond (mask_too_long v) accepted
    (cond (ltb (length v) (header_length v)) (fault 3 run_a at)
    (cond (l_for_nobody v) accepted (cond (l_flag v) accepted (faults_once run_a known_type check_attribute [] (list_elements at v))))))

-- A2, K3. The check of an element of run A: type 16 is ASLA; of any other the length is checked if its kind is known, else nothing.
unfoldable pub check_a : ℕ → ℕ → List ℕ → Verdict
check_a at t v = cond (eqb t 16) (check_asla at v) (check_attribute at t v)

-- K1, K3. An element as an attribute, with code 0 where its type is unknown, and with a zero byte in front of a TE metric, as BGP-LS has it.
unfoldable pub attributes_of : Element → List Attribute
attributes_of (element at t v) = attribute 1 at v (code_of_type t) (cond (eqb t 18) (0 ∷ v) v) ∷ []
attributes_of (cut at) = []

-- A6. An ASLA is *live* unless it is ignored.
unfoldable pub live_asla : List ℕ → Bool
live_asla v = not (mask_too_long v || l_for_nobody v)

unfoldable pub asla_advertisements : Element → List Advertisement
asla_advertisements (element at t v) = cond (eqb t 16 && live_asla v) (advertisement v (each attributes_of (list_elements at v)) ∷ []) []
asla_advertisements (cut at) = []

-- I2, W1, W2. Side A: its own elements are its legacy values; an ASLA among them has code 0, like an unknown type, and is nobody's value.
unfoldable pub side_a : List ℕ → Side
side_a a = record { legacy = each attributes_of (elements 1 0 a); live = each asla_advertisements (elements 1 0 a) }
