-- Document 01, "Advertisements in B" (rules B1 to B4): whole TLVs 238, Application-Specific SRLG (RFC 8919 section 4.3), and the legacy values of run C.
use Rattle.std.specs.Prelude.{Bool, false, cond, ◌&&◌, ◌||◌, not, List, [], ◌∷◌, ℕ, ◌+◌, ◌%◌, ltb, eqb, length, take, drop, get_or}
use Rattle.linkstate.specs.Lists.{each, any, count}
use Rattle.linkstate.specs.Replies.{Verdict, accepted, fault, ◌then◌, run_b}
use Rattle.linkstate.specs.Elements.{Element, element, cut, elements, faults}
use Rattle.linkstate.specs.Attributes.{Attribute}
use Rattle.linkstate.specs.Sides.{Advertisement, Side}
use Rattle.isis.specs.MaskHeader.{l_flag, header_length, mask_too_long, l_for_nobody, advertisement}

-- B2. What follows the seven neighbour bytes of a 238's value: from here on v begins at the byte with the L-flag.
unfoldable pub after_neighbour : List ℕ → List ℕ
after_neighbour value = drop 7 value

-- B2. The length of the identifier list, in the byte behind the masks.
unfoldable pub identifier_bytes : List ℕ → ℕ
identifier_bytes v = get_or v (header_length v) 0

-- B2. The identifiers of a 238 whose first byte is at an offset, and what follows them, its SRLG values.
unfoldable pub identifiers : ℕ → List ℕ → List Element
identifiers at v = elements 1 (at + 2 + 7 + header_length v + 1) (take (identifier_bytes v) (drop (header_length v + 1) v))

unfoldable pub srlg_values : List ℕ → List ℕ
srlg_values v = drop (header_length v + 1 + identifier_bytes v) v

-- B3. The five known identifiers: type and length.
pub record Identifier : Type 0 where
  pub type : ℕ
  pub len : ℕ

unfoldable pub identifier : ℕ → ℕ → Identifier
identifier t n = record { type = t; len = n }

unfoldable pub known_identifiers : List Identifier
known_identifiers = identifier 4 8 ∷ identifier 6 4 ∷ identifier 8 4 ∷ identifier 12 16 ∷ identifier 13 16 ∷ []

-- R4, B3. The check of an identifier: a known one's length.
unfoldable pub check_identifier : ℕ → ℕ → List ℕ → Verdict
check_identifier at t v = cond (any (λ q. eqb t q.type && not (eqb (length v) q.len)) known_identifiers) (fault 4 run_b at) accepted

unfoldable pub is_of_type : ℕ → Element → Bool
is_of_type n (element at t v) = eqb t n
is_of_type n (cut at) = false

-- How many identifiers have a type.
unfoldable pub times : ℕ → List Element → ℕ
times n es = count (is_of_type n) es

-- B3. One of the five types stands there twice.
unfoldable pub repeats : List Element → Bool
repeats es = any (λ q. ltb 1 (times q.type es)) known_identifiers

-- B3. What tells the link: a 4, or a 6 with an 8, or a 12 with a 13.
unfoldable pub identifies : List Element → Bool
identifies es = any (is_of_type 4) es || (any (is_of_type 6) es && any (is_of_type 8) es) || (any (is_of_type 12) es && any (is_of_type 13) es)

-- B3. Ignored: L for nobody, an identifier twice, or none that tells the link; es are its identifiers.
unfoldable pub ignored : List ℕ → List Element → Bool
ignored v es = l_for_nobody v || repeats es || not (identifies es)

-- B3, R11. The checks of a 238, in order; what they do not reach is accepted.
unfoldable pub check_srlg : ℕ → List ℕ → List ℕ → Verdict
check_srlg at value v =
    cond (ltb (length value) 9) (fault 3 run_b at)
    (cond (mask_too_long v) accepted
    (cond (ltb (length v) (header_length v + 1)) (fault 3 run_b at)
    (cond (ltb (length v) (header_length v + 1 + identifier_bytes v)) (fault 3 run_b at)
    (faults run_b check_identifier (identifiers at v)
    then cond (ignored v (identifiers at v)) accepted (cond (l_flag v) accepted (cond (eqb (length (srlg_values v) % 4) 0) accepted (fault 4 run_b at)))))))

-- B4. Other types are only framed.
unfoldable pub check_b : ℕ → ℕ → List ℕ → Verdict
check_b at t value = cond (eqb t 238) (check_srlg at value (after_neighbour value)) accepted

-- SRLG values as an attribute, at an offset.
unfoldable pub srlg_attribute : ℕ → List ℕ → Attribute
srlg_attribute at values = record { code = 1096; at = at; len = length values; value = values }

-- A6, B3. A 238 is *live* unless it is ignored.
unfoldable pub live_srlg : ℕ → List ℕ → Bool
live_srlg at v = not (mask_too_long v || ignored v (identifiers at v))

unfoldable pub srlg_advertisement : ℕ → List ℕ → Advertisement
srlg_advertisement at v = advertisement v (srlg_attribute (at + 2 + 7 + header_length v + 1 + identifier_bytes v) (srlg_values v) ∷ [])

unfoldable pub srlg_advertisements : Element → List Advertisement
srlg_advertisements (element at t value) =
    cond (eqb t 238 && live_srlg at (after_neighbour value)) (srlg_advertisement at (after_neighbour value) ∷ []) []
srlg_advertisements (cut at) = []

-- I3, I4, W1, W2. Side B: C holds its legacy values.
unfoldable pub side_b : List ℕ → List ℕ → Side
side_b b c = record { legacy = srlg_attribute 0 c ∷ []; live = each srlg_advertisements (elements 1 0 b) }
