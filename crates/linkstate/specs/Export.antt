-- Document 01, "BGP-LS bytes": the TLVs that a meaning is written as (rules L1 to L8; RFC 9294 sections 2 and 3).
use Rattle.std.specs.Prelude.{Bool, false, cond, ◌&&◌, List, [], ◌∷◌, ◌++◌, map, ℕ, eqb, ltb, length}
use Rattle.linkstate.specs.Lists.{keep, all, each, lookup, empty, same_rows}
use Rattle.linkstate.specs.Bytes.{two}
use Rattle.linkstate.specs.Kinds.{codes, application_codes, is_link_code}
use Rattle.linkstate.specs.Masks.{user, others, mask_size, mask}
use Rattle.linkstate.specs.Meaning.{Meaning, row}

-- A TLV to write.
pub data Tlv : Type 0 where
  tlv : (type : ℕ) (value : List ℕ) → Tlv

-- L1. A TLV's bytes: its type and its length in two bytes each, and its value with no padding.
unfoldable pub bytes_of : Tlv → List ℕ
bytes_of (tlv t v) = two t ++ two (length v) ++ v

-- Those of the kinds that have a value, as TLVs.
unfoldable pub present : List ℕ → (ℕ → List ℕ) → List Tlv
present [] f = []
present (k ∷ ks) f = cond (empty (f k)) (present ks f) (tlv k (f k) ∷ present ks f)

-- L2, E2b. What stands at the top of a run: the link's bandwidths and the RSVP-TE set, the general one where RSVP-TE takes it.
unfoldable pub top_value : Meaning → ℕ → List ℕ
top_value m k = cond (is_link_code k) (m.bandwidth k) (m.rsvp_te k)

-- L3 to L6. The value of a 1122 for the applications that pass the test: mask lengths, two zero bytes, the masks, and the TLVs of a set, ascending.
unfoldable pub asla_value : (ℕ → Bool) → (ℕ → List ℕ) → List ℕ
asla_value p f =
    mask_size p ∷ mask_size (λ n. p (user n)) ∷ 0 ∷ 0 ∷ mask p ++ mask (λ n. p (user n)) ++ each bytes_of (present application_codes f)

-- L3, E2b. The general set, if it is not empty, with both masks empty, whoever takes it.
unfoldable pub general_values : Meaning → List (List ℕ)
general_values m = cond (all empty (row m.general)) [] (asla_value (λ a. false) m.general ∷ [])

-- L3. Equal sets share a TLV: the first named application with the same set as a leads a's group.
unfoldable pub leader : Meaning → ℕ → ℕ
leader m a = lookup (λ b. m.named b && same_rows (row (m.set b)) (row (m.set a))) (λ b. b) 0 others

unfoldable pub in_group : Meaning → ℕ → ℕ → Bool
in_group m lead a = m.named a && eqb (leader m a) lead

-- L3, L7. The leaders, in the order of the applications; an empty set makes a group like any other.
unfoldable pub leaders : Meaning → List ℕ
leaders m = keep (λ a. in_group m a a) others

unfoldable pub group_value : Meaning → ℕ → List ℕ
group_value m lead = asla_value (in_group m lead) (m.set lead)

unfoldable pub asla_values : Meaning → List (List ℕ)
asla_values m = general_values m ++ map (group_value m) (leaders m)

-- L2. All TLVs, ascending by type.
unfoldable pub tlvs : Meaning → List Tlv
tlvs m = present (keep (λ k. ltb k 1122) codes) (top_value m) ++ map (tlv 1122) (asla_values m) ++ present (keep (λ k. ltb 1122 k) codes) (top_value m)

unfoldable pub export : Meaning → List ℕ
export m = each bytes_of (tlvs m)
