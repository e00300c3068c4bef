-- Why a link gives what it gives, on worked bytes, by computing: each fact pins a row of the table of rules, so that a slip in it is refused here.
use mathlib.Core.Path.{◌≡◌, refl}
use mathlib.Core.List.{List, [], ◌∷◌, ◌++◌, map}
use Prim.Native.Nat.{ℕ}
use lib.ListN.{replicate}
use Rattle.linkstate.specs.Replies.{run_a, run_b, run_c, place, refusal_at}
use Rattle.linkstate.specs.Questions.{Subject, generally, standard_no, user_no}
use Rattle.linkstate.specs.Why.{Rule, by_l, by_name, general_asked, unnamed, by_legacy, carried, Why, because, why_refused, held_at, legacy_in, nowhere}
use Rattle.isis.specs.Why.{link_why}
use Rattle.isis.specs.Starred.{M, S, G, Z}
use Rattle.isis.proofs.Computing.{computing}

-- An advertisement at an offset of A, and of B; no advertisement with legacy values in A, and in C; none.
abbrev in_a : Rule → ℕ → Why
in_a x n = because x (held_at (place run_a n))

abbrev in_b : Rule → ℕ → Why
in_b x n = because x (held_at (place run_b n))

abbrev legacy_a : Why
legacy_a = because by_legacy (legacy_in run_a)

abbrev legacy_c : Why
legacy_c = because by_legacy (legacy_in run_c)

-- M S G: RSVP-TE has the legacy metric; SR Policy that of S, at 5; LFA and user 5 that of G, at 15; the general set too.
named-and-not :
    map (λ whom. link_why (M ++ S ++ G) [] [] whom 1092) (standard_no 0 ∷ standard_no 1 ∷ standard_no 2 ∷ user_no 5 ∷ generally ∷ [])
    ≡ legacy_a ∷ in_a by_name 5 ∷ in_a unnamed 15 ∷ in_a unnamed 15 ∷ in_a general_asked 15 ∷ []
unfolding computing
named-and-not = refl

-- Of a kind that no ASLA has: the first that names SR Policy; none for the others.
kind-that-none-has :
    map (λ whom. link_why (M ++ S ++ S ++ G) [] [] whom 1114) (standard_no 0 ∷ standard_no 1 ∷ standard_no 2 ∷ generally ∷ [])
    ≡ legacy_a ∷ in_a by_name 5 ∷ because unnamed nowhere ∷ because general_asked nowhere ∷ []
unfolding computing
kind-that-none-has = refl

-- M Z G: SR Policy by the L-flag of Z, at 5, of 1114 too; LFA of G. M S Z: the L-flag behind S counts. RSVP-TE by its own L-flag; of a bandwidth legacy.
by-the-l-flag :
    (map (link_why (M ++ Z ++ G) [] [] (standard_no 1)) (1092 ∷ 1114 ∷ []) ≡ in_a by_l 5 ∷ in_a by_l 5 ∷ [])
    × (link_why (M ++ Z ++ G) [] [] (standard_no 2) 1092 ≡ in_a unnamed 10)
    × (link_why (M ++ S ++ Z) [] [] (standard_no 1) 1092 ≡ in_a by_l 15)
    × (map (link_why (0x10 ∷ 0x03 ∷ 0x81 ∷ 0x00 ∷ 0x80 ∷ []) [] [] (standard_no 0)) (1092 ∷ 1090 ∷ []) ≡ in_a by_l 0 ∷ legacy_a ∷ [])
unfolding computing
by-the-l-flag = (refl, refl, refl, refl)

-- A mask that names nobody, and general ASLAs of which the second has the metric: of those that pass, the first that has the kind.
one-that-has-it :
    (map (λ whom. link_why ((0x10 ∷ 0x03 ∷ 0x01 ∷ 0x00 ∷ 0x40 ∷ []) ++ S ++ (0x10 ∷ 0x02 ∷ 0x00 ∷ 0x00 ∷ []) ++ G) [] [] whom 1092) (standard_no 1 ∷ standard_no 2 ∷ generally ∷ [])
    ≡ in_a by_name 5 ∷ in_a unnamed 19 ∷ in_a general_asked 19 ∷ [])
    × (link_why ((0x10 ∷ 0x08 ∷ 0x01 ∷ 0x00 ∷ 0x00 ∷ 0x12 ∷ 0x03 ∷ 0x00 ∷ 0x00 ∷ 0x14 ∷ []) ++ G) [] [] (standard_no 1) 1092 ≡ in_a unnamed 10)
unfolding computing
one-that-has-it = (refl, refl)

-- RSVP-TE named without and with a metric; of 1088 legacy.
rsvp-te-named :
    map (link_why (M ++ (0x10 ∷ 0x03 ∷ 0x01 ∷ 0x00 ∷ 0x80 ∷ []) ++ (0x10 ∷ 0x08 ∷ 0x01 ∷ 0x00 ∷ 0xC0 ∷ 0x12 ∷ 0x03 ∷ 0x00 ∷ 0x00 ∷ 0x14 ∷ [])) [] [] (standard_no 0)) (1092 ∷ 1088 ∷ [])
    ≡ in_a by_name 10 ∷ legacy_a ∷ []
unfolding computing
rsvp-te-named = refl

-- RSVP-TE that nothing names, beside a legacy bandwidth: of G, at 6; none of a kind that G has not. Beside a legacy group: legacy, of every kind.
rsvp-te-unnamed :
    (map (link_why ((0x09 ∷ 0x04 ∷ 0x4C ∷ 0x00 ∷ 0x00 ∷ 0x01 ∷ []) ++ G) [] [] (standard_no 0)) (1092 ∷ 1114 ∷ 1089 ∷ []) ≡ in_a unnamed 6 ∷ because unnamed nowhere ∷ legacy_a ∷ [])
    × (map (link_why ((0x03 ∷ 0x04 ∷ 0x00 ∷ 0x00 ∷ 0x00 ∷ 0x05 ∷ []) ++ G) [] [] (standard_no 0)) (1088 ∷ 1092 ∷ []) ≡ legacy_a ∷ legacy_a ∷ [])
unfolding computing
rsvp-te-unnamed = (refl, refl)

-- A 1089 or a 1090 as an element, and ASLAs with one: general, and for the applications of a mask.
bandwidth_in : ℕ → List ℕ
bandwidth_in t = t ∷ 4 ∷ 0 ∷ 0 ∷ 0 ∷ 1 ∷ []

general_with : ℕ → List ℕ
general_with t = 0x10 ∷ 8 ∷ 0 ∷ 0 ∷ bandwidth_in t

mask_with : ℕ → ℕ → List ℕ
mask_with m t = 0x10 ∷ 9 ∷ 1 ∷ 0 ∷ m ∷ bandwidth_in t

-- Whoever asks. 1089: legacy, else the first ASLA that has it. 1090: of those for RSVP-TE alone, unless it is named with L; else legacy, there or not.
bandwidths :
    (map (λ whom. link_why (M ++ general_with 9) [] [] whom 1089) (generally ∷ standard_no 0 ∷ standard_no 1 ∷ user_no 5 ∷ []) ≡ replicate 4 (in_a carried 5))
    × (map (λ a. link_why a [] [] (standard_no 1) 1089) ((general_with 9 ++ bandwidth_in 9) ∷ Z ∷ (Z ++ mask_with 0xC0 9) ∷ []) ≡ legacy_a ∷ legacy_a ∷ in_a carried 5 ∷ [])
    × (map (λ a. link_why (bandwidth_in 10 ++ a) [] [] generally 1090)
    ((mask_with 0xC0 10 ++ mask_with 0x80 10) ∷ mask_with 0xC0 10 ∷ general_with 10 ∷ (mask_with 0x80 10 ++ (0x10 ∷ 3 ∷ 0x81 ∷ 0 ∷ 0xC0 ∷ [])) ∷ mask_with 0x80 9 ∷ [])
    ≡ in_a carried 17 ∷ legacy_a ∷ legacy_a ∷ legacy_a ∷ legacy_a ∷ [])
unfolding computing bandwidth_in general_with mask_with
bandwidths = (refl, refl, refl)

-- A TLV 238 with a link-local identifier and what stands before and behind it: for a standard mask of one byte, with the byte of the L-flag, and a general one,
-- 23 and 22 bytes without an SRLG; and one for SR Policy that has no identifier, so that it is ignored, 13 bytes.
tlv238 : ℕ → List ℕ → List ℕ → List ℕ
tlv238 n masks values = 238 ∷ n ∷ replicate 7 0 ++ masks ++ (10 ∷ 4 ∷ 8 ∷ 0 ∷ 0 ∷ 0 ∷ 1 ∷ 0 ∷ 0 ∷ 0 ∷ 2 ∷ []) ++ values

mask238 : ℕ → ℕ → List ℕ
mask238 first mask = tlv238 21 (first ∷ 0 ∷ mask ∷ []) []

numbered238 : ℕ → List ℕ
numbered238 mask = tlv238 25 (1 ∷ 0 ∷ mask ∷ []) (0 ∷ 0 ∷ 0 ∷ 7 ∷ [])

general238 : List ℕ
general238 = tlv238 20 (0 ∷ 0 ∷ []) []

numbered_general238 : List ℕ
numbered_general238 = tlv238 24 (0 ∷ 0 ∷ []) (0 ∷ 0 ∷ 0 ∷ 8 ∷ [])

ignored238 : List ℕ
ignored238 = 238 ∷ 11 ∷ replicate 7 0 ++ (0x01 ∷ 0 ∷ 0x40 ∷ 0 ∷ [])

abbrev srlg_why : List ℕ → Subject → Why
srlg_why b whom = link_why (M ++ S ++ Z ++ G) b [] whom 1096

-- SRLGs, A naming SR Policy with L: of those in B that name it the first, with a number or without; of general ones the first, if they have a number.
srlgs-of-others :
    (map (srlg_why (ignored238 ++ mask238 1 0x40 ++ numbered238 0x40 ++ general238 ++ numbered_general238)) (standard_no 1 ∷ standard_no 2 ∷ generally ∷ [])
    ≡ in_b by_name 13 ∷ in_b unnamed 63 ∷ in_b general_asked 63 ∷ [])
    × (map (srlg_why (mask238 1 0x40 ++ general238)) (standard_no 1 ∷ standard_no 2 ∷ generally ∷ []) ≡ in_b by_name 0 ∷ because unnamed nowhere ∷ because general_asked nowhere ∷ [])
    × (srlg_why (numbered238 0x40 ++ mask238 0x81 0x40) (standard_no 1) ≡ in_b by_l 27)
unfolding computing tlv238 mask238 numbered238 general238 numbered_general238 ignored238
srlgs-of-others = (refl, refl, refl)

-- RSVP-TE's: of those that name it the first, if they have a number; else C's, by an L-flag or without, there or not; the general ones where nothing names it
-- and C has no number.
srlgs-of-rsvp-te :
    (map (λ b. srlg_why b (standard_no 0)) ((mask238 1 0x80 ++ numbered238 0xC0) ∷ mask238 1 0x80 ∷ (numbered238 0x80 ++ mask238 0x81 0x80) ∷ numbered_general238 ∷ [])
    ≡ in_b by_name 0 ∷ legacy_c ∷ in_b by_l 27 ∷ in_b unnamed 0 ∷ [])
    × (link_why G numbered_general238 (0 ∷ 0 ∷ 0 ∷ 1 ∷ []) (standard_no 0) 1096 ≡ legacy_c)
unfolding computing tlv238 mask238 numbered238 numbered_general238
srlgs-of-rsvp-te = (refl, refl)

-- The refusals of a question in their order: 6, 7, 1, 2, 3 in A, 4 in B.
refusals :
    link_why (replicate 2049 0) [] (1 ∷ []) (user_no 32) 1093 ∷ link_why (replicate 2049 0) [] (1 ∷ []) (user_no 31) 1093 ∷ link_why (replicate 2049 0) [] (1 ∷ []) generally 1092
    ∷ link_why (0x12 ∷ []) [] (1 ∷ []) generally 1092 ∷ link_why (M ++ (0x12 ∷ [])) [] [] generally 1092 ∷ link_why M (tlv238 21 (0 ∷ 0 ∷ []) (7 ∷ [])) [] generally 1092 ∷ []
    ≡ map why_refused (refusal_at 6 run_a 0 ∷ refusal_at 7 run_a 0 ∷ refusal_at 1 run_a 0 ∷ refusal_at 2 run_a 0 ∷ refusal_at 3 run_a 5 ∷ refusal_at 4 run_b 0 ∷ [])
unfolding computing tlv238
refusals = refl
