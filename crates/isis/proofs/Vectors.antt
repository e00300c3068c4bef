-- The definitions of an IS-IS link on worked bytes, by computing: each fact pins one rule, so that a slip in it is refused here.
use mathlib.Core.Path.{◌≡◌, refl}
use mathlib.Core.Bool.{true, false, not}
use mathlib.Core.List.{List, [], ◌∷◌, ◌++◌, map}
use Prim.Native.Nat.{ℕ}
use lib.Dec.{eqb}
use lib.ListN.{length, replicate}
use Rattle.linkstate.specs.Lists.{keep}
use Rattle.linkstate.specs.Kinds.{codes}
use Rattle.linkstate.specs.Replies.{accepted, fault, fault_of_call, run_a, run_b, Reply, absent, found, whole, count, ask_refused, refusal_at, listed}
use Rattle.linkstate.specs.Questions.{Subject, generally, standard_no, user_no, ask, value, list_named}
use Rattle.linkstate.specs.Meaning.{meaning}
use Rattle.linkstate.specs.Export.{export}
use Rattle.isis.specs.Types.{types, code_of_type, wrong_in_a}
use Rattle.isis.specs.Link.{link_verdict, link_source}
use Rattle.isis.specs.Starred.{M, S, G, Z}
use Rattle.isis.proofs.Computing.{computing}

-- Every kind but SRLG has a type in run A; other types have none of the codes.
one-type-each : map (λ q. q.code) types ≡ keep (λ k. not (eqb k 1096)) codes
unfolding computing
one-type-each = refl

codes-by-type :
    map code_of_type (3 ∷ 9 ∷ 10 ∷ 11 ∷ 14 ∷ 18 ∷ 33 ∷ 34 ∷ 35 ∷ 36 ∷ 37 ∷ 38 ∷ 39 ∷ 0 ∷ 16 ∷ 32 ∷ 40 ∷ [])
    ≡ 1088 ∷ 1089 ∷ 1090 ∷ 1091 ∷ 1173 ∷ 1092 ∷ 1114 ∷ 1115 ∷ 1116 ∷ 1117 ∷ 1118 ∷ 1119 ∷ 1120 ∷ 0 ∷ 0 ∷ 0 ∷ 0 ∷ []
unfolding computing
codes-by-type = refl

-- Metric of 3 bytes in run A; extended group of 4 to 252; min/max delay of 8; unreserved bandwidth of 32.
right-lengths : (map (wrong_in_a 18) (3 ∷ 4 ∷ []) ≡ false ∷ true ∷ []) × (map (wrong_in_a 14) (0 ∷ 4 ∷ 6 ∷ 252 ∷ 256 ∷ []) ≡ true ∷ false ∷ true ∷ false ∷ true ∷ [])
    × (map (wrong_in_a 34) (4 ∷ 8 ∷ []) ≡ true ∷ false ∷ []) × (map (wrong_in_a 11) (4 ∷ 32 ∷ []) ≡ true ∷ false ∷ [])
unfolding computing
right-lengths = (refl, refl, refl, refl)

-- A TLV 238 of n value bytes: seven neighbour bytes, then what follows.
tlv238 : ℕ → List ℕ → List ℕ
tlv238 n rest = 238 ∷ n ∷ replicate 7 0 ++ rest

-- A link-local identifier of eight bytes, and a list of it alone with its length byte.
id_local : List ℕ
id_local = 4 ∷ 8 ∷ 0 ∷ 0 ∷ 0 ∷ 1 ∷ 0 ∷ 0 ∷ 0 ∷ 2 ∷ []

-- SR Policy's SRLG n in B; with L and no value; and general.
sr_policy_srlg : ℕ → List ℕ
sr_policy_srlg n = tlv238 25 (0x01 ∷ 0x00 ∷ 0x40 ∷ 10 ∷ id_local ++ (0 ∷ 0 ∷ 0 ∷ n ∷ []))

rsvp_te_with_l : List ℕ
rsvp_te_with_l = tlv238 21 (0x81 ∷ 0x00 ∷ 0x80 ∷ 10 ∷ id_local)

rsvp_te_empty : List ℕ
rsvp_te_empty = tlv238 21 (0x01 ∷ 0x00 ∷ 0x80 ∷ 10 ∷ id_local)

general_srlg : ℕ → List ℕ
general_srlg n = tlv238 24 (0x00 ∷ 0x00 ∷ 10 ∷ id_local ++ (0 ∷ 0 ∷ 0 ∷ n ∷ []))

abbrev asked : List ℕ → List ℕ → List ℕ → ℕ → Subject → Reply
asked a b c k whom = (ask (link_source a b c) whom k (0 ∷ 0 ∷ [])).reply

-- The sides are resolved apart: A is general and B names SR Policy, so SR Policy has metric 30 and its own SRLG; LFA the metric and no SRLG.
sides_apart :
    (map (λ k. asked G (sr_policy_srlg 7) [] k (standard_no 1)) (1092 ∷ 1096 ∷ []) ≡ found (whole 30) ∷ found (count 1) ∷ [])
    × (map (λ k. asked G (sr_policy_srlg 7) [] k (standard_no 2)) (1092 ∷ 1096 ∷ []) ≡ found (whole 30) ∷ absent ∷ [])
    × (map (λ k. asked S (general_srlg 8) [] k (standard_no 1)) (1092 ∷ 1096 ∷ []) ≡ found (whole 20) ∷ found (count 1) ∷ [])
    × ((ask (link_source S (general_srlg 8 ++ general_srlg 7) []) (standard_no 1) 1096 (0 ∷ 0 ∷ [])).list ≡ 7 ∷ 8 ∷ [])
unfolding computing tlv238 id_local sr_policy_srlg general_srlg
sides_apart = (refl, refl, refl, refl)

-- RSVP-TE's SRLGs: C's where it has a value, or B names it, without a value or with L; L on B leaves A's kinds as they are.
rsvp-te-srlgs :
    (map (λ b. asked [] b (0 ∷ 0 ∷ 0 ∷ 5 ∷ []) 1096 (standard_no 0)) ([] ∷ rsvp_te_empty ∷ rsvp_te_with_l ∷ general_srlg 8 ∷ []) ≡ replicate 4 (found (count 1)))
    × (asked (0x10 ∷ 0x08 ∷ 0x01 ∷ 0x00 ∷ 0x80 ∷ 0x12 ∷ 0x03 ∷ 0x00 ∷ 0x00 ∷ 0x14 ∷ []) rsvp_te_with_l [] 1092 (standard_no 0) ≡ found (whole 20))
unfolding computing tlv238 id_local rsvp_te_empty rsvp_te_with_l general_srlg
rsvp-te-srlgs = (refl, refl)

-- Sizes first (1), then C (2), then A, then B.
order-of-checks :
    link_verdict (replicate 2049 0) (238 ∷ []) (1 ∷ []) ∷ link_verdict (0x12 ∷ []) (238 ∷ []) (1 ∷ []) ∷ link_verdict (0x12 ∷ []) (238 ∷ []) [] ∷ link_verdict G (1 ∷ 0 ∷ 238 ∷ []) [] ∷ []
    ≡ fault_of_call 1 ∷ fault_of_call 2 ∷ fault 3 run_a 0 ∷ fault 3 run_b 2 ∷ []
unfolding computing
order-of-checks = refl

-- In A: the place of an inner element's fault is its own; a mask past the end is its ASLA's; L: the list is not read; an ignored one is not read either.
faults-in-a :
    map (λ a. link_verdict (M ++ a) [] [])
    ((0x10 ∷ 0x07 ∷ 0x01 ∷ 0x00 ∷ 0x40 ∷ 0x12 ∷ 0x02 ∷ 0x00 ∷ 0x0A ∷ []) ∷ (0x10 ∷ 0x05 ∷ 0x01 ∷ 0x00 ∷ 0x40 ∷ 0x12 ∷ 0x03 ∷ []) ∷ (0x10 ∷ 0x02 ∷ 0x01 ∷ 0x00 ∷ [])
    ∷ (0x10 ∷ 0x05 ∷ 0x81 ∷ 0x00 ∷ 0x40 ∷ 0x12 ∷ 0x03 ∷ []) ∷ (0x10 ∷ 0x04 ∷ 0x80 ∷ 0x00 ∷ 0x12 ∷ 0x03 ∷ []) ∷ (0x10 ∷ 0x02 ∷ 0x00 ∷ 0x09 ∷ [])
    ∷ (0x10 ∷ 0x04 ∷ 0x00 ∷ 0x00 ∷ 0x10 ∷ 0x00 ∷ []) ∷ [])
    ≡ fault 4 run_a 10 ∷ fault 3 run_a 10 ∷ fault 3 run_a 5 ∷ accepted ∷ accepted ∷ accepted ∷ accepted ∷ []
unfolding computing
faults-in-a = refl

-- E5b. The same kind twice in a list that is read, next to each other or not, whoever is named: 8 at the second, after its own check and before the next element.
-- Not with L nor with a mask too long, not of an unknown type (an ASLA in a list is one), not outside a list, where the first is taken.
kind-twice :
    (map (λ a. link_verdict a [] [])
    ((0x10 ∷ 0x0D ∷ 0x01 ∷ 0x00 ∷ 0x40 ∷ 0x12 ∷ 0x03 ∷ 0x00 ∷ 0x00 ∷ 0x14 ∷ 0x12 ∷ 0x03 ∷ 0x00 ∷ 0x00 ∷ 0x15 ∷ [])
    ∷ (0x10 ∷ 0x0C ∷ 0x01 ∷ 0x00 ∷ 0x40 ∷ 0x12 ∷ 0x03 ∷ 0x00 ∷ 0x00 ∷ 0x14 ∷ 0x12 ∷ 0x02 ∷ 0x00 ∷ 0x15 ∷ [])
    ∷ (0x10 ∷ 0x0F ∷ 0x01 ∷ 0x00 ∷ 0x40 ∷ 0x12 ∷ 0x03 ∷ 0x00 ∷ 0x00 ∷ 0x14 ∷ 0x12 ∷ 0x03 ∷ 0x00 ∷ 0x00 ∷ 0x15 ∷ 0x12 ∷ 0x09 ∷ [])
    ∷ (0x10 ∷ 0x0E ∷ 0x00 ∷ 0x00 ∷ 0x09 ∷ 0x04 ∷ 0x4C ∷ 0x00 ∷ 0x00 ∷ 0x01 ∷ 0x09 ∷ 0x04 ∷ 0x4C ∷ 0x00 ∷ 0x00 ∷ 0x02 ∷ [])
    ∷ (0x10 ∷ 0x0D ∷ 0x01 ∷ 0x00 ∷ 0x00 ∷ 0x12 ∷ 0x03 ∷ 0x00 ∷ 0x00 ∷ 0x14 ∷ 0x12 ∷ 0x03 ∷ 0x00 ∷ 0x00 ∷ 0x15 ∷ [])
    ∷ (0x10 ∷ 0x13 ∷ 0x01 ∷ 0x00 ∷ 0x40 ∷ 0x12 ∷ 0x03 ∷ 0x00 ∷ 0x00 ∷ 0x14 ∷ 0x03 ∷ 0x04 ∷ 0x00 ∷ 0x00 ∷ 0x00 ∷ 0x01 ∷ 0x12 ∷ 0x03 ∷ 0x00 ∷ 0x00 ∷ 0x15 ∷ [])
    ∷ (0x10 ∷ 0x0D ∷ 0x81 ∷ 0x00 ∷ 0x40 ∷ 0x12 ∷ 0x03 ∷ 0x00 ∷ 0x00 ∷ 0x14 ∷ 0x12 ∷ 0x03 ∷ 0x00 ∷ 0x00 ∷ 0x15 ∷ [])
    ∷ (0x10 ∷ 0x0D ∷ 0x09 ∷ 0x00 ∷ 0x40 ∷ 0x12 ∷ 0x03 ∷ 0x00 ∷ 0x00 ∷ 0x14 ∷ 0x12 ∷ 0x03 ∷ 0x00 ∷ 0x00 ∷ 0x15 ∷ [])
    ∷ (0x10 ∷ 0x0D ∷ 0x01 ∷ 0x00 ∷ 0x40 ∷ 0xC8 ∷ 0x03 ∷ 0x00 ∷ 0x00 ∷ 0x14 ∷ 0xC8 ∷ 0x03 ∷ 0x00 ∷ 0x00 ∷ 0x15 ∷ [])
    ∷ (0x10 ∷ 0x06 ∷ 0x00 ∷ 0x00 ∷ 0x10 ∷ 0x00 ∷ 0x10 ∷ 0x00 ∷ [])
    ∷ (0x12 ∷ 0x03 ∷ 0x00 ∷ 0x00 ∷ 0x0A ∷ 0x12 ∷ 0x03 ∷ 0x00 ∷ 0x00 ∷ 0x0B ∷ []) ∷ [])
    ≡ fault 8 run_a 10 ∷ fault 4 run_a 10 ∷ fault 8 run_a 10 ∷ fault 8 run_a 10 ∷ fault 8 run_a 10 ∷ fault 8 run_a 16 ∷ accepted ∷ accepted ∷ accepted ∷ accepted ∷ accepted ∷ [])
    × (asked (0x12 ∷ 0x03 ∷ 0x00 ∷ 0x00 ∷ 0x0A ∷ 0x12 ∷ 0x03 ∷ 0x00 ∷ 0x00 ∷ 0x0B ∷ []) [] [] 1092 (standard_no 0) ≡ found (whole 10))
unfolding computing
kind-twice = (refl, refl)

-- L set with both lengths 0 is ignored: it names nobody, and nobody loses the general metric.
l-for-nobody : map (asked (M ++ (0x10 ∷ 0x02 ∷ 0x80 ∷ 0x00 ∷ []) ++ G) [] [] 1092) (standard_no 0 ∷ standard_no 1 ∷ generally ∷ []) ≡ found (whole 10) ∷ found (whole 30) ∷ found (whole 30) ∷ []
unfolding computing
l-for-nobody = refl

-- In B: under 9 bytes; no room for the length byte; a mask too long is ignored; the list past the end; an identifier cut off; one of a wrong length;
-- no identifier, half a pair and a repeat are ignored and their rest is not measured; nor is that of one with L; else the rest must be fours.
faults-in-b :
    map (λ b. link_verdict [] (1 ∷ 0 ∷ b) [])
    (tlv238 8 (0 ∷ []) ∷ tlv238 9 (0 ∷ 0 ∷ []) ∷ tlv238 9 (9 ∷ 0 ∷ []) ∷ tlv238 10 (0 ∷ 0 ∷ 1 ∷ []) ∷ tlv238 11 (0 ∷ 0 ∷ 1 ∷ 4 ∷ []) ∷ tlv238 13 (0 ∷ 0 ∷ 3 ∷ 4 ∷ 1 ∷ 9 ∷ [])
    ∷ tlv238 11 (0 ∷ 0 ∷ 0 ∷ 7 ∷ []) ∷ tlv238 17 (0 ∷ 0 ∷ 6 ∷ 6 ∷ 4 ∷ 0 ∷ 0 ∷ 0 ∷ 1 ∷ 7 ∷ []) ∷ tlv238 31 (0 ∷ 0 ∷ 20 ∷ id_local ++ id_local ++ (7 ∷ []))
    ∷ tlv238 22 (0x81 ∷ 0 ∷ 0x40 ∷ 10 ∷ id_local ++ (7 ∷ [])) ∷ tlv238 21 (0 ∷ 0 ∷ 10 ∷ id_local ++ (7 ∷ [])) ∷ tlv238 22 (0x80 ∷ 0 ∷ 10 ∷ id_local ++ (7 ∷ 7 ∷ [])) ∷ [])
    ≡ fault 3 run_b 2 ∷ fault 3 run_b 2 ∷ accepted ∷ fault 3 run_b 2 ∷ fault 3 run_b 14 ∷ fault 4 run_b 14
    ∷ accepted ∷ accepted ∷ accepted ∷ accepted ∷ fault 4 run_b 2 ∷ accepted ∷ []
unfolding computing tlv238 id_local
faults-in-b = refl

-- Both 6 and 8 serve as well as a 4.
pair-identifies :
    asked [] (tlv238 26 (0 ∷ 0 ∷ 12 ∷ 6 ∷ 4 ∷ 0 ∷ 0 ∷ 0 ∷ 1 ∷ 8 ∷ 4 ∷ 0 ∷ 0 ∷ 0 ∷ 2 ∷ 0 ∷ 0 ∷ 0 ∷ 9 ∷ [])) [] 1096 generally ≡ found (count 1)
unfolding computing tlv238
pair-identifies = refl

-- The named applications of both sides; RSVP-TE is none of them.
named-on-either-side : list_named (link_source (Z ++ (0x10 ∷ 0x03 ∷ 0x00 ∷ 0x01 ∷ 0x80 ∷ [])) (sr_policy_srlg 7 ++ rsvp_te_empty) []) ≡ listed 2 1
unfolding computing tlv238 id_local sr_policy_srlg rsvp_te_empty
named-on-either-side = refl

-- RFC 9294 section 4.1: an ASLA for S, F and X, general SRLGs, and SRLGs for X. S and F get the general SRLGs and share a TLV; X has its own.
-- RSVP-TE, which nothing names, takes the general SRLGs too.
illustration :
    export (meaning (link_source (0x10 ∷ 0x08 ∷ 0x01 ∷ 0x00 ∷ 0x70 ∷ 0x12 ∷ 0x03 ∷ 0x00 ∷ 0x00 ∷ 0x0A ∷ []) (general_srlg 5 ++ tlv238 25 (0x01 ∷ 0x00 ∷ 0x10 ∷ 10 ∷ id_local ++ (0 ∷ 0 ∷ 0 ∷ 6 ∷ []))) []))
    ≡ (0x04 ∷ 0x48 ∷ 0 ∷ 4 ∷ 0 ∷ 0 ∷ 0 ∷ 5 ∷ [])
    ++ (0x04 ∷ 0x62 ∷ 0 ∷ 12 ∷ 0 ∷ 0 ∷ 0 ∷ 0 ∷ 0x04 ∷ 0x48 ∷ 0 ∷ 4 ∷ 0 ∷ 0 ∷ 0 ∷ 5 ∷ [])
    ++ (0x04 ∷ 0x62 ∷ 0 ∷ 24 ∷ 4 ∷ 0 ∷ 0 ∷ 0 ∷ 0x60 ∷ 0 ∷ 0 ∷ 0 ∷ 0x04 ∷ 0x44 ∷ 0 ∷ 4 ∷ 0 ∷ 0 ∷ 0 ∷ 10 ∷ 0x04 ∷ 0x48 ∷ 0 ∷ 4 ∷ 0 ∷ 0 ∷ 0 ∷ 5 ∷ [])
    ++ (0x04 ∷ 0x62 ∷ 0 ∷ 24 ∷ 4 ∷ 0 ∷ 0 ∷ 0 ∷ 0x10 ∷ 0 ∷ 0 ∷ 0 ∷ 0x04 ∷ 0x44 ∷ 0 ∷ 4 ∷ 0 ∷ 0 ∷ 0 ∷ 10 ∷ 0x04 ∷ 0x48 ∷ 0 ∷ 4 ∷ 0 ∷ 0 ∷ 0 ∷ 6 ∷ [])
unfolding computing tlv238 id_local general_srlg
illustration = refl

-- ---- E12: user bits 32 to 63 are retired

-- An ASLA of user 32 alone is neither general nor naming: asking for user 32 is refused by 6, user 31 has the general metric, nobody is named.
retired : List ℕ
retired = 0x10 ∷ 0x0C ∷ 0x00 ∷ 0x05 ∷ 0x00 ∷ 0x00 ∷ 0x00 ∷ 0x00 ∷ 0x80 ∷ 0x12 ∷ 0x03 ∷ 0x00 ∷ 0x00 ∷ 0x14 ∷ []

retired-alone :
    (map (asked (retired ++ G) [] [] 1092) (user_no 32 ∷ user_no 31 ∷ generally ∷ []) ≡ ask_refused (refusal_at 6 run_a 0) ∷ found (whole 30) ∷ found (whole 30) ∷ [])
    × (list_named (link_source (retired ++ G) [] []) ≡ listed 0 0)
    × (export (meaning (link_source (retired ++ G) [] []))
    ≡ (0x04 ∷ 0x44 ∷ 0x00 ∷ 0x04 ∷ 0x00 ∷ 0x00 ∷ 0x00 ∷ 0x1E ∷ [])
    ++ (0x04 ∷ 0x62 ∷ 0x00 ∷ 0x0C ∷ 0x00 ∷ 0x00 ∷ 0x00 ∷ 0x00 ∷ 0x04 ∷ 0x44 ∷ 0x00 ∷ 0x04 ∷ 0x00 ∷ 0x00 ∷ 0x00 ∷ 0x1E ∷ []))
unfolding computing retired
retired-alone = (refl, refl, refl)

-- A user mask of 8 bytes names by its first four; the export writes four.
eight-bytes :
    (list_named (link_source (0x10 ∷ 0x0F ∷ 0x00 ∷ 0x08 ∷ 0x00 ∷ 0x00 ∷ 0x00 ∷ 0x01 ∷ 0x00 ∷ 0x00 ∷ 0x00 ∷ 0x01 ∷ 0x12 ∷ 0x03 ∷ 0x00 ∷ 0x00 ∷ 0x14 ∷ []) [] []) ≡ listed 0 2147483648)
    × (export (meaning (link_source (0x10 ∷ 0x0F ∷ 0x00 ∷ 0x08 ∷ 0x00 ∷ 0x00 ∷ 0x00 ∷ 0x01 ∷ 0x00 ∷ 0x00 ∷ 0x00 ∷ 0x01 ∷ 0x12 ∷ 0x03 ∷ 0x00 ∷ 0x00 ∷ 0x14 ∷ []) [] []))
    ≡ 0x04 ∷ 0x62 ∷ 0x00 ∷ 0x10 ∷ 0x00 ∷ 0x04 ∷ 0x00 ∷ 0x00 ∷ 0x00 ∷ 0x00 ∷ 0x00 ∷ 0x01 ∷ 0x04 ∷ 0x44 ∷ 0x00 ∷ 0x04 ∷ 0x00 ∷ 0x00 ∷ 0x00 ∷ 0x14 ∷ [])
unfolding computing
eight-bytes = (refl, refl)

-- RSVP-TE is named alone beside a retired bit, and not beside user 31; 1089 of a list that names retired bits alone counts, and a wrong length in it is a fault.
abbrev valued : List ℕ → List ℕ → List ℕ → Subject → ℕ → List ℕ
valued a b c whom k = value (link_source a b c) whom k

retired-beside :
    (valued (0x10 ∷ 0x0F ∷ 0x01 ∷ 0x06 ∷ 0x80 ∷ 0x00 ∷ 0x00 ∷ 0x00 ∷ 0x00 ∷ 0x00 ∷ 0x80 ∷ 0x0A ∷ 0x04 ∷ 0x4C ∷ 0x00 ∷ 0x00 ∷ 0x01 ∷ []) [] [] (standard_no 3) 1090 ≡ 0x4C ∷ 0x00 ∷ 0x00 ∷ 0x01 ∷ [])
    × (valued (0x10 ∷ 0x0D ∷ 0x01 ∷ 0x04 ∷ 0x80 ∷ 0x00 ∷ 0x00 ∷ 0x00 ∷ 0x01 ∷ 0x0A ∷ 0x04 ∷ 0x4C ∷ 0x00 ∷ 0x00 ∷ 0x01 ∷ []) [] [] (standard_no 3) 1090 ≡ [])
    × (link_verdict (0x10 ∷ 0x0B ∷ 0x00 ∷ 0x05 ∷ 0x00 ∷ 0x00 ∷ 0x00 ∷ 0x00 ∷ 0x80 ∷ 0x12 ∷ 0x02 ∷ 0x00 ∷ 0x14 ∷ []) [] [] ≡ fault 4 run_a 9)
unfolding computing
retired-beside = (refl, refl, refl)

-- ---- RSVP-TE and the general set

-- RSVP-TE's metric, and the length of the export.
abbrev metric_and_length : List ℕ → Reply × ℕ
metric_and_length a = (asked a [] [] 1092 (standard_no 0), length (export (meaning (link_source a [] []))))

-- Beside G: an ASLA for SR Policy, and a legacy bandwidth, shut nothing out; a legacy group does, and an ASLA that names RSVP-TE, without L and with.
general-in-a :
    map (λ a. metric_and_length (a ++ G))
    ((0x10 ∷ 0x03 ∷ 0x01 ∷ 0x00 ∷ 0x40 ∷ []) ∷ (0x09 ∷ 0x04 ∷ 0x4C ∷ 0x00 ∷ 0x00 ∷ 0x01 ∷ []) ∷ (0x03 ∷ 0x04 ∷ 0x00 ∷ 0x00 ∷ 0x00 ∷ 0x05 ∷ [])
    ∷ (0x10 ∷ 0x03 ∷ 0x01 ∷ 0x00 ∷ 0x80 ∷ []) ∷ (0x10 ∷ 0x03 ∷ 0x81 ∷ 0x00 ∷ 0x80 ∷ []) ∷ [])
    ≡ (found (whole 30), 36) ∷ (found (whole 30), 32) ∷ (absent, 24) ∷ (absent, 16) ∷ (absent, 16) ∷ []
unfolding computing
general-in-a = refl

-- General SRLG 9 in B.
srlg9 : List ℕ
srlg9 =
    0xEE ∷ 0x18 ∷ 0x00 ∷ 0x00 ∷ 0x00 ∷ 0x00 ∷ 0x00 ∷ 0x02 ∷ 0x00 ∷ 0x00 ∷ 0x00 ∷ 0x0A
    ∷ 0x04 ∷ 0x08 ∷ 0x00 ∷ 0x00 ∷ 0x00 ∷ 0x01 ∷ 0x00 ∷ 0x00 ∷ 0x00 ∷ 0x02 ∷ 0x00 ∷ 0x00 ∷ 0x00 ∷ 0x09 ∷ []

-- RSVP-TE's metric and its SRLG.
abbrev metric_and_srlg : List ℕ → List ℕ → Reply × List ℕ
metric_and_srlg a c = (asked a srlg9 c 1092 (standard_no 0), (ask (link_source a srlg9 c) (standard_no 0) 1096 (0 ∷ [])).list)

-- The sides apart: C shuts out what is general in B alone, and a legacy metric what is general in A alone.
general-on-each-side :
    (metric_and_srlg G [] ∷ metric_and_srlg G (0 ∷ 0 ∷ 0 ∷ 1 ∷ []) ∷ metric_and_srlg (M ++ G) [] ∷ []
    ≡ (found (whole 30), 9 ∷ []) ∷ (found (whole 30), 1 ∷ []) ∷ (found (whole 10), 9 ∷ []) ∷ [])
    × (length (export (meaning (link_source G (sr_policy_srlg 7) []))) ≡ 52)
unfolding computing tlv238 id_local sr_policy_srlg srlg9
general-on-each-side = (refl, refl)

-- What is general on both sides, at the top and in its own 1122.
general-twice :
    export (meaning (link_source G srlg9 []))
    ≡ (0x04 ∷ 0x44 ∷ 0x00 ∷ 0x04 ∷ 0x00 ∷ 0x00 ∷ 0x00 ∷ 0x1E ∷ 0x04 ∷ 0x48 ∷ 0x00 ∷ 0x04 ∷ 0x00 ∷ 0x00 ∷ 0x00 ∷ 0x09 ∷ [])
    ++ (0x04 ∷ 0x62 ∷ 0x00 ∷ 0x14 ∷ 0x00 ∷ 0x00 ∷ 0x00 ∷ 0x00 ∷ 0x04 ∷ 0x44 ∷ 0x00 ∷ 0x04 ∷ 0x00 ∷ 0x00 ∷ 0x00 ∷ 0x1E ∷ 0x04 ∷ 0x48 ∷ 0x00 ∷ 0x04 ∷ 0x00 ∷ 0x00 ∷ 0x00 ∷ 0x09 ∷ [])
unfolding computing srlg9
general-twice = refl
