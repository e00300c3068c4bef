-- The definitions on worked values, by computing: each fact pins one rule, so that a slip in it is refused here.
use mathlib.Core.Path.{◌≡◌, refl}
use mathlib.Core.Bool.{Bool, true, false, cond, ◌||◌}
use mathlib.Core.List.{List, [], ◌∷◌, ◌++◌, map}
use Prim.Native.Nat.{ℕ, ◌+◌, ◌^◌}
use lib.Dec.{eqb}
use lib.Ieee.{of_bits, binary32}
use lib.ListN.{length}
use Rattle.linkstate.specs.Lists.{numbers, each}
use Rattle.linkstate.specs.Bytes.{number, two, four, words, distinct}
use Rattle.linkstate.specs.Replies.{accepted, fault, run_a, run_bgp_ls, place, refusal_at, whole, pair, bandwidth, part, count, absent, found, ask_refused, Reply, listed}
use Rattle.linkstate.specs.Elements.{element, cut, elements}
use Rattle.linkstate.specs.Kinds.{codes, link_codes, application_codes, wrong_at_top, wrong_inside}
use Rattle.linkstate.specs.Masks.{bit, in_masks, user, as_number, none, last, last_below, mask_size, mask}
use Rattle.linkstate.specs.Attributes.{Attribute, value_of}
use Rattle.linkstate.specs.Sides.{Advertisement, Side, general, application_set, rsvp_te_kind, bandwidth_kind}
use Rattle.linkstate.specs.Questions.{generally, standard_no, user_no, ask, value, list_named}
use Rattle.linkstate.specs.Meaning.{Meaning}
use Rattle.linkstate.specs.Export.{export}
use Rattle.linkstate.specs.BgpLs.{run_verdict, run_source}
use Rattle.linkstate.specs.Why.{Rule, by_l, by_name, general_asked, unnamed, by_legacy, carried, at_top, rule_number, Why, because, why_refused, held_at, nowhere}
use Rattle.linkstate.specs.RunWhy.{run_why}
use Rattle.linkstate.proofs.Computing.{computing}

-- Whole numbers as tests.
one_of : List ℕ → ℕ → Bool
one_of [] n = false
one_of (m ∷ ms) n = eqb n m || one_of ms n

-- ---- bytes and elements

numbers-read : (number (0x01 ∷ 0x02 ∷ 0x03 ∷ []) ≡ 66051) × (two 1122 ≡ 0x04 ∷ 0x62 ∷ []) × (four 16909060 ≡ 1 ∷ 2 ∷ 3 ∷ 4 ∷ [])
unfolding computing
numbers-read = (refl, refl, refl)

srlgs-ascend-once : distinct (words (0 ∷ 0 ∷ 0 ∷ 9 ∷ 0 ∷ 0 ∷ 0 ∷ 7 ∷ 0 ∷ 0 ∷ 0 ∷ 9 ∷ 0 ∷ 0 ∷ 1 ∷ 0 ∷ 5 ∷ [])) ≡ 7 ∷ 9 ∷ 256 ∷ []
unfolding computing
srlgs-ascend-once = refl

-- One definition for both headers; a lone last byte, a header cut short and a value past the end are cut off where they begin.
one-byte-header : elements 1 100 (0x12 ∷ 3 ∷ 0 ∷ 0 ∷ 10 ∷ 3 ∷ 0 ∷ 7 ∷ []) ≡ element 100 18 (0 ∷ 0 ∷ 10 ∷ []) ∷ element 105 3 [] ∷ cut 107 ∷ []
unfolding computing
one-byte-header = refl

two-byte-header : elements 2 0 (0x04 ∷ 0x44 ∷ 0 ∷ 1 ∷ 9 ∷ 0x04 ∷ 0x44 ∷ 0 ∷ []) ≡ element 0 1092 (9 ∷ []) ∷ cut 5 ∷ []
unfolding computing
two-byte-header = refl

past_the_end : elements 2 0 (0x04 ∷ 0x44 ∷ 0 ∷ 2 ∷ 9 ∷ []) ≡ cut 0 ∷ []
unfolding computing
past_the_end = refl

-- ---- kinds

three-and-eleven : (link_codes ≡ 1089 ∷ 1090 ∷ 1091 ∷ []) × (length application_codes ≡ 11) × (length codes ≡ 14)
unfolding computing
three-and-eleven = (refl, refl, refl)

-- Metric of 4 bytes; extended group from 4 on; SRLG of none at all.
right-lengths : (map (wrong_at_top 1092) (3 ∷ 4 ∷ []) ≡ true ∷ false ∷ []) × (map (wrong_at_top 1173) (0 ∷ 4 ∷ 256 ∷ []) ≡ true ∷ false ∷ false ∷ [])
    × (map (wrong_inside 1096) (0 ∷ 4 ∷ 5 ∷ []) ≡ false ∷ false ∷ true ∷ [])
unfolding computing
right-lengths = (refl, refl, refl)

-- The link's own kinds and 1122 are unknown inside a 1122.
unknown-inside : map (λ k. wrong_inside k 1) (1089 ∷ 1090 ∷ 1091 ∷ 1122 ∷ 1088 ∷ []) ≡ false ∷ false ∷ false ∷ false ∷ true ∷ []
unfolding computing
unknown-inside = refl

-- ---- masks

-- Bit 0 is the top bit of the first byte; bits not sent are 0.
bits-from-the-top : map (bit (0x80 ∷ 0x41 ∷ [])) (0 ∷ 1 ∷ 7 ∷ 8 ∷ 9 ∷ 15 ∷ 16 ∷ 63 ∷ []) ≡ true ∷ false ∷ false ∷ false ∷ true ∷ true ∷ false ∷ false ∷ []
unfolding computing
bits-from-the-top = refl

user-after-standard : map (in_masks (0x40 ∷ []) (0x20 ∷ [])) (1 ∷ 2 ∷ user 1 ∷ user 2 ∷ []) ≡ true ∷ false ∷ false ∷ true ∷ []
unfolding computing
user-after-standard = refl

as-powers : as_number (bit (0x40 ∷ 0 ∷ 0 ∷ 0 ∷ 0 ∷ 0 ∷ 0 ∷ 1 ∷ [])) ≡ 2 + 2 ^ 63
unfolding computing
as-powers = refl

least_size : map (λ n. mask_size (one_of (n ∷ []))) (0 ∷ 31 ∷ 32 ∷ 63 ∷ 64 ∷ []) ≡ 4 ∷ 4 ∷ 8 ∷ 8 ∷ 0 ∷ []
unfolding computing one_of
least_size = refl

last_bit : (last_below 64 (one_of (3 ∷ 41 ∷ [])) ≡ last 41) × (last_below 64 (one_of []) ≡ none)
unfolding computing one_of
last_bit = (refl, refl)

mask-written : mask (one_of (1 ∷ 2 ∷ 33 ∷ [])) ≡ 0x60 ∷ 0 ∷ 0 ∷ 0 ∷ 0x40 ∷ 0 ∷ 0 ∷ 0 ∷ []
unfolding computing one_of
mask-written = refl

-- ---- who gets what

abbrev attribute : ℕ → ℕ → Attribute
attribute k n = record { code = k; at = 0; len = 4; value = four n }

abbrev advertisement : Bool → List ℕ → List ℕ → List Attribute → Advertisement
advertisement l s u ts = record { L = l; standard_mask = s; user_mask = u; attributes = ts }

abbrev metric : ℕ → Attribute
metric n = attribute 1092 n

-- What a side gives SR Policy (1), LFA (2) and user 0, as the metric and the administrative group.
abbrev gets : Side → List (List ℕ)
gets s = each (λ a. value_of 1092 (application_set a s) ∷ value_of 1088 (application_set a s) ∷ []) (1 ∷ 2 ∷ 64 ∷ [])

abbrev legacy_side : List Advertisement → Side
legacy_side ds = record { legacy = metric 10 ∷ []; live = ds }

-- General is judged by both masks; neither general nor naming: a mask without a bit.
general-by-both :
    map general (advertisement false [] [] [] ∷ advertisement false (0 ∷ []) [] [] ∷ advertisement false [] (0x80 ∷ []) [] ∷ []) ≡ true ∷ false ∷ false ∷ []
unfolding computing
general-by-both = refl

-- A user bit alone: SR Policy has the general metric, user 0 its own.
user-alone :
    gets (legacy_side (advertisement false [] (0x80 ∷ []) (metric 20 ∷ []) ∷ advertisement false [] [] (metric 30 ∷ []) ∷ []))
    ≡ four 30 ∷ [] ∷ four 30 ∷ [] ∷ four 20 ∷ [] ∷ []
unfolding computing
user-alone = refl

-- No fallback per kind: SR Policy is named with a metric, so the general administrative group is not its.
no-fallback-per-kind :
    gets (legacy_side (advertisement false (0x40 ∷ []) [] (metric 20 ∷ []) ∷ advertisement false [] [] (metric 30 ∷ attribute 1088 5 ∷ []) ∷ []))
    ≡ four 20 ∷ [] ∷ four 30 ∷ four 5 ∷ four 30 ∷ four 5 ∷ []
unfolding computing
no-fallback-per-kind = refl

-- One L anywhere wins: first, or last.
any-L-wins :
    (gets (legacy_side (advertisement true (0x40 ∷ []) [] [] ∷ advertisement false (0x60 ∷ []) [] (metric 20 ∷ []) ∷ [])) ≡ four 10 ∷ [] ∷ four 20 ∷ [] ∷ [] ∷ [] ∷ [])
    × (gets (legacy_side (advertisement false (0x60 ∷ []) [] (metric 20 ∷ []) ∷ advertisement true (0x40 ∷ []) [] [] ∷ [])) ≡ four 10 ∷ [] ∷ four 20 ∷ [] ∷ [] ∷ [] ∷ [])
unfolding computing
any-L-wins = (refl, refl)

-- The first in byte order, of those that name it.
first-of-those :
    gets (legacy_side (advertisement false (0x40 ∷ []) [] (attribute 1088 7 ∷ []) ∷ advertisement false (0x60 ∷ []) [] (metric 21 ∷ metric 22 ∷ attribute 1088 8 ∷ []) ∷ []))
    ≡ four 21 ∷ four 7 ∷ four 21 ∷ four 8 ∷ [] ∷ [] ∷ []
unfolding computing
first-of-those = refl

-- RSVP-TE mixes with legacy per kind, takes nothing general beside legacy values, and with L only legacy.
abbrev rsvp_te : List Advertisement → List (List ℕ)
rsvp_te ds = map (λ k. value_of k (rsvp_te_kind k (legacy_side ds))) (1092 ∷ 1088 ∷ 1114 ∷ [])

rsvp-te-gets :
    (rsvp_te (advertisement false (0x80 ∷ []) [] (attribute 1088 7 ∷ []) ∷ advertisement false [] [] (attribute 1114 9 ∷ []) ∷ []) ≡ four 10 ∷ four 7 ∷ [] ∷ [])
    × (rsvp_te (advertisement false (0x80 ∷ []) [] (metric 20 ∷ []) ∷ []) ≡ four 20 ∷ [] ∷ [] ∷ [])
    × (rsvp_te (advertisement false (0x80 ∷ []) [] (metric 20 ∷ []) ∷ advertisement true (0x80 ∷ []) [] [] ∷ []) ≡ four 10 ∷ [] ∷ [] ∷ [])
unfolding computing
rsvp-te-gets = (refl, refl, refl)

-- RSVP-TE takes the general set where nothing names it and legacy has none of the eleven kinds: a bandwidth and an SRLG element without a number are none.
-- Legacy of one kind shuts out all, and so does naming without a value, or with L.
abbrev rsvp_te_beside : List Attribute → List Advertisement → List (List ℕ)
rsvp_te_beside ts ds =
    map (λ k. value_of k (rsvp_te_kind k (record { legacy = ts; live = ds ++ (advertisement false [] [] (metric 30 ∷ attribute 1096 9 ∷ []) ∷ []) }))) (1088 ∷ 1092 ∷ 1096 ∷ [])

rsvp-te-takes-general :
    (rsvp_te_beside [] [] ≡ [] ∷ four 30 ∷ four 9 ∷ [])
    × (rsvp_te_beside (attribute 1089 1 ∷ record { code = 1096; at = 0; len = 0; value = [] } ∷ []) (advertisement false (0x40 ∷ []) [] [] ∷ []) ≡ [] ∷ four 30 ∷ four 9 ∷ [])
    × (rsvp_te_beside (attribute 1088 5 ∷ []) [] ≡ four 5 ∷ [] ∷ [] ∷ [])
    × (map (λ l. rsvp_te_beside [] (advertisement l (0x80 ∷ []) [] [] ∷ [])) (false ∷ true ∷ []) ≡ ([] ∷ [] ∷ [] ∷ []) ∷ ([] ∷ [] ∷ [] ∷ []) ∷ [])
unfolding computing
rsvp-te-takes-general = (refl, refl, refl, refl)

-- 1089: legacy, else any live one. 1090: one that names RSVP-TE alone, else legacy; with L only legacy.
abbrev bandwidths : List Attribute → List Advertisement → List (List ℕ)
bandwidths ts ds = map (λ k. value_of k (bandwidth_kind k (record { legacy = ts; live = ds }))) (1089 ∷ 1090 ∷ [])

bandwidths-get :
    (bandwidths [] (advertisement false (0 ∷ []) [] (attribute 1089 1 ∷ attribute 1090 2 ∷ []) ∷ []) ≡ four 1 ∷ [] ∷ [])
    × (bandwidths (attribute 1089 5 ∷ attribute 1090 6 ∷ []) (advertisement false (0x80 ∷ []) (0 ∷ []) (attribute 1089 1 ∷ attribute 1090 2 ∷ []) ∷ []) ≡ four 5 ∷ four 2 ∷ [])
    × (bandwidths (attribute 1090 6 ∷ []) (advertisement false (0x80 ∷ []) (0x80 ∷ []) (attribute 1090 2 ∷ []) ∷ []) ≡ [] ∷ four 6 ∷ [])
    × (bandwidths (attribute 1090 6 ∷ []) (advertisement true (0xC0 ∷ []) [] [] ∷ advertisement false (0x80 ∷ []) [] (attribute 1090 2 ∷ []) ∷ []) ≡ [] ∷ four 6 ∷ [])
unfolding computing
bandwidths-get = (refl, refl, refl, refl)

-- ---- the export

-- A meaning with only metrics: RSVP-TE's, the general one, and those of the named applications, 0 for absent.
abbrev metric_alone : ℕ → ℕ → List ℕ
metric_alone n k = cond (eqb k 1092) (cond (eqb n 0) [] (four n)) []

abbrev meaning_of : ℕ → ℕ → List ℕ → (ℕ → ℕ) → Meaning
meaning_of top gen apps set =
    record { bandwidth = λ k. []; rsvp_te = metric_alone top; general = metric_alone gen; named = one_of apps; set = λ a. metric_alone (set a) }

-- Equal sets share a TLV wherever they stand: SR Policy and user 0 have 20, LFA 21.
grouped :
    export (meaning_of 0 0 (1 ∷ 2 ∷ 64 ∷ []) (λ a. cond (eqb a 2) 21 20))
    ≡ (0x04 ∷ 0x62 ∷ 0 ∷ 20 ∷ 4 ∷ 4 ∷ 0 ∷ 0 ∷ 0x40 ∷ 0 ∷ 0 ∷ 0 ∷ 0x80 ∷ 0 ∷ 0 ∷ 0 ∷ 0x04 ∷ 0x44 ∷ 0 ∷ 4 ∷ 0 ∷ 0 ∷ 0 ∷ 20 ∷ [])
    ++ (0x04 ∷ 0x62 ∷ 0 ∷ 16 ∷ 4 ∷ 0 ∷ 0 ∷ 0 ∷ 0x20 ∷ 0 ∷ 0 ∷ 0 ∷ 0x04 ∷ 0x44 ∷ 0 ∷ 4 ∷ 0 ∷ 0 ∷ 0 ∷ 21 ∷ [])
unfolding computing one_of
grouped = refl

-- A named application with an empty set is written; an empty general set is not.
empty-named : export (meaning_of 0 0 (1 ∷ []) (λ a. 0)) ≡ 0x04 ∷ 0x62 ∷ 0 ∷ 8 ∷ 4 ∷ 0 ∷ 0 ∷ 0 ∷ 0x40 ∷ 0 ∷ 0 ∷ 0 ∷ []
unfolding computing one_of
empty-named = refl

-- Between 1120 and 1173, and inner TLVs ascend.
ascending-types :
    export (record { bandwidth = λ k. []; rsvp_te = λ k. cond (eqb k 1173 || eqb k 1120) (four k) []; general = λ k. cond (eqb k 1173 || eqb k 1088) (four k) []; named = one_of []; set = λ a k. [] })
    ≡ (0x04 ∷ 0x60 ∷ 0 ∷ 4 ∷ 0 ∷ 0 ∷ 4 ∷ 0x60 ∷ [])
    ++ (0x04 ∷ 0x62 ∷ 0 ∷ 20 ∷ 0 ∷ 0 ∷ 0 ∷ 0 ∷ 0x04 ∷ 0x40 ∷ 0 ∷ 4 ∷ 0 ∷ 0 ∷ 4 ∷ 0x40 ∷ 0x04 ∷ 0x95 ∷ 0 ∷ 4 ∷ 0 ∷ 0 ∷ 4 ∷ 0x95 ∷ [])
    ++ (0x04 ∷ 0x95 ∷ 0 ∷ 4 ∷ 0 ∷ 0 ∷ 4 ∷ 0x95 ∷ [])
unfolding computing one_of
ascending-types = refl

-- ---- the reader

-- Verdicts: under 4 value bytes; a length other than 0, 4, 8 ignored; masks past the end; an inner length; a 1089 inside is unknown; a cut header.
asla : ℕ → List ℕ → List ℕ
asla n v = 0x04 ∷ 0x62 ∷ 0 ∷ n ∷ v

reader-verdicts :
    map run_verdict
    (asla 3 (0 ∷ 0 ∷ 0 ∷ []) ∷ asla 4 (5 ∷ 0 ∷ 0 ∷ 0 ∷ []) ∷ asla 4 (4 ∷ 0 ∷ 0 ∷ 0 ∷ []) ∷ asla 11 (0 ∷ 0 ∷ 9 ∷ 9 ∷ 0x04 ∷ 0x44 ∷ 0 ∷ 3 ∷ 0 ∷ 0 ∷ 1 ∷ [])
    ∷ asla 9 (0 ∷ 0 ∷ 0 ∷ 0 ∷ 0x04 ∷ 0x41 ∷ 0 ∷ 1 ∷ 7 ∷ []) ∷ (0x04 ∷ 0x44 ∷ 0 ∷ 0 ∷ []) ∷ (0 ∷ 1 ∷ 0 ∷ 0 ∷ 0x04 ∷ []) ∷ [])
    ≡ fault 3 run_bgp_ls 0 ∷ accepted ∷ fault 3 run_bgp_ls 0 ∷ fault 4 run_bgp_ls 8 ∷ accepted ∷ fault 4 run_bgp_ls 0 ∷ fault 3 run_bgp_ls 4 ∷ []
unfolding computing asla
reader-verdicts = refl

-- E5c. The same kind twice inside a 1122: 8 at the second, of SRLGs too, empty ones among them; not of the link's kinds, which are unknown there; not in a 1122 that is
-- ignored, nor at the top level.
kind-twice :
    map run_verdict
    ((0x04 ∷ 0x62 ∷ 0x00 ∷ 0x18 ∷ 0x04 ∷ 0x00 ∷ 0x00 ∷ 0x00 ∷ 0x40 ∷ 0x00 ∷ 0x00 ∷ 0x00 ∷ 0x04 ∷ 0x44 ∷ 0x00 ∷ 0x04 ∷ 0x00 ∷ 0x00 ∷ 0x00 ∷ 0x14 ∷ 0x04 ∷ 0x44 ∷ 0x00 ∷ 0x04 ∷ 0x00 ∷ 0x00 ∷ 0x00 ∷ 0x15 ∷ [])
    ∷ (0x04 ∷ 0x62 ∷ 0x00 ∷ 0x10 ∷ 0x04 ∷ 0x00 ∷ 0x00 ∷ 0x00 ∷ 0x40 ∷ 0x00 ∷ 0x00 ∷ 0x00 ∷ 0x04 ∷ 0x48 ∷ 0x00 ∷ 0x00 ∷ 0x04 ∷ 0x48 ∷ 0x00 ∷ 0x00 ∷ [])
    ∷ (0x04 ∷ 0x62 ∷ 0x00 ∷ 0x13 ∷ 0x04 ∷ 0x00 ∷ 0x00 ∷ 0x00 ∷ 0x40 ∷ 0x00 ∷ 0x00 ∷ 0x00 ∷ 0x04 ∷ 0x48 ∷ 0x00 ∷ 0x00 ∷ 0x04 ∷ 0x48 ∷ 0x00 ∷ 0x03 ∷ 0x00 ∷ 0x00 ∷ 0x00 ∷ [])
    ∷ (0x04 ∷ 0x62 ∷ 0x00 ∷ 0x18 ∷ 0x04 ∷ 0x00 ∷ 0x00 ∷ 0x00 ∷ 0x40 ∷ 0x00 ∷ 0x00 ∷ 0x00 ∷ 0x04 ∷ 0x41 ∷ 0x00 ∷ 0x04 ∷ 0x00 ∷ 0x00 ∷ 0x00 ∷ 0x14 ∷ 0x04 ∷ 0x41 ∷ 0x00 ∷ 0x04 ∷ 0x00 ∷ 0x00 ∷ 0x00 ∷ 0x15 ∷ [])
    ∷ (0x04 ∷ 0x62 ∷ 0x00 ∷ 0x18 ∷ 0x05 ∷ 0x00 ∷ 0x00 ∷ 0x00 ∷ 0x40 ∷ 0x00 ∷ 0x00 ∷ 0x00 ∷ 0x04 ∷ 0x44 ∷ 0x00 ∷ 0x04 ∷ 0x00 ∷ 0x00 ∷ 0x00 ∷ 0x14 ∷ 0x04 ∷ 0x44 ∷ 0x00 ∷ 0x04 ∷ 0x00 ∷ 0x00 ∷ 0x00 ∷ 0x15 ∷ [])
    ∷ (0x04 ∷ 0x48 ∷ 0x00 ∷ 0x04 ∷ 0x00 ∷ 0x00 ∷ 0x00 ∷ 0x09 ∷ 0x04 ∷ 0x48 ∷ 0x00 ∷ 0x04 ∷ 0x00 ∷ 0x00 ∷ 0x00 ∷ 0x07 ∷ []) ∷ [])
    ≡ fault 8 run_bgp_ls 20 ∷ fault 8 run_bgp_ls 16 ∷ fault 4 run_bgp_ls 16 ∷ accepted ∷ accepted ∷ accepted ∷ []
unfolding computing
kind-twice = refl

-- Standard bit 0 is ignored: a 1122 with that bit alone is neither general nor naming, so its metric is nobody's.
abbrev metrics_of : List ℕ → List Reply
metrics_of r = map (λ whom. (ask (run_source r) whom 1092 []).reply) (generally ∷ standard_no 0 ∷ standard_no 1 ∷ user_no 0 ∷ [])

bit-0-ignored :
    metrics_of (asla 16 (4 ∷ 0 ∷ 0 ∷ 0 ∷ 0x80 ∷ 0 ∷ 0 ∷ 0 ∷ 0x04 ∷ 0x44 ∷ 0 ∷ 4 ∷ 0 ∷ 0 ∷ 0 ∷ 20 ∷ [])) ≡ absent ∷ absent ∷ absent ∷ absent ∷ []
unfolding computing asla
bit-0-ignored = refl

-- A user mask alone makes no general set of the reader's either; the top level is RSVP-TE's.
reader-gives :
    metrics_of ((0x04 ∷ 0x44 ∷ 0 ∷ 4 ∷ 0 ∷ 0 ∷ 0 ∷ 10 ∷ []) ++ asla 16 (0 ∷ 4 ∷ 0 ∷ 0 ∷ 0x80 ∷ 0 ∷ 0 ∷ 0 ∷ 0x04 ∷ 0x44 ∷ 0 ∷ 4 ∷ 0 ∷ 0 ∷ 0 ∷ 20 ∷ []))
    ≡ absent ∷ found (whole 10) ∷ absent ∷ found (whole 20) ∷ []
unfolding computing asla
reader-gives = refl

-- ---- questions

-- A run with a delay pair, two bandwidths, an extended group, and SRLGs 9, 7, 9 in two TLVs.
readings-run : List ℕ
readings-run =
    (0x04 ∷ 0x5B ∷ 0 ∷ 8 ∷ 0x80 ∷ 0 ∷ 0 ∷ 1 ∷ 0 ∷ 0 ∷ 0 ∷ 2 ∷ []) ++ (0x04 ∷ 0x41 ∷ 0 ∷ 4 ∷ 0x3F ∷ 0x80 ∷ 0 ∷ 0 ∷ []) ++ (0x04 ∷ 0x42 ∷ 0 ∷ 4 ∷ 0xFF ∷ 0xC0 ∷ 0 ∷ 1 ∷ [])
    ++ (0x04 ∷ 0x95 ∷ 0 ∷ 4 ∷ 1 ∷ 2 ∷ 3 ∷ 4 ∷ []) ++ (0x04 ∷ 0x48 ∷ 0 ∷ 8 ∷ 0 ∷ 0 ∷ 0 ∷ 9 ∷ 0 ∷ 0 ∷ 0 ∷ 7 ∷ []) ++ (0x04 ∷ 0x48 ∷ 0 ∷ 4 ∷ 0 ∷ 0 ∷ 0 ∷ 9 ∷ [])

abbrev rsvp_te_asked : ℕ → List ℕ → Reply
rsvp_te_asked k list = (ask (run_source readings-run) (standard_no 0) k list).reply

-- Each form of reading, by place where there is one; a NaN pattern is the one NaN.
readings :
    map (λ k. rsvp_te_asked k (5 ∷ 5 ∷ 5 ∷ [])) (1115 ∷ 1089 ∷ 1090 ∷ 1173 ∷ 1096 ∷ 1088 ∷ [])
    ≡ found (pair 2147483649 2) ∷ found (bandwidth (of_bits binary32 1065353216)) ∷ found (bandwidth (of_bits binary32 4290772993))
    ∷ found (part (place run_bgp_ls 32) 4) ∷ found (count 2) ∷ absent ∷ []
unfolding computing readings-run
readings = refl

-- The SRLGs stand ascending at the list's front and nothing else is written; one entry is too little, 5, and stays.
srlg-list :
    (ask (run_source readings-run) (standard_no 0) 1096 (5 ∷ 5 ∷ 5 ∷ []) ≡ record { reply = found (count 2); list = 7 ∷ 9 ∷ 5 ∷ [] })
    × (ask (run_source readings-run) (standard_no 0) 1096 (5 ∷ []) ≡ record { reply = ask_refused (refusal_at 5 run_a 0); list = 5 ∷ [] })
    × (ask (run_source []) (standard_no 0) 1096 [] ≡ record { reply = absent; list = [] })
unfolding computing readings-run
srlg-list = (refl, refl, refl)

-- 6 before 7 before the run's own faults; the general set has no number.
order-of-refusals :
    map (λ q. (q []).reply)
    (ask (run_source (4 ∷ [])) (user_no 64) 9999 ∷ ask (run_source (4 ∷ [])) (standard_no 63) 9999 ∷ ask (run_source (4 ∷ [])) generally 1092 ∷ [])
    ≡ ask_refused (refusal_at 6 run_a 0) ∷ ask_refused (refusal_at 7 run_a 0) ∷ ask_refused (refusal_at 3 run_bgp_ls 0) ∷ []
unfolding computing
order-of-refusals = refl

-- The part is the value's own bytes; none for 1096.
parts : (value (run_source readings-run) (standard_no 0) 1173 ≡ 1 ∷ 2 ∷ 3 ∷ 4 ∷ []) × (value (run_source readings-run) (standard_no 0) 1096 ≡ []) × (value (run_source readings-run) (user_no 64) 1173 ≡ [])
unfolding computing readings-run
parts = (refl, refl, refl)

named-as-powers : list_named (run_source (asla 12 (4 ∷ 4 ∷ 0 ∷ 0 ∷ 0xE0 ∷ 0 ∷ 0 ∷ 0 ∷ 0x80 ∷ 0 ∷ 0 ∷ 0 ∷ []))) ≡ listed 6 1
unfolding computing asla
named-as-powers = refl

-- ---- why

rule-numbers : map rule_number (by_l ∷ by_name ∷ general_asked ∷ unnamed ∷ by_legacy ∷ carried ∷ at_top ∷ []) ≡ numbers 0 7
unfolding computing
rule-numbers = refl

-- A metric at the top; 1122s for SR Policy, the first with SRLG 7 and the second with the metric; a general one with an SRLG TLV of no value, and one with the metric.
why-run : List ℕ
why-run =
    (0x04 ∷ 0x44 ∷ 0 ∷ 4 ∷ 0 ∷ 0 ∷ 0 ∷ 10 ∷ []) ++ asla 16 (4 ∷ 0 ∷ 0 ∷ 0 ∷ 0x40 ∷ 0 ∷ 0 ∷ 0 ∷ 0x04 ∷ 0x48 ∷ 0 ∷ 4 ∷ 0 ∷ 0 ∷ 0 ∷ 7 ∷ [])
    ++ asla 16 (4 ∷ 0 ∷ 0 ∷ 0 ∷ 0xC0 ∷ 0 ∷ 0 ∷ 0 ∷ 0x04 ∷ 0x44 ∷ 0 ∷ 4 ∷ 0 ∷ 0 ∷ 0 ∷ 20 ∷ [])
    ++ asla 8 (0 ∷ 0 ∷ 0 ∷ 0 ∷ 0x04 ∷ 0x48 ∷ 0 ∷ 0 ∷ []) ++ asla 12 (0 ∷ 0 ∷ 0 ∷ 0 ∷ 0x04 ∷ 0x44 ∷ 0 ∷ 4 ∷ 0 ∷ 0 ∷ 0 ∷ 30 ∷ [])

abbrev in_run : Rule → ℕ → Why
in_run x n = because x (held_at (place run_bgp_ls n))

-- Bandwidths, whoever asks, and RSVP-TE's kinds stand at the top; SR Policy is named, of the metric in the second 1122, of the rest in the first; others have the general set.
run-rules :
    (map (λ whom. run_why why-run whom 1092) (standard_no 0 ∷ standard_no 1 ∷ standard_no 2 ∷ user_no 1 ∷ generally ∷ [])
    ≡ because at_top nowhere ∷ in_run by_name 28 ∷ in_run unnamed 60 ∷ in_run unnamed 60 ∷ in_run general_asked 60 ∷ [])
    × (map (run_why why-run (standard_no 1)) (1114 ∷ 1096 ∷ 1089 ∷ []) ≡ in_run by_name 8 ∷ in_run by_name 8 ∷ because at_top nowhere ∷ [])
    × (map (run_why why-run generally) (1114 ∷ 1096 ∷ 1091 ∷ []) ≡ because general_asked nowhere ∷ because general_asked nowhere ∷ because at_top nowhere ∷ [])
    × (map (run_why why-run (standard_no 2)) (1114 ∷ 1096 ∷ []) ≡ because unnamed nowhere ∷ because unnamed nowhere ∷ [])
unfolding computing asla why-run
run-rules = (refl, refl, refl, refl)

-- Of general SRLGs the first 1122, if any has a number.
run-general-srlgs : run_why (why-run ++ asla 12 (0 ∷ 0 ∷ 0 ∷ 0 ∷ 0x04 ∷ 0x48 ∷ 0 ∷ 4 ∷ 0 ∷ 0 ∷ 0 ∷ 9 ∷ [])) generally 1096 ≡ in_run general_asked 48
unfolding computing asla why-run
run-general-srlgs = refl

run-refusals :
    run_why (4 ∷ []) (user_no 64) 9999 ∷ run_why (4 ∷ []) (standard_no 63) 9999 ∷ run_why (4 ∷ []) generally 1092 ∷ []
    ≡ why_refused (refusal_at 6 run_a 0) ∷ why_refused (refusal_at 7 run_a 0) ∷ why_refused (refusal_at 3 run_bgp_ls 0) ∷ []
unfolding computing
run-refusals = refl
