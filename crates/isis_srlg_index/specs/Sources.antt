-- What one TLV of run B says of SRLGs, and the keys and sources that it adds.
use Rattle.std.specs.Prelude.{◌≡◌, true, false, cond, ◌&&◌, ◌||◌, eqb, List, [], map, ◌++◌, ℕ, ◌+◌, ◌*◌, ◌/◌, ◌≤◌, ◌<◌, length, get_or, set, take, drop, Option, Some, None}
use Rattle.linkstate.specs.Limits.{most_numbers}
use Rattle.linkstate.specs.Lists.{put, each, all, member}
use Rattle.linkstate.specs.Bytes.{words}
use Rattle.linkstate.specs.Elements.{Element, elements, faults}
use Rattle.masks.specs.Sets.{turned_place}
use Rattle.srlg_ranks.specs.Ranks.{in_words}
use Rattle.srlg_classes.specs.Sided.{carried, Carried, Sourced}
use Rattle.linkstate.specs.Sides.{Side, names}
use Rattle.isis.specs.MaskHeader.{sabm_length, udabm_length, header_length, mask_too_long, advertisement}
use Rattle.isis.specs.RunB.{identifier_bytes, check_b, side_b}
use Rattle.linkstate.specs.Replies.{accepted, run_b}
use Rattle.rules.specs.Names.{Tells}
use Rattle.masks.specs.declared.Applications.{Applications}
use Rattle.masks.specs.Applications.{in_set}
use Rattle.rules.specs.declared.Names.{Names}
use Rattle.srlg_sources.specs.declared.Keys.{Keys}
use Rattle.srlg_sources.specs.Sources.{Small, key_of, in_rows, numbers_of, source_row}
use Rattle.srlg_table.specs.Blocks.{named_by}
use Rattle.isis_check_a.specs.declared.Header.{Header}
use Rattle.isis_check_a.specs.Headers.{header_of}
use Rattle.isis_tlvs_238.specs.declared.Which.{Which}
use Rattle.isis_tlvs_238.specs.declared.Which.TheVariants.{Naming, General}
use Rattle.isis_tlvs_238.specs.Selected.{words_in}
use Rattle.isis_srlg_index.specs.declared.Tlv.{Tlv}
use Rattle.isis_srlg_index.specs.declared.Indexed.{Indexed}

-- The least length of a TLV's value that is for some application and has a number: neighbour 7, mask lengths 2, a mask byte, the identifiers' length byte,
-- identifiers 10 (a 4 is the shortest that tells a link), the number 4.
abbrev pub least_value : ℕ
least_value = 25

-- A TLV that passed its checks, at some place of the run.
abbrev pub Passed : ℕ → List ℕ → Type 0
Passed t value = (at : ℕ) × (check_b at t value ≡ accepted)

-- A TLV 238 that can be read, by what follows its neighbour bytes: its header is h, its masks are not too long, and they and the identifiers lie within it.
pub record Readable (v : List ℕ) (h : Header) : Type 0 where
  pub header : h ≡ header_of v
  pub masks : mask_too_long v ≡ false
  pub inside : header_length v + 1 + identifier_bytes v ≤ length v
  pub size : length v ≤ 2048

-- What is read of a live TLV 238 without L, by what follows its neighbour bytes.
pub record Lives (v : List ℕ) (r : Tlv) : Type 0 where
  pub named : (n : ℕ) → in_set r.who n ≡ names n (advertisement v [])
  pub general : r.general ≡ (eqb (sabm_length v) 0 && eqb (udabm_length v) 0)
  pub start : r.start ≡ 7 + (header_length v + 1 + identifier_bytes v)

-- What is read of a TLV with this value: its SRLG numbers are for those that its masks name, or are general ones, where it has no mask.
pub record Says (e : Element) (value : List ℕ) (r : Tlv) : Type 0 where
  pub naming : (n : ℕ) → words_in (Naming n) e ≡ cond (in_set r.who n) (words (drop r.start value)) []
  pub generals : words_in General e ≡ cond r.general (words (drop r.start value)) []
  pub apart : r.general ≡ true → (n : ℕ) → in_set r.who n ≡ false
  pub within : r.start ≤ length value
  pub head : r.start + 4 ≤ length value → r.general ≡ false → least_value ≤ length value

-- The same, if anything is read; else the TLV has no number for anybody.
abbrev pub Reads : Element → List ℕ → Option Tlv → Type 0
Reads e value None = (w : Which) → words_in w e ≡ []
Reads e value (Some r) = Says e value r

-- A TLV of run B that passed its checks, and room for its numbers and for a source more.
pub record RoomAt (t : ℕ) (value keys : List ℕ) (rows : List (List ℕ)) (k : Keys) : Type 0 where
  pub passed : Passed t value
  pub size : length value ≤ 2048
  pub few : (2 ≤ k.sources) × (k.sources < 128)
  pub numbers : k.count + length value / 4 ≤ length keys
  pub source : least_value ≤ length value → k.sources < length rows

-- The keys and rows after a TLV: as they were, with general numbers more, or with a source more.
pub data Adds (e : Element) (keys : List ℕ) (rows : List (List ℕ)) (k : Keys) (r : Keys) (keys' : List ℕ) (rows' : List (List ℕ)) : Type 0 where
  nothing : ((n : ℕ) → words_in (Naming n) e ≡ []) → words_in General e ≡ [] → r ≡ k → keys' ≡ keys → rows' ≡ rows → Adds e keys rows k r keys' rows'
  generals : ((n : ℕ) → words_in (Naming n) e ≡ []) → Small (words_in General e) → r.count ≡ k.count + length (words_in General e) → r.sources ≡ k.sources
      → keys' ≡ put keys k.count (map (key_of 1) (words_in General e)) → rows' ≡ rows → Adds e keys rows k r keys' rows'
  source : (who : Applications) (ws : List ℕ) → 0 < length ws → Small ws → ((n : ℕ) → words_in (Naming n) e ≡ cond (in_set who n) ws []) → words_in General e ≡ []
      → r.count ≡ k.count + length ws → r.sources ≡ k.sources + 1 → keys' ≡ put keys k.count (map (key_of k.sources) ws)
      → rows' ≡ set rows k.sources (source_row who.standard who.user)
      → Adds e keys rows k r keys' rows'

-- The keys and sources of the TLVs before an offset: with the numbers of the elements that are left there, they are those of all.
pub record Gathering (b : List ℕ) (es : List Element) (at : ℕ) (keys₀ keys : List ℕ) (rows : List (List ℕ)) (k : Keys) : Type 0 where
  pub written : List ℕ
  pub count : k.count ≡ length written
  pub list : keys ≡ put keys₀ 0 written
  pub few : (2 ≤ k.sources) × (27 * k.sources ≤ 54 + at)
  pub low : all (in_rows k.sources) written ≡ true
  pub wide : (j : ℕ) → j < k.sources → length (get_or rows j []) ≡ 18
  pub blank : (j i : ℕ) → j < k.sources → i < most_numbers → in_words (get_or rows j []) i ≡ false
  pub none : numbers_of 0 written ≡ []
  pub filled : (j : ℕ) → 1 < j → j < k.sources → (v : ℕ) × (member v (numbers_of j written) ≡ true)
  pub general : numbers_of 1 written ++ each (words_in General) es ≡ each (words_in General) (elements 1 0 b)
  pub naming : (a v : ℕ) → a < 128
      → carried rows k.sources written (turned_place a) v || member v (each (words_in (Naming a)) es)
      ≡ member v (each (words_in (Naming a)) (elements 1 0 b))

-- All of run B.
abbrev pub Gathered : List ℕ → List ℕ → List ℕ → List (List ℕ) → Keys → Type 0
Gathered b keys₀ keys rows k = Gathering b [] (length b) keys₀ keys rows k

-- Run C need not be read: nobody is named with L, and some source has a number for RSVP-TE.
pub record Unused (who : Names) (rows : List (List ℕ)) (sources : ℕ) : Type 0 where
  pub nobody : (n : ℕ) → in_set who.flagged n ≡ false
  pub source : (j : ℕ) × (1 < j) × (j < sources) × (named_by rows j 7 ≡ true)

-- What is known where run C is taken or not: all of run B was gathered in a list that was `keys₀`, and the names are those of its advertisements.
pub record Legacy (b c : List ℕ) (named : Names) (keys₀ keys : List ℕ) (rows : List (List ℕ)) (k : Keys) : Type 0 where
  pub gathered : Gathered b keys₀ keys rows k
  pub short : length b ≤ 2048
  pub size : length keys ≡ length keys₀
  pub tells : Tells (side_b b c).live named

-- What the keys and rows are then: those of the side, for any run B.
abbrev pub WithLegacy : List ℕ → Names → List ℕ → List (List ℕ) → Keys → Keys → List ℕ → Type 0
WithLegacy c named keys rows k r keys' = (b keys₀ : List ℕ) → Legacy b c named keys₀ keys rows k → Carried (take r.count keys') rows r.sources (side_b b c)

-- Room for the keys and sources of runs B and C, by lengths: a number takes four bytes, and a TLV with a source 27 at least.
pub record Room (b c keys rows : ℕ) : Type 0 where
  pub short : (b ≤ 2048) × (c ≤ 1024)
  pub numbers : b / 4 + c / 4 ≤ keys
  pub sources : 2 + b / 27 ≤ rows

-- What is asked for: a run B that passed its checks, whom it names, and room.
pub record Ready (b c : List ℕ) (named : Names) (keys rows : ℕ) : Type 0 where
  pub passed : faults run_b check_b (elements 1 0 b) ≡ accepted
  pub tells : Tells (side_b b c).live named
  pub room : Room (length b) (length c) keys rows

-- The SRLGs of a side, ranked.
pub record Indexes (side : Side) (values : List ℕ) (rows : List (List ℕ)) (r : Indexed) : Type 0 where
  pub sourced : Sourced (take r.count values) rows r.sources side
  pub small : Small (take r.count values)
  pub few : (r.count ≤ 768) × (r.count ≤ length values)
  pub used : (2 ≤ r.sources) × (r.sources ≤ 128) × (r.sources ≤ length rows)
