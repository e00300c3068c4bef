-- What is signed for, whatever the protocol: demands 2 and 3 as far as they are about definitions, of a meaning and of a link, and what accepted means.
-- A person signs this file and demands/specs/Demands.antt, which says it of IS-IS links and of BGP-LS runs.
use Rattle.std.specs.Prelude.{◌≡◌, ℕ, ◌≤◌, length}
use mathlib.Core.List.{List, [], ◌∷◌, Memᴰ}
use Rattle.linkstate.specs.Replies.{Verdict, accepted, Exported}
use Rattle.linkstate.specs.Questions.{Source}
use Rattle.linkstate.specs.Meaning.{Meaning, meaning, Same}
use Rattle.linkstate.specs.Export.{tlv, tlvs, export}
use Rattle.linkstate.specs.BgpLs.{udabm_length, run_verdict, run_source}
use Rattle.linkstate.specs.Rival.{IsRival}
use Rattle.rivals.specs.Reads.{Sent, in_bgp_ls, AnsweredBy}
use Rattle.rivals.specs.Refusing.{Only5Refuses, Only567Refuse, RefusesBy}

-- Of the meaning of an accepted link; `most` and `longest` bound its export.
pub record OfMeaning (m : Meaning) (most longest : ℕ) : Type 0 where
  -- Demand 2: our bytes, read by our reader, give the same bandwidths, RSVP-TE set, general set, named applications, and set for each,
  pub round_trip : Same m (meaning (run_source (export m)))
  -- so that every question to them, and their list of named applications, are answered by the meaning;
  pub read_back : AnsweredBy (run_source (export m)) in_bgp_ls m
  -- demand 3: no rival is shorter than our export, be it any bytes in any order,
  pub shortest : (r : List ℕ) → IsRival m r → length (export m) ≤ length r
  -- and our export is one of the rivals: accepted by the reader, of this meaning, naming each application in exactly one ASLA TLV;
  pub rival : IsRival m (export m)
  -- the bounds: an export is within what the reader takes, and every length fits its two bytes.
  pub bound : length (export m) ≤ most
  pub lengths : (t : ℕ) (v : List ℕ) → Memᴰ (tlv t v) (tlvs m) → length v ≤ longest
  -- E12c. No user mask in it has 8 bytes.
  pub user_masks : (v : List ℕ) → Memᴰ (tlv 1122 v) (tlvs m) → udabm_length v ≤ 4

-- Of an accepted link: s is what questions to it find, `sent` how its run has a value.
pub record OfLink (s : Source) (sent : Sent) (most longest : ℕ) : Type 0 where
  -- Demand 2: every question to the link, of any application, and its list of named applications, are answered by its meaning,
  pub answers : AnsweredBy s sent (meaning s)
  -- and what is said of its meaning.
  pub exported : OfMeaning (meaning s) most longest

-- L18. What accepted means, of a link with these checks and this export:
pub record LinkAccepted (of_checks : List ℕ) (checks : Verdict) (exported : List ℕ → Exported) : Type 0 where
  -- where the checks accept it, no number but 5 refuses its export,
  pub only5 : checks ≡ accepted → Only5Refuses exported
  -- where no number but 5 refuses its export, the checks accept it,
  pub accepts : Only5Refuses exported → checks ≡ accepted
  -- and the checks refuse by their numbers alone.
  pub numbers : RefusesBy of_checks checks

-- L18, E5a. What accepted means, of a BGP-LS run: the same with questions, 5, 6 and 7; its checks refuse by 1, 3, 4 or 8 alone.
pub record RunAccepted (r : List ℕ) : Type 0 where
  pub only567 : run_verdict r ≡ accepted → Only567Refuse (run_source r)
  pub accepts : Only567Refuse (run_source r) → run_verdict r ≡ accepted
  pub numbers : RefusesBy (1 ∷ 3 ∷ 4 ∷ 8 ∷ []) (run_verdict r)
