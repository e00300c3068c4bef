-- What is signed for, of every IS-IS link and every BGP-LS run: demands 2 and 3, as far as they are about definitions, and what accepted means. A person signs
-- this file and rivals/specs/Signed.antt, which has the statements over any meaning; `demands` in proofs/Demands.antt proves it.
use Rattle.std.specs.Prelude.{cond, List, [], ◌∷◌, ℕ, eqb, drop}
use Rattle.linkstate.specs.Limits.{most_of_isis, longest_of_isis}
use Rattle.linkstate.specs.Meaning.{Meaning, meaning, Accepted}
use Rattle.linkstate.specs.Export.{export}
use Rattle.linkstate.specs.BgpLs.{run_source}
use Rattle.isis.specs.Link.{link_verdict, link_source, export_link}
use Rattle.rivals.specs.Reads.{Sent, in_bgp_ls, AnsweredBy}
use Rattle.rivals.specs.Signed.{OfLink, LinkAccepted, RunAccepted}

-- An IS-IS link's meaning, and the bytes that it is written as.
abbrev pub meaning_of : List ℕ → List ℕ → List ℕ → Meaning
meaning_of a b c = meaning (link_source a b c)

abbrev pub export_of : List ℕ → List ℕ → List ℕ → List ℕ
export_of a b c = export (meaning_of a b c)

-- K1. How run A has a value: that of a TE metric without the zero that BGP-LS has in front, every other as BGP-LS has it.
abbrev pub in_a : Sent
in_a k v = cond (eqb k 1092) (drop 1 v) v

-- R1 to R4, E5a. What the checks of a link refuse by.
abbrev pub of_checks : List ℕ
of_checks = 1 ∷ 2 ∷ 3 ∷ 4 ∷ 8 ∷ []

pub record Demands : Type 0 where
  -- Demands 2 and 3 hold of every accepted IS-IS link, whatever its bytes.
  pub links : (a b c : List ℕ) → Accepted (link_source a b c) → OfLink (link_source a b c) in_a most_of_isis longest_of_isis
  -- Demand 2, the reader: any accepted run, whoever wrote it, is answered for by its own meaning: every question, and the list of named applications.
  pub runs : (r : List ℕ) → Accepted (run_source r) → AnsweredBy (run_source r) in_bgp_ls (meaning (run_source r))
  -- Demand 1, which links and which runs are accepted.
  pub accepted_links : (a b c : List ℕ) → LinkAccepted of_checks (link_verdict a b c) (export_link a b c)
  pub accepted_runs : (r : List ℕ) → RunAccepted r
