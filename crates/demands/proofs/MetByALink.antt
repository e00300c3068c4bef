-- The theorems on accepted links are about something: M S G of document 01 is accepted, and so is its last case, "A = G, B names SR Policy with SRLG 7".
-- Both name SR Policy, with the values that document 01 gives; the definitions are computed on their bytes. Assumes nothing.
use mathlib.Core.Path.{◌≡◌, refl}
use mathlib.Core.Bool.{true}
use mathlib.Core.List.{List, [], ◌∷◌, ◌++◌}
use Prim.Native.Nat.{ℕ}
use Rattle.linkstate.specs.Meaning.{meaning, Accepted}
use Rattle.linkstate.specs.WellFormed.{WellFormed}
use Rattle.isis.specs.Starred.{M, S, G}
use Rattle.isis.specs.Link.{link_source}
use Rattle.isis.proofs.Computing.{computing}
use Rattle.demands.proofs.AcceptedLinks.{accepted-is-well-formed}

-- A TLV 238: neighbour, SR Policy in its standard mask, link identifiers 1 and 2, SRLG 7.
unfoldable pub srlg7 : List ℕ
srlg7 =
    0xEE ∷ 0x19 ∷ 0x00 ∷ 0x00 ∷ 0x00 ∷ 0x00 ∷ 0x00 ∷ 0x02 ∷ 0x00
    ∷ 0x01 ∷ 0x00 ∷ 0x40
    ∷ 0x0A ∷ 0x04 ∷ 0x08 ∷ 0x00 ∷ 0x00 ∷ 0x00 ∷ 0x01 ∷ 0x00 ∷ 0x00 ∷ 0x00 ∷ 0x02
    ∷ 0x00 ∷ 0x00 ∷ 0x00 ∷ 0x07
    ∷ []

-- A link that is accepted and names SR Policy, which then has a TE metric and SRLGs.
pub record Names (a b te groups : List ℕ) : Type 0 where
  pub accepted : Accepted (link_source a b [])
  pub named : (meaning (link_source a b [])).named 1 ≡ true
  pub metric : (meaning (link_source a b [])).set 1 1092 ≡ te
  pub srlgs : (meaning (link_source a b [])).set 1 1096 ≡ groups

pub met-by-a-link : Names (M ++ S ++ G) [] (0 ∷ 0 ∷ 0 ∷ 20 ∷ []) []
unfolding computing
met-by-a-link = record { accepted = refl; named = refl; metric = refl; srlgs = refl }

pub met-with-srlgs : Names G srlg7 (0 ∷ 0 ∷ 0 ∷ 30 ∷ []) (0 ∷ 0 ∷ 0 ∷ 7 ∷ [])
unfolding computing srlg7
met-with-srlgs = record { accepted = refl; named = refl; metric = refl; srlgs = refl }

-- So there are well-formed meanings with a named application and SRLGs.
pub well-formed-link : WellFormed (meaning (link_source G srlg7 []))
well-formed-link = accepted-is-well-formed G srlg7 [] met-with-srlgs.accepted
