-- What is signed holds of every well-formed meaning within bounds, and of every run: a protocol adds that its accepted links have such meanings, and that these
-- answer for them. Assumes nothing.
use mathlib.Core.List.{List}
use Prim.Native.Nat.{ℕ, ◌+◌, ◌*◌}
use Rattle.linkstate.specs.Limits.{other_applications}
use Rattle.linkstate.specs.Questions.{Source}
use Rattle.linkstate.specs.Meaning.{Meaning, meaning}
use Rattle.linkstate.specs.BgpLs.{run_source}
use Rattle.linkstate.specs.WellFormed.{WellFormed}
use Rattle.rivals.specs.Reads.{Sent, AnsweredBy}
use Rattle.rivals.specs.Signed.{OfMeaning, OfLink, RunAccepted}
use Rattle.rivals.proofs.Shortest.{shortest}
use Rattle.rivals.proofs.Bounds.{Within, export-bound, value-bound}
use Rattle.rivals.proofs.UserMasks.{user-masks}
use Rattle.rivals.proofs.RoundTrip.{export-is-rival}
use Rattle.rivals.proofs.ExportRead.{export-answers}
use Rattle.rivals.proofs.Acceptance.{by-refuses, run_by, accepted-asked, asked-accepted}

module _ {top set : ℕ} where
  pub of-meaning : (m : Meaning) → WellFormed m → Within top set m → OfMeaning m (top + (8 + set) + other_applications * (24 + set)) (20 + set)
  of-meaning m ok within =
      record {
        round_trip = (export-is-rival m ok).same;
        read_back = export-answers m ok;
        shortest = λ r rival. shortest m r ok rival;
        rival = export-is-rival m ok;
        bound = export-bound m within;
        lengths = λ t v i. value-bound m within i;
        user_masks = λ v i. user-masks m ok v i;
      }

  pub of-link : (s : Source) (sent : Sent) → AnsweredBy s sent (meaning s) → WellFormed (meaning s) → Within top set (meaning s)
      → OfLink s sent (top + (8 + set) + other_applications * (24 + set)) (20 + set)
  of-link s sent answers ok within = record { answers = answers; exported = of-meaning (meaning s) ok within }

pub of-run : (r : List ℕ) → RunAccepted r
unfolding run_source
of-run r = record { only567 = accepted-asked (run_source r); accepts = asked-accepted r; numbers = by-refuses (run_by r) }
