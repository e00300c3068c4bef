-- One IS-IS link, the runs A, B and C (rules I1 to I5): what it is refused for, what questions to it find, and its export.
use Rattle.std.specs.Prelude.{cond, ◌&&◌, ◌||◌, not, List, ℕ, ◌%◌, ltb, eqb, length}
use Rattle.linkstate.specs.Lists.{member}
use Rattle.linkstate.specs.Limits.{most_in_ab, most_in_c}
use Rattle.linkstate.specs.Masks.{others}
use Rattle.linkstate.specs.Replies.{place, Verdict, refused_if, ◌then◌, run_a, run_b, Exported}
use Rattle.linkstate.specs.Elements.{elements, faults}
use Rattle.linkstate.specs.Sides.{Side, named, general_set, application_set, rsvp_te_kind, bandwidth_kind}
use Rattle.linkstate.specs.Questions.{Source, write}
use Rattle.linkstate.specs.Meaning.{meaning}
use Rattle.linkstate.specs.Export.{export}
use Rattle.isis.specs.RunA.{check_a, side_a}
use Rattle.isis.specs.RunB.{check_b, side_b}

-- R1, R2, R9. The checks of a link: the runs' sizes, C's length, then A and B from their starts.
unfoldable pub link_verdict : List ℕ → List ℕ → List ℕ → Verdict
link_verdict a b c =
    refused_if (ltb most_in_ab (length a) || ltb most_in_ab (length b) || ltb most_in_c (length c)) 1
    then refused_if (not (eqb (length c % 4) 0)) 2
    then faults run_a check_a (elements 1 0 a)
    then faults run_b check_b (elements 1 0 b)

-- W1. The side that a kind stands on: B for SRLG, A for every other.
unfoldable pub side_of : List ℕ → List ℕ → List ℕ → ℕ → Side
side_of a b c k = cond (eqb k 1096) (side_b b c) (side_a a)

-- I1, L19, W1. What questions to a link find; it names the applications that either side names.
unfoldable pub link_source : List ℕ → List ℕ → List ℕ → Source
link_source a b c =
    record {
      spot = place run_a;
      bytes = a;
      verdict = link_verdict a b c;
      bandwidth = λ k. bandwidth_kind k (side_a a);
      rsvp_te = λ k. rsvp_te_kind k (side_of a b c k);
      general = λ k. general_set (side_of a b c k);
      names = λ n. member n others && (named n (side_a a) || named n (side_b b c));
      application = λ n k. application_set n (side_of a b c k);
    }

-- I5. The third service: the link as BGP-LS TLVs.
unfoldable pub export_link : List ℕ → List ℕ → List ℕ → List ℕ → Exported
export_link a b c buffer = write (link_verdict a b c) (export (meaning (link_source a b c))) buffer
