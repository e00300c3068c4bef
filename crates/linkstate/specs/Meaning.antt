-- The *meaning* of a link or of a run, and when two are the same (rules L15 to L18). It knows no protocol and no places.
use Rattle.std.specs.Prelude.{◌≡◌, Bool, true, List, map, ℕ}
use Rattle.linkstate.specs.Lists.{member}
use Rattle.linkstate.specs.Kinds.{link_codes, application_codes}
use Rattle.linkstate.specs.Masks.{others}
use Rattle.linkstate.specs.Attributes.{value_of}
use Rattle.linkstate.specs.Replies.{accepted}
use Rattle.linkstate.specs.Questions.{Source}

-- L15. A value is its BGP-LS value bytes, none where the kind is absent; an SRLG value is ascending, without repeats.
pub record Meaning : Type 0 where
  pub bandwidth : (code : ℕ) → List ℕ
  pub rsvp_te : (code : ℕ) → List ℕ
  pub general : (code : ℕ) → List ℕ
  pub named : (application : ℕ) → Bool
  pub set : (application code : ℕ) → List ℕ

unfoldable pub meaning : Source → Meaning
meaning s =
    record {
      bandwidth = λ k. value_of k (s.bandwidth k);
      rsvp_te = λ k. value_of k (s.rsvp_te k);
      general = λ k. value_of k (s.general k);
      named = s.names;
      set = λ a k. value_of k (s.application a k);
    }

-- The values of a set, kinds ascending.
unfoldable pub row : (ℕ → List ℕ) → List (List ℕ)
row f = map f application_codes

-- L16, L17. The same meaning: equal value bytes of every kind, the same applications named, and equal sets for each.
pub record Same (m n : Meaning) : Type 0 where
  pub bandwidth : map m.bandwidth link_codes ≡ map n.bandwidth link_codes
  pub rsvp_te : row m.rsvp_te ≡ row n.rsvp_te
  pub general : row m.general ≡ row n.general
  pub named : (a : ℕ) → member a others ≡ true → m.named a ≡ n.named a
  pub set : (a : ℕ) → member a others ≡ true → m.named a ≡ true → row (m.set a) ≡ row (n.set a)

-- L18. *Accepted*: the checks of its bytes let it pass, so that only 5 can refuse an export, and only 5, 6 or 7 a question.
abbrev pub Accepted : Source → Type 0
Accepted s = s.verdict ≡ accepted
