-- Demand 2, the answers: when the replies of a link or of a BGP-LS run are those that a meaning gives (rules K4, K6, L9, L10).
use Rattle.std.specs.Prelude.{◌≡◌, true, false, cond, List, [], ℕ, ◌≤◌, ◌<◌, eqb, length}
use Rattle.linkstate.specs.Lists.{empty, put}
use Rattle.linkstate.specs.Bytes.{bytes_at, distinct, bytes_of_words}
use Rattle.linkstate.specs.Kinds.{is_code, is_link_code}
use Rattle.linkstate.specs.Masks.{user, as_number}
use Rattle.linkstate.specs.Replies.{run_a, refusal_at, count, absent, found, ask_refused, Asked, Named, listed}
use Rattle.linkstate.specs.Attributes.{reading}
use Rattle.linkstate.specs.Questions.{Source, Subject, generally, standard_no, user_no, number_too_high, unwritten, ask, value, list_named}
use Rattle.linkstate.specs.Meaning.{Meaning}

-- L10. The set of an application other than RSVP-TE: its own where it is named, else the general set.
unfoldable pub application_meant : Meaning → ℕ → ℕ → List ℕ
application_meant m a k = cond (m.named a) (m.set a k) (m.general k)

unfoldable pub set_meant : Meaning → Subject → ℕ → List ℕ
set_meant m generally k = m.general k
set_meant m (standard_no n) k = cond (eqb n 0) (m.rsvp_te k) (application_meant m n k)
set_meant m (user_no n) k = application_meant m (user n) k

-- The value of a kind that a meaning has for a subject.
unfoldable pub meant : Meaning → Subject → ℕ → List ℕ
meant m whom k = cond (is_link_code k) (m.bandwidth k) (set_meant m whom k)

-- I5. The named applications of a meaning, as the two numbers that list them.
unfoldable pub names_meant : Meaning → Named
names_meant m = listed (as_number m.named) (as_number (λ n. m.named (user n)))

-- How a run has the value of a kind, from its BGP-LS value bytes. A BGP-LS run has these themselves.
abbrev pub Sent : Type 0
Sent = (code : ℕ) → List ℕ → List ℕ

abbrev pub in_bgp_ls : Sent
in_bgp_ls k v = v

-- K4. What a question to a source leaves, its reply and the lent list, tells the value v of kind k:
pub data Tells (s : Source) (sent : Sent) (k : ℕ) (v list : List ℕ) : Asked → Type 0 where
  -- absent where v has no bytes;
  tells_absent : v ≡ [] → Tells s sent k v list (unwritten list absent)
  -- else found, with the reading of v, which stands in the run at the offset o;
  tells_reading : (o : ℕ) → empty v ≡ false → eqb k 1096 ≡ false → bytes_at s.bytes o (length (sent k v)) ≡ sent k v
      → Tells s sent k v list (unwritten list (found (reading s.spot (record { code = k; at = o; len = length (sent k v); value = v }))))
  -- for SRLG, the count of the different numbers whose bytes are v, which then stand at the list's front;
  tells_srlgs : (ns : List ℕ) → empty v ≡ false → eqb k 1096 ≡ true → distinct ns ≡ ns → bytes_of_words ns ≡ v → length ns ≤ length list
      → Tells s sent k v list (record { reply = found (count (length ns)); list = put list 0 ns })
  -- or 5, where the list is too short for them.
  tells_too_many : (ns : List ℕ) → empty v ≡ false → eqb k 1096 ≡ true → distinct ns ≡ ns → bytes_of_words ns ≡ v → length list < length ns
      → Tells s sent k v list (unwritten list (ask_refused (refusal_at 5 run_a 0)))

-- K4, K6. Both entries give the meaning's value: the question, and the one that hands back the bytes (none for SRLG).
pub record Reads (s : Source) (sent : Sent) (m : Meaning) (whom : Subject) (k : ℕ) (list : List ℕ) : Type 0 where
  pub asked : Tells s sent k (meant m whom k) list (ask s whom k list)
  pub bytes : value s whom k ≡ cond (eqb k 1096) [] (sent k (meant m whom k))

-- I5. A source is answered for by a meaning: every question to it that neither 6 nor 7 refuses, and the list of its named applications.
pub record AnsweredBy (s : Source) (sent : Sent) (m : Meaning) : Type 0 where
  pub reads : (whom : Subject) → number_too_high whom ≡ false → (k : ℕ) → is_code k ≡ true → (list : List ℕ) → Reads s sent m whom k list
  pub names : list_named s ≡ names_meant m
