-- The services (rule I5): what is asked of a link or of a BGP-LS run, and what comes of it (rules R1 to R12, K4 to K6).
use Rattle.std.specs.Prelude.{Bool, false, cond, not, List, [], ◌∷◌, ℕ, eqb, ltb, length}
use Rattle.linkstate.specs.Lists.{empty, put}
use Rattle.linkstate.specs.Limits.{last_standard, last_user}
use Rattle.linkstate.specs.Bytes.{bytes_at}
use Rattle.linkstate.specs.Kinds.{is_code, is_link_code}
use Rattle.linkstate.specs.Masks.{user, as_number}
use Rattle.linkstate.specs.Attributes.{Attribute, of_kind, srlgs, reading}
use Rattle.linkstate.specs.Replies.{Place, Verdict, refused_if, ◌then◌, unless, count, Reply, absent, found, ask_refused, Asked, Named, listed, named_refused, bytes, export_refused, Exported}

-- Whom a question is about: the general set, or an application.
pub data Subject : Type 0 where
  generally : Subject
  standard_no : ℕ → Subject
  user_no : ℕ → Subject

-- What questions are put to, a link or a BGP-LS run: the place of an offset, the bytes there, what the checks of its bytes say, and the attributes read
-- together for a kind of the link, of RSVP-TE, of the general set, and of another application, with the applications
-- other than RSVP-TE that it names.
pub record Source : Type 0 where
  pub spot : (offset : ℕ) → Place
  pub bytes : List ℕ
  pub verdict : Verdict
  pub bandwidth : (code : ℕ) → List Attribute
  pub rsvp_te : (code : ℕ) → List Attribute
  pub general : (code : ℕ) → List Attribute
  pub names : (application : ℕ) → Bool
  pub application : (application code : ℕ) → List Attribute

-- R6, E12b. An application number above 63, of a user application above 31; the general set has no number.
unfoldable pub number_too_high : Subject → Bool
number_too_high generally = false
number_too_high (standard_no n) = ltb last_standard n
number_too_high (user_no n) = ltb last_user n

-- The attributes of the subject's set.
unfoldable pub set_of : Source → Subject → ℕ → List Attribute
set_of s generally k = s.general k
set_of s (standard_no n) k = cond (eqb n 0) (s.rsvp_te k) (s.application n k)
set_of s (user_no n) k = s.application (user n) k

-- W13. The link's three kinds answer everyone the same.
unfoldable pub given : Source → Subject → ℕ → List Attribute
given s whom k = cond (is_link_code k) (s.bandwidth k) (set_of s whom k)

-- R9. The order of refusals before an answer: 6, 7, then those of the bytes.
unfoldable pub before_answer : Source → Subject → ℕ → Verdict
before_answer s whom k = refused_if (number_too_high whom) 6 then refused_if (not (is_code k)) 7 then s.verdict

-- K4, R12. The reply of every kind but SRLG: that of the first attribute.
unfoldable pub first_of : (ℕ → Place) → List Attribute → Reply
first_of spot [] = absent
first_of spot (t ∷ ts) = found (reading spot t)

unfoldable pub unwritten : List ℕ → Reply → Asked
unwritten list r = record { reply = r; list = list }

-- K4, R5. The reply of SRLG: none at all is absent; 5 where the list is too short; else their count, and the list begins with them.
unfoldable pub srlg_answer : List ℕ → List ℕ → Asked
srlg_answer ns list =
    cond (empty ns) (unwritten list absent)
    (unless (refused_if (ltb (length list) (length ns)) 5) (λ r. unwritten list (ask_refused r))
    (record { reply = found (count (length ns)); list = put list 0 ns }))

unfoldable pub answer : (ℕ → Place) → ℕ → List Attribute → List ℕ → Asked
answer spot k ts list = cond (eqb k 1096) (srlg_answer (srlgs ts) list) (unwritten list (first_of spot (of_kind k ts)))

-- I5. The first service: one kind of one subject, with a lent list.
unfoldable pub ask : Source → Subject → ℕ → List ℕ → Asked
ask s whom k list = unless (before_answer s whom k) (λ r. unwritten list (ask_refused r)) (answer s.spot k (given s whom k) list)

unfoldable pub bytes_of_first : List ℕ → List Attribute → List ℕ
bytes_of_first run [] = []
bytes_of_first run (t ∷ ts) = bytes_at run t.at t.len

-- K6. The value's bytes as they stand in the run; none where it is absent, refused, or SRLG.
unfoldable pub value : Source → Subject → ℕ → List ℕ
value s whom k = unless (before_answer s whom k) (λ r. []) (cond (eqb k 1096) [] (bytes_of_first s.bytes (of_kind k (given s whom k))))

-- I5. The second service: the named applications other than RSVP-TE.
unfoldable pub list_named : Source → Named
list_named s = unless s.verdict named_refused (listed (as_number s.names) (as_number (λ n. s.names (user n))))

-- I5, K5, R5. The third service, over the bytes to write: refused as the link is, then by 5; else they stand at the buffer's front.
unfoldable pub write : Verdict → List ℕ → List ℕ → Exported
write v result buffer =
    unless (v then refused_if (ltb (length buffer) (length result)) 5) (λ r. record { reply = export_refused r; buffer = buffer })
    (record { reply = bytes (length result); buffer = put buffer 0 result })
