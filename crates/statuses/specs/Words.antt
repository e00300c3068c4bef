-- What a C program is answered: a status and the four numbers of the reply, as one list of five. What a status does not name is 0.
use Rattle.std.specs.Prelude.{cond, List, [], ◌∷◌, ℕ, ◌+◌, eqb, ltb}
use Rattle.linkstate.specs.Bytes.{number}
use Rattle.linkstate.specs.Replies.{Run, Place, run_a, run_b, run_c, run_bgp_ls, Refusal, unless, Reading, whole, pair, bandwidth, part, count, Reply, absent, found, ask_refused, Named, listed, named_refused, Length, bytes, export_refused}
use Rattle.linkstate.specs.Attributes.{Attribute, of_kind}
use Rattle.linkstate.specs.Why.{rule_number, Holder, held_at, legacy_in, nowhere, Why, because, why_refused}
use Rattle.linkstate.specs.Questions.{Source, Subject, generally, standard_no, user_no, given, before_answer, ask, value}
use Rattle.statuses.specs.declared.Words.{Words}

abbrev pub words : Words → List ℕ
words w = w.status ∷ w.reply

-- A status with up to two numbers of its own.
abbrev pub two : (status first second : ℕ) → List ℕ
two status first second = status ∷ first ∷ second ∷ 0 ∷ 0 ∷ []

abbrev pub nothing : List ℕ
nothing = two 0 0 0

-- Whom a call asks about: 0 the general set, 1 a standard application, 2 a user application. Any other value is no application: its number is too high.
abbrev pub whom_of : ℕ → ℕ → Subject
whom_of who number = cond (eqb who 0) generally (cond (eqb who 1) (standard_no number) (cond (eqb who 2) (user_no number) (standard_no 64)))

-- A number above 63 as 64: both are refused by 6 (`asked_low` and `value_low` in proofs/Laws.antt).
abbrev pub least : ℕ → ℕ
least n = cond (ltb 63 n) 64 n

-- R8. The runs by number; numbers 3 to 6 are for runs of other services.
abbrev pub run_number : Run → ℕ
run_number run_a = 0
run_number run_b = 1
run_number run_bgp_ls = 2
run_number run_c = 7

-- A status with a place: an offset, a length, the run, and the fragment, which is 0.
abbrev pub placed : (status offset length : ℕ) → Run → List ℕ
placed status offset length run = status ∷ offset ∷ length ∷ run_number run ∷ 0 ∷ []

-- R8. Refusal n has status 128 + n. No refusal names run C (`Statuses` in the proofs of status_entries).
abbrev pub refusal_words : Refusal → List ℕ
refusal_words r = placed (128 + r.number) r.at.offset 0 r.at.run

-- K4. A reading. A bandwidth is told by its bits, not by the float: a NaN's pattern is kept.
abbrev pub reading_words : (bits : ℕ) → Reading → List ℕ
reading_words bits (whole n) = two 1 n 0
reading_words bits (pair m n) = two 2 m n
reading_words bits (bandwidth x) = two 3 bits 0
reading_words bits (part p n) = placed 4 p.offset n p.run
reading_words bits (count n) = two 5 n 0

abbrev pub reply_words : (bits : ℕ) → Reply → List ℕ
reply_words bits absent = nothing
reply_words bits (found x) = reading_words bits x
reply_words bits (ask_refused r) = refusal_words r

-- I5, K4. A question: the bits of a bandwidth are those of the value's own bytes in the run.
unfoldable pub ask_words : Source → Subject → ℕ → List ℕ → List ℕ
ask_words s whom k list = reply_words (number (value s whom k)) (ask s whom k list).reply

-- K6. Where the value stands that a question asks for, and its length; nothing where it is absent, refused, or SRLG.
unfoldable pub place_words : (ℕ → Place) → List Attribute → List ℕ
place_words spot [] = nothing
place_words spot (t ∷ ts) = reading_words 0 (part (spot t.at) t.len)

unfoldable pub value_words : Source → Subject → ℕ → List ℕ
value_words s whom k = unless (before_answer s whom k) (λ r. nothing) (cond (eqb k 1096) nothing (place_words s.spot (of_kind k (given s whom k))))

-- I5. The named applications; the length of what was written.
abbrev pub named_words : Named → List ℕ
named_words (listed standard user) = two 6 standard user
named_words (named_refused r) = refusal_words r

abbrev pub length_words : Length → List ℕ
length_words (bytes n) = two 7 n 0
length_words (export_refused r) = refusal_words r

-- Why a subject gets its kind: the rule, the offset of the advertisement, all ones where none is told, and its run; of legacy values theirs.
abbrev pub held_numbers : Holder → List ℕ
held_numbers (held_at p) = p.offset ∷ run_number p.run ∷ 0 ∷ []
held_numbers (legacy_in run) = 18446744073709551615 ∷ run_number run ∷ 0 ∷ []
held_numbers nowhere = 18446744073709551615 ∷ 0 ∷ 0 ∷ []

abbrev pub why_words : Why → List ℕ
why_words (because rule holder) = 16 ∷ rule_number rule ∷ held_numbers holder
why_words (why_refused r) = refusal_words r
