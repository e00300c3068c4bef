-- What each case of the answers says in document 01's terms: its number, its run and offset, its values. Contracts go through these definitions.
use Rattle.std.specs.Prelude.{◌≡◌, ◌<◌, ◌⊎◌, List, ℕ, Option, None, Some, Result, Ok, Err}
use Rattle.linkstate.specs.Replies as R
use Rattle.linkstate.specs.Questions as Q
use Rattle.linkstate.specs.Why as W
use Rattle.replies.specs.declared.Run.{Run}
use Rattle.replies.specs.declared.Run.TheVariants.{A, B, C, BgpLs}
use Rattle.replies.specs.declared.Place.{Place}
use Rattle.replies.specs.declared.Reason.{Reason}
use Rattle.replies.specs.declared.Reason.TheVariants as Reasons
use Rattle.replies.specs.declared.Refusal.{Refusal}
use Rattle.replies.specs.declared.Reading.{Reading}
use Rattle.replies.specs.declared.Reading.TheVariants.{Number, Pair, Bandwidth, Part, Count}
use Rattle.replies.specs.declared.Named.{Named}
use Rattle.replies.specs.declared.Rule.{Rule}
use Rattle.replies.specs.declared.Rule.TheVariants as Rules
use Rattle.replies.specs.declared.Holder.{Holder}
use Rattle.replies.specs.declared.Holder.TheVariants as Holders
use Rattle.replies.specs.declared.Why.{Why}
use Rattle.replies.specs.declared.Subject.{Subject}
use Rattle.replies.specs.declared.Subject.TheVariants.{General, Standard, User}

abbrev pub told_run : Run → R.Run
told_run A = R.run_a
told_run B = R.run_b
told_run C = R.run_c
told_run BgpLs = R.run_bgp_ls

-- The place of an offset in a run.
abbrev pub told_spot : Run → ℕ → R.Place
told_spot r = R.place (told_run r)

abbrev pub told_place : Place → R.Place
told_place p = R.place (told_run p.run) p.offset

-- The number of a reason.
abbrev pub number_of : Reason → ℕ
number_of Reasons.TooLong = 1
number_of Reasons.OddSrlgs = 2
number_of Reasons.Cut = 3
number_of Reasons.Length = 4
number_of Reasons.NoRoom = 5
number_of Reasons.NoApplication = 6
number_of Reasons.NoKind = 7
number_of Reasons.Twice = 8
number_of (Reasons.Other n) = n

-- A reason stands by its name where its number has one.
abbrev pub IsByName : Reason → Type 0
IsByName (Reasons.Other n) = (n ≡ 0) ⊎ (8 < n)
IsByName _ = Unit

abbrev pub told_refusal : Refusal → R.Refusal
told_refusal r = record { number = number_of r.reason; at = told_place r.place }

abbrev pub told_reading : Reading → R.Reading
told_reading (Number n) = R.whole n
told_reading (Pair m n) = R.pair m n
told_reading (Bandwidth x) = R.bandwidth x
told_reading (Part p n) = R.part (told_place p) n
told_reading (Count n) = R.count n

abbrev pub told_answer : Result (Option Reading) Refusal → R.Reply
told_answer (Ok None) = R.absent
told_answer (Ok (Some x)) = R.found (told_reading x)
told_answer (Err r) = R.ask_refused (told_refusal r)

abbrev pub told_named : Result Named Refusal → R.Named
told_named (Ok m) = R.listed m.standard m.user
told_named (Err r) = R.named_refused (told_refusal r)

abbrev pub told_written : Result ℕ Refusal → R.Length
told_written (Ok n) = R.bytes n
told_written (Err r) = R.export_refused (told_refusal r)

abbrev pub told_rule : Rule → W.Rule
told_rule Rules.ByL = W.by_l
told_rule Rules.Named = W.by_name
told_rule Rules.General = W.general_asked
told_rule Rules.Unnamed = W.unnamed
told_rule Rules.Legacy = W.by_legacy
told_rule Rules.Carried = W.carried
told_rule Rules.Top = W.at_top

abbrev pub told_holder : Holder → W.Holder
told_holder (Holders.At p) = W.held_at (told_place p)
told_holder (Holders.Legacy r) = W.legacy_in (told_run r)
told_holder Holders.Nowhere = W.nowhere

abbrev pub told_why : Result Why Refusal → W.Why
told_why (Ok x) = W.because (told_rule x.rule) (told_holder x.holder)
told_why (Err r) = W.why_refused (told_refusal r)

-- What checks found: the first refusal, or none, whatever they give where they accept.
abbrev pub told_checked : {A : Type 0} → Result A Refusal → R.Verdict
told_checked (Ok _) = R.accepted
told_checked (Err r) = R.refused (told_refusal r)

-- A question's answer with the lent list as it then is, and an export's with the buffer.
abbrev pub told_asked : Result (Option Reading) Refusal → List ℕ → R.Asked
told_asked a list = record { reply = told_answer a; list = list }

abbrev pub told_exported : Result ℕ Refusal → List ℕ → R.Exported
told_exported w buffer = record { reply = told_written w; buffer = buffer }

abbrev pub subject_of : Subject → Q.Subject
subject_of General = Q.generally
subject_of (Standard n) = Q.standard_no n
subject_of (User n) = Q.user_no n
