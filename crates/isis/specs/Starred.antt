-- The starred cases of document 01's worked links, with B and C empty, as one table under one statement. Three rows are as rule E2a has them: `named_empty`,
-- `no_bit_set` and `user0` have a general ASLA and nothing else for RSVP-TE, which takes its metric.
use Rattle.std.specs.Prelude.{◌≡◌, cond, List, [], ◌∷◌, ◌++◌, map, ℕ, eqb, replicate}
use Rattle.linkstate.specs.Lists.{each}
use Rattle.linkstate.specs.Kinds.{codes}
use Rattle.linkstate.specs.Replies.{refusal_at, run_a, Reply, absent, found, ask_refused, whole, Length, bytes, export_refused, Exported}
use Rattle.linkstate.specs.Questions.{Subject, generally, standard_no, user_no, ask}
use Rattle.isis.specs.Link.{link_source, export_link}

unfoldable pub M : List ℕ
M = 0x12 ∷ 0x03 ∷ 0x00 ∷ 0x00 ∷ 0x0A ∷ []

unfoldable pub S : List ℕ
S = 0x10 ∷ 0x08 ∷ 0x01 ∷ 0x00 ∷ 0x40 ∷ 0x12 ∷ 0x03 ∷ 0x00 ∷ 0x00 ∷ 0x14 ∷ []

unfoldable pub G : List ℕ
G = 0x10 ∷ 0x07 ∷ 0x00 ∷ 0x00 ∷ 0x12 ∷ 0x03 ∷ 0x00 ∷ 0x00 ∷ 0x1E ∷ []

unfoldable pub Z : List ℕ
Z = 0x10 ∷ 0x03 ∷ 0x81 ∷ 0x00 ∷ 0x40 ∷ []

-- Whom every case is asked for: RSVP-TE, SR Policy, LFA, standard 6, user 0, user 5.
unfoldable pub subjects : List Subject
subjects = standard_no 0 ∷ standard_no 1 ∷ standard_no 2 ∷ standard_no 6 ∷ user_no 0 ∷ user_no 5 ∷ []

-- What the definitions say of a run A: the replies of the subjects to a question for the TE metric, and the export's reply in a room of 64 bytes.
unfoldable pub metrics_of : List ℕ → List Reply
metrics_of a = map (λ whom. (ask (link_source a [] []) whom 1092 []).reply) subjects

unfoldable pub export_of : List ℕ → Length
export_of a = (export_link a [] [] (replicate 64 0xAA)).reply

-- A metric as the table has it: 0 is absent, any other number is found.
unfoldable pub metric : ℕ → Reply
metric n = cond (eqb n 0) absent (found (whole n))

-- A row of the table that is served: run A, the subjects' metrics, the export's length.
pub record Served (a ms : List ℕ) (n : ℕ) : Type 0 where
  pub metrics : metrics_of a ≡ map metric ms
  pub export : export_of a ≡ bytes n

-- A row that is refused, a question and the export alike: run A, and the number; run A, offset 0.
pub record RefusedBy (a : List ℕ) (n : ℕ) : Type 0 where
  pub metrics : metrics_of a ≡ map (λ whom. ask_refused (refusal_at n run_a 0)) subjects
  pub export : export_of a ≡ export_refused (refusal_at n run_a 0)

-- Of the empty run: every kind, of the subjects and of the general set.
unfoldable pub empty_replies : List Reply
empty_replies = each (λ whom. map (λ k. (ask (link_source [] [] []) whom k []).reply) codes) (generally ∷ subjects)

-- The export of M S G, whole.
unfoldable pub msg_bytes : List ℕ
msg_bytes =
    0x04 ∷ 0x44 ∷ 0x00 ∷ 0x04 ∷ 0x00 ∷ 0x00 ∷ 0x00 ∷ 0x0A
    ∷ 0x04 ∷ 0x62 ∷ 0x00 ∷ 0x0C ∷ 0x00 ∷ 0x00 ∷ 0x00 ∷ 0x00 ∷ 0x04 ∷ 0x44 ∷ 0x00 ∷ 0x04 ∷ 0x00 ∷ 0x00 ∷ 0x00 ∷ 0x1E
    ∷ 0x04 ∷ 0x62 ∷ 0x00 ∷ 0x10 ∷ 0x04 ∷ 0x00 ∷ 0x00 ∷ 0x00 ∷ 0x40 ∷ 0x00 ∷ 0x00 ∷ 0x00 ∷ 0x04 ∷ 0x44 ∷ 0x00 ∷ 0x04 ∷ 0x00 ∷ 0x00 ∷ 0x00 ∷ 0x14
    ∷ []

unfoldable pub msg_in_room : ℕ → Exported
msg_in_room n = export_link (M ++ S ++ G) [] [] (replicate n 0xAA)

-- The statement: the table, one row a case. Nothing is found in the empty run; room 44 serves M S G and holds its bytes; room 43 is refused by 5 and stays.
pub record Starred : Type 0 where
  pub empty_run : Served [] (0 ∷ 0 ∷ 0 ∷ 0 ∷ 0 ∷ 0 ∷ []) 0
  pub nothing : empty_replies ≡ replicate 98 absent
  pub msg : Served (M ++ S ++ G) (10 ∷ 20 ∷ 30 ∷ 30 ∷ 30 ∷ 30 ∷ []) 44
  pub room44 : msg_in_room 44 ≡ record { reply = bytes 44; buffer = msg_bytes }
  pub room43 : msg_in_room 43 ≡ record { reply = export_refused (refusal_at 5 run_a 0); buffer = replicate 43 0xAA }
  pub mzg : Served (M ++ Z ++ G) (10 ∷ 10 ∷ 30 ∷ 30 ∷ 30 ∷ 30 ∷ []) 44
  pub msz : Served (M ++ S ++ Z) (10 ∷ 10 ∷ 0 ∷ 0 ∷ 0 ∷ 0 ∷ []) 28
  pub named_empty : Served ((0x10 ∷ 0x03 ∷ 0x01 ∷ 0x00 ∷ 0x40 ∷ []) ++ G) (30 ∷ 0 ∷ 30 ∷ 30 ∷ 30 ∷ 30 ∷ []) 36
  pub no_bit_set : Served ((0x10 ∷ 0x08 ∷ 0x01 ∷ 0x00 ∷ 0x00 ∷ 0x12 ∷ 0x03 ∷ 0x00 ∷ 0x00 ∷ 0x14 ∷ []) ++ G) (30 ∷ 30 ∷ 30 ∷ 30 ∷ 30 ∷ 30 ∷ []) 24
  pub standard6 : Served (0x10 ∷ 0x08 ∷ 0x01 ∷ 0x00 ∷ 0x02 ∷ 0x12 ∷ 0x03 ∷ 0x00 ∷ 0x00 ∷ 0x14 ∷ []) (0 ∷ 0 ∷ 0 ∷ 20 ∷ 0 ∷ 0 ∷ []) 20
  pub first_counts : Served (S ++ (0x10 ∷ 0x08 ∷ 0x01 ∷ 0x00 ∷ 0x60 ∷ 0x12 ∷ 0x03 ∷ 0x00 ∷ 0x00 ∷ 0x15 ∷ [])) (0 ∷ 20 ∷ 21 ∷ 0 ∷ 0 ∷ 0 ∷ []) 40
  pub user0 : Served ((0x10 ∷ 0x08 ∷ 0x00 ∷ 0x01 ∷ 0x80 ∷ 0x12 ∷ 0x03 ∷ 0x00 ∷ 0x00 ∷ 0x14 ∷ []) ++ G) (30 ∷ 30 ∷ 30 ∷ 30 ∷ 20 ∷ 30 ∷ []) 44
  pub long_mask : Served (0x10 ∷ 0x0B ∷ 0x09 ∷ 0x00 ∷ replicate 9 0xFF) (0 ∷ 0 ∷ 0 ∷ 0 ∷ 0 ∷ 0 ∷ []) 0
  pub short_asla : RefusedBy (0x10 ∷ 0x01 ∷ 0x00 ∷ []) 3
  pub wrong_length : RefusedBy (0x12 ∷ 0x02 ∷ 0x00 ∷ 0x0A ∷ []) 4
  pub cut_short : RefusedBy (0x12 ∷ 0x03 ∷ 0x00 ∷ 0x00 ∷ []) 3
