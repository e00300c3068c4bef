-- Document 01, "Numbers of the replies" (rules R1 to R12): what a refusal tells, and what a question is answered by (rule K4).
use Rattle.std.specs.Prelude.{Bool, cond, List, ℕ, Float}

-- R8. The lent runs that a place can lie in. No value and no refusal has its place in C: it is there to be named as the run of legacy SRLGs.
pub data Run : Type 0 where
  run_a : Run
  run_b : Run
  run_c : Run
  run_bgp_ls : Run

-- R8. An offset in a run.
pub record Place : Type 0 where
  pub run : Run
  pub offset : ℕ

unfoldable pub place : Run → ℕ → Place
place r o = record { run = r; offset = o }

-- R8, E5a. A refusal: its number, 1 to 8, and where the innermost faulty element begins; of 8 it is the second one of its type.
pub record Refusal : Type 0 where
  pub number : ℕ
  pub at : Place

-- Whether the checks let a link or a run pass, or the first refusal.
pub data Verdict : Type 0 where
  accepted : Verdict
  refused : Refusal → Verdict

-- R8. Refusal n at an offset of a run.
unfoldable pub refusal_at : ℕ → Run → ℕ → Refusal
refusal_at n r o = record { number = n; at = place r o }

unfoldable pub fault : ℕ → Run → ℕ → Verdict
fault n r o = refused (refusal_at n r o)

-- R8. A refusal that no element is to blame for (1, 2, 5, 6, 7): run A, offset 0.
unfoldable pub fault_of_call : ℕ → Verdict
fault_of_call n = fault n run_a 0

-- The refusal n of a call where the test holds, else none.
unfoldable pub refused_if : Bool → ℕ → Verdict
refused_if test n = cond test (fault_of_call n) accepted

infixr 20 ◌then◌
-- R9. The first refusal of two checks that come one after the other.
unfoldable pub ◌then◌ : Verdict → Verdict → Verdict
accepted then w = w
(refused r) then w = refused r

-- What a refusal leads to, and what comes where there is none.
unfoldable pub unless : {A : Type 0} → Verdict → (Refusal → A) → A → A
unless accepted f x = x
unless (refused r) f x = f r

-- K4. A reading: a whole number, two numbers, a float, where the value stands and its length, or how many different SRLGs there are.
-- There is one NaN among the floats, so a NaN's bits are no part of a reading.
pub data Reading : Type 0 where
  whole : ℕ → Reading
  pair : ℕ → ℕ → Reading
  bandwidth : Float → Reading
  part : (at : Place) (length : ℕ) → Reading
  count : ℕ → Reading

-- K4, R12. The reply to a question: absent is a normal one.
pub data Reply : Type 0 where
  absent : Reply
  found : Reading → Reply
  ask_refused : Refusal → Reply

-- What a question leaves: its reply, and what the lent list of 32-bit numbers then holds.
pub record Asked : Type 0 where
  pub reply : Reply
  pub list : List ℕ

-- I5. The applications that are named, RSVP-TE apart, as two numbers in which application n is 2 to the n; or a refusal.
pub data Named : Type 0 where
  listed : (standard user : ℕ) → Named
  named_refused : Refusal → Named

-- K5. The reply to an export: the length written, or a refusal.
pub data Length : Type 0 where
  bytes : ℕ → Length
  export_refused : Refusal → Length

-- What an export leaves: its reply, and what the lent buffer then holds.
pub record Exported : Type 0 where
  pub reply : Length
  pub buffer : List ℕ
