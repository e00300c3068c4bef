-- The sides of a link and of a BGP-LS run by the run that their advertisements stand in, and what the code's parts take for granted.
use Rattle.std.specs.Prelude.{◌≡◌, Bool, true, false, cond, ◌&&◌, List, [], ℕ, eqb}
use Rattle.linkstate.specs.Replies.{accepted, run_a, run_b}
use Rattle.linkstate.specs.Elements.{elements, faults}
use Rattle.linkstate.specs.Kinds.{is_code, is_link_code}
use Rattle.linkstate.specs.Masks.{user}
use Rattle.linkstate.specs.Sides.{Advertisement}
use Rattle.linkstate.specs.BgpLs.{run_verdict}
use Rattle.linkstate.specs.Questions.{Subject, generally, standard_no, user_no}
use Rattle.linkstate.specs.Why.{Why, Holder, held_at, legacy_in, nowhere, Standing, has, subject_why, bandwidth_why}
use Rattle.linkstate.specs.RunWhy.{stand_run, top_why}
use Rattle.isis.specs.Types.{code_of_type}
use Rattle.isis.specs.RunA.{check_a}
use Rattle.isis.specs.RunB.{check_b}
use Rattle.isis.specs.Why.{stand_a, stand_b, stand_of, side_why}
use Rattle.replies.specs.declared.Run.{Run}
use Rattle.replies.specs.declared.Run.TheVariants.{A, B, C, BgpLs}
use Rattle.advertisements.specs.declared.Test.{Test}
use Rattle.advertisements.specs.Tests.{passing}

unfoldable pub is_held : Holder → Bool
is_held (held_at p) = true
is_held (legacy_in r) = false
is_held nowhere = false

-- What is told by a rule does not look at C's values. Nothing is advertised in C.
unfoldable pub standing : Run → List ℕ → Standing
standing A s = stand_a s
standing B s = stand_b s []
standing C s = stand_b [] []
standing BgpLs s = stand_run s

-- A run that passed its checks, and a kind that its advertisements can have.
abbrev pub Ready : Run → List ℕ → ℕ → Type 0
Ready A s k = (faults run_a check_a (elements 1 0 s) ≡ accepted) × (is_code k ≡ true) × (eqb k 1096 ≡ false)
Ready B s k = (faults run_b check_b (elements 1 0 s) ≡ accepted) × (k ≡ 1096)
Ready C s k = ⊥
Ready BgpLs s k = (run_verdict s ≡ accepted) × (is_code k ≡ true)

-- The type of a code in the lists of a run.
abbrev pub IsType : Run → ℕ → ℕ → Type 0
IsType A t k = code_of_type t ≡ k
IsType B t k = t ≡ k
IsType C t k = t ≡ k
IsType BgpLs t k = t ≡ k

-- A test, and that there is a value of a kind.
unfoldable pub with_kind : Test → ℕ → Advertisement → Bool
with_kind test k d = passing test d && has k d.attributes

-- The number of an application among both kinds; the general set has none.
unfoldable pub number_of : Subject → ℕ
number_of generally = 0
number_of (standard_no n) = n
number_of (user_no n) = user n

unfoldable pub is_rsvp_te : Subject → Bool
is_rsvp_te generally = false
is_rsvp_te (standard_no n) = eqb n 0
is_rsvp_te (user_no n) = false

-- The answers that nothing refuses.
unfoldable pub link_answer : List ℕ → List ℕ → List ℕ → Subject → ℕ → Why
link_answer a b c whom k = cond (is_link_code k) (bandwidth_why k (stand_a a)) (side_why whom k (stand_of a b c k))

unfoldable pub run_answer : List ℕ → Subject → ℕ → Why
run_answer r whom k = cond (is_link_code k) top_why (subject_why top_why whom k (stand_run r))
