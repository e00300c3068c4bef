-- Why an IS-IS link gives a subject what it gives of a kind.
use Rattle.std.specs.Prelude.{cond, List, ℕ, eqb}
use Rattle.linkstate.specs.Kinds.{is_link_code}
use Rattle.linkstate.specs.Replies.{place, run_a, run_b, run_c}
use Rattle.linkstate.specs.Elements.{elements}
use Rattle.linkstate.specs.Questions.{Subject}
use Rattle.linkstate.specs.Why.{Why, Standing, rsvp_te_why, subject_why, bandwidth_why, unless_ask_refused}
use Rattle.isis.specs.RunA.{asla_advertisements, side_a}
use Rattle.isis.specs.RunB.{srlg_advertisements, side_b}
use Rattle.isis.specs.Link.{link_source}

-- W1. The sides where they stand: A's legacy values are its own elements, B's lie in C.
unfoldable pub stand_a : List ℕ → Standing
stand_a a = record { side = side_a a; spot = place run_a; elements = elements 1 0 a; live = asla_advertisements; legacy_run = run_a }

unfoldable pub stand_b : List ℕ → List ℕ → Standing
stand_b b c = record { side = side_b b c; spot = place run_b; elements = elements 1 0 b; live = srlg_advertisements; legacy_run = run_c }

unfoldable pub stand_of : List ℕ → List ℕ → List ℕ → ℕ → Standing
stand_of a b c k = cond (eqb k 1096) (stand_b b c) (stand_a a)

unfoldable pub side_why : Subject → ℕ → Standing → Why
side_why whom k s = subject_why (rsvp_te_why k s) whom k s

-- W13. Bandwidths answer everyone the same.
unfoldable pub link_why : List ℕ → List ℕ → List ℕ → Subject → ℕ → Why
link_why a b c whom k = unless_ask_refused (link_source a b c) whom k (cond (is_link_code k) (bandwidth_why k (stand_a a)) (side_why whom k (stand_of a b c k)))
