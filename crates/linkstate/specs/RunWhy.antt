-- Why a BGP-LS run gives a subject what it gives of a kind (rules L9, L10, L13).
use Rattle.std.specs.Prelude.{cond, List, ℕ}
use Rattle.linkstate.specs.Kinds.{is_link_code}
use Rattle.linkstate.specs.Replies.{place, run_bgp_ls}
use Rattle.linkstate.specs.Elements.{elements}
use Rattle.linkstate.specs.BgpLs.{advertisements_of, run_side, run_source}
use Rattle.linkstate.specs.Questions.{Subject}
use Rattle.linkstate.specs.Why.{Why, because, at_top, nowhere, Standing, subject_why, unless_ask_refused}

unfoldable pub stand_run : List ℕ → Standing
stand_run r = record { side = run_side r; spot = place run_bgp_ls; elements = elements 2 0 r; live = advertisements_of; legacy_run = run_bgp_ls }

-- L13. The top level gives bandwidths, whoever asks, and RSVP-TE's kinds; no 1122 has L.
unfoldable pub top_why : Why
top_why = because at_top nowhere

unfoldable pub run_why : List ℕ → Subject → ℕ → Why
run_why r whom k = unless_ask_refused (run_source r) whom k (cond (is_link_code k) top_why (subject_why top_why whom k (stand_run r)))
