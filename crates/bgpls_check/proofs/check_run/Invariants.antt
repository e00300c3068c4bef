-- What is left decides as the whole run does, and stands in it.
use mathlib.Core.Path.{◌≡◌}
use Prim.Native.Nat.{◌≤◌}
use lib.ListN.{length}
use Rattle.linkstate.specs.BgpLs.{check_top, run_verdict}
use Rattle.linkstate.specs.Elements.{faults}
use Rattle.linkstate.specs.Replies.{run_bgp_ls}
use Rattle.frames.specs.Left.{elements_left}
use Rattle.frames.proofs.Walks.{Within}
use Rattle.bgpls_check.proofs.check_run.Given as goal

abbrev pub invariant-loop-e : goal.invariant-loop-e
invariant-loop-e l =
    record {
      small : length l.r ≤ 524288;
      within : Within 2 (length l.r) (elements_left l.e-iterator);
      verdict : faults run_bgp_ls check_top (elements_left l.e-iterator) ≡ run_verdict l.r;
    }
