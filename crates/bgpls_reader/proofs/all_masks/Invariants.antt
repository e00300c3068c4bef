-- With what the 1122s that are left name, the numbers hold all that are named.
use Rattle.bgpls_reader.proofs.NamedLaws.{Held}
use Rattle.frames.specs.Left.{whole_left}
use Rattle.frames.proofs.Walks.{Within}
use Rattle.linkstate.specs.BgpLs.{check_top}
use Rattle.linkstate.specs.Elements.{faults}
use Rattle.linkstate.specs.Replies.{accepted, run_bgp_ls}
use lib.ListN.{length}
use mathlib.Core.Path.{◌≡◌}
use Rattle.bgpls_reader.proofs.all_masks.Given as goal

abbrev pub invariant-loop-e : goal.invariant-loop-e
invariant-loop-e l = record {
  within : Within 2 (length l.run.bytes.now) (whole_left l.e-iterator);
  passes : faults run_bgp_ls check_top (whole_left l.e-iterator) ≡ accepted;
  held : Held l.m l.run.bytes.now (whole_left l.e-iterator);
}
