-- No element that was passed has the code.
use Rattle.octets.specs.Spans.{found_in}
use Rattle.frames.specs.Left.{whole_left}
use Rattle.frames.proofs.Walks.{Within}
use Rattle.linkstate.specs.BgpLs.{attributes_of}
use Rattle.linkstate.specs.Attributes.{of_kind}
use Rattle.linkstate.specs.Elements.{elements}
use Rattle.linkstate.specs.Lists.{each}
use lib.ListN.{length}
use mathlib.Core.Path.{◌≡◌}
use Prim.Native.Nat.{◌+◌}
use Rattle.bgpls_find.proofs.first_element.Given as goal

abbrev pub invariant-loop-at : goal.invariant-loop-at
invariant-loop-at l = record {
  within : Within 2 (l.base + length l.s) (whole_left l.at-iterator);
  found : found_in (of_kind l.code (each attributes_of (whole_left l.at-iterator))) ≡ found_in (of_kind l.code (each attributes_of (elements 2 l.base l.s)));
}
