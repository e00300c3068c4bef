-- `bgpls_find::first_in` meets its contract: no list that was passed has the kind.
use Rattle.bgpls_find.specs.Walks.{attributes_from, list_at, AtList}
use Rattle.bgpls_find.specs.Sets.{attributes_in}
use Rattle.octets.specs.Spans.{found_in}
use Rattle.linkstate.specs.Attributes.{of_kind}
use lib.ListN.{length}
use mathlib.Core.List.{◌++◌}
use mathlib.Core.Path.{◌≡◌}
use Prim.Native.Nat.{◌-◌}
use Rattle.bgpls_find.proofs.first_in.Given as goal

abbrev pub invariant-lists : goal.invariant-lists
invariant-lists l = AtList l.set l.r l.first l.next
    × (found_in (of_kind l.code (list_at l.r l.first l.next ++ attributes_from l.set l.r l.next)) ≡ found_in (of_kind l.code (attributes_in l.set l.r)))

abbrev pub decreases-lists : goal.decreases-lists
decreases-lists l = length l.r - l.next
