-- `bgpls_find::count_words` meets its contract: with the list at hand and those behind it, all are counted.
use Rattle.bgpls_find.proofs.SrlgLaws.{Counted}
use Rattle.bgpls_find.specs.Words.{srlg_words}
use Rattle.bgpls_find.specs.Walks.{attributes_from, list_at, AtList}
use Rattle.bgpls_find.specs.Sets.{attributes_in}
use lib.ListN.{length}
use mathlib.Core.List.{◌++◌}
use Prim.Native.Nat.{◌-◌, ◌*◌, ◌≤◌}
use Rattle.bgpls_find.proofs.count_words.Given as goal

abbrev pub invariant-loop-next : goal.invariant-loop-next
invariant-loop-next l = AtList l.set l.r l.first l.next × (l.n * 4 ≤ l.first)
    × Counted (srlg_words (attributes_in l.set l.r)) l.n (srlg_words (list_at l.r l.first l.next ++ attributes_from l.set l.r l.next))

abbrev pub decreases-loop-next : goal.decreases-loop-next
decreases-loop-next l = length l.r - l.next
