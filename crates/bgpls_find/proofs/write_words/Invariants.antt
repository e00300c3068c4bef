-- `bgpls_find::write_words` meets its contract: with the list at hand and those behind it, all are written.
use Rattle.bgpls_find.proofs.SrlgLaws.{Written}
use Rattle.bgpls_find.specs.Words.{srlg_words}
use Rattle.bgpls_find.specs.Walks.{attributes_from, list_at, AtList}
use Rattle.bgpls_find.specs.Sets.{attributes_in}
use lib.ListN.{length}
use mathlib.Core.List.{◌++◌}
use Prim.Native.Nat.{◌-◌}
use Rattle.bgpls_find.proofs.write_words.Given as goal

abbrev pub invariant-loop-k : goal.invariant-loop-k
invariant-loop-k l = AtList l.set l.r l.first l.next
    × Written l.initial.out 0 (srlg_words (attributes_in l.set l.r)) l.out l.k (srlg_words (list_at l.r l.first l.next ++ attributes_from l.set l.r l.next))

abbrev pub decreases-loop-k : goal.decreases-loop-k
decreases-loop-k l = length l.r - l.next
