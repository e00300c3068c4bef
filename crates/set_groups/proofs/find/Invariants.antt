-- Entries of the bucket that were passed have other sets.
use Rattle.set_groups.specs.Table.{word}
use Rattle.set_groups.proofs.Laws.{At}
use Rattle.set_groups.proofs.find.Given as goal

abbrev pub invariant-loop-i : goal.invariant-loop-i
invariant-loop-i l = At l.sets.run.now l.sets.rows.now (word l.groups) l.count l.s l.c l.i

abbrev pub decreases-loop-i : goal.decreases-loop-i
decreases-loop-i l = l.i
