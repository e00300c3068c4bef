-- The first blocks, up to the walk's index, have their classes.
use mathlib.Core.Path.{◌≡◌}
use lib.ListN.{length}
use Rattle.srlg_classes.specs.Owned.{Assigned}
use Rattle.srlg_classes.proofs.assign.Given as goal

abbrev pub invariant-loop-b : goal.invariant-loop-b
invariant-loop-b l = (length l.classes ≡ length l.initial.classes) × (length l.heads ≡ length l.initial.heads)
    × (length l.buckets ≡ length l.initial.buckets)
    × Assigned l.rows l.used.sources l.used.words l.blocks l.b-index l.initial.classes l.initial.own l.classes l.heads l.buckets l.own l.first l.count
