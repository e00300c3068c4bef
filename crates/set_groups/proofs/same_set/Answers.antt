-- By its tests.
use Prim.Native.Nat.{ℕ}
use mathlib.Core.Path.{sym, ◌∙◌, ap}
use Rattle.linkstate.specs.Lists.{same_rows}
use Rattle.grids.specs.Slots.{slot_values}
use Rattle.set_groups.proofs.Laws.{grids-tell}
use Rattle.set_groups.proofs.same_set.Goals as goal

pub returns-else-same_cells : goal.returns-else-same_cells
returns-else-same_cells c = let a = c.args in
    grids-tell a.sets.run.now a.sets.rows.now a.x a.s a.c _ (sym c.class_in.ensures.0 ∙ c.if-class_in-c.false)
    (c.same_values.ensures ∙ ap (λ (t : ℕ). same_rows (slot_values a.sets.run.now a.sets.rows.now t) (slot_values a.sets.run.now a.sets.rows.now a.s)) c.slot_in-t.ensures.0)
