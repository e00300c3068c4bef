-- The row of the first list that has one: what is left has it where no list so far did.
use Rattle.isis_grids.specs.Selected.{selects, selected}
use Rattle.isis_grids.specs.Grid.{row_of}
use Rattle.frames.specs.Left.{whole_left}
use Rattle.frames.proofs.Walks.{Within}
use Rattle.isis.specs.Types.{code_of_type}
use Rattle.isis.specs.RunA.{check_a, side_a}
use Rattle.linkstate.specs.Sides.{of_live}
use Rattle.linkstate.specs.Elements.{faults}
use Rattle.linkstate.specs.Replies.{accepted, run_a}
use Rattle.linkstate.specs.Lists.{each}
use lib.ListN.{length}
use mathlib.Core.Path.{◌≡◌}
use Rattle.isis_grids.proofs.live_row.Given as goal

abbrev pub invariant-loop-e : goal.invariant-loop-e
invariant-loop-e l = record {
  within : Within 1 (length l.a) (whole_left l.e-iterator);
  passed : faults run_a check_a (whole_left l.e-iterator) ≡ accepted;
  found : row_of (code_of_type l.t) (each (selected l.which) (whole_left l.e-iterator)) ≡ row_of (code_of_type l.t) (of_live (selects l.which) (side_a l.a));
}
