-- The first element of the type is the first attribute of its code.
use Rattle.isis_grids.specs.Grid.{row_of}
use Rattle.frames.specs.Left.{whole_left}
use Rattle.frames.proofs.Walks.{Within}
use Rattle.isis.specs.Types.{code_of_type}
use Rattle.isis.specs.RunA.{attributes_of}
use Rattle.linkstate.specs.Elements.{elements}
use Rattle.linkstate.specs.Lists.{each}
use lib.ListN.{length}
use mathlib.Core.Path.{◌≡◌}
use Prim.Native.Nat.{◌+◌}
use Rattle.isis_grids.proofs.row_in.Given as goal

abbrev pub invariant-loop-at : goal.invariant-loop-at
invariant-loop-at l = record {
  within : Within 1 (l.base + length l.s) (whole_left l.at-iterator);
  found : row_of (code_of_type l.t) (each attributes_of (whole_left l.at-iterator)) ≡ row_of (code_of_type l.t) (each attributes_of (elements 1 l.base l.s));
}
