-- The first element of the type is the first attribute of its code.
use Rattle.isis_grids.proofs.Rows.{row-end, row-found, row_next}
use Rattle.isis_grids.specs.Grid.{row_of}
use Rattle.frames.specs.Left.{whole_left}
use Rattle.frames.proofs.Walks.{Within, within}
use Rattle.isis.specs.Types.{code_of_type}
use Rattle.isis.specs.RunA.{attributes_of}
use Rattle.linkstate.specs.Elements.{Element}
use Rattle.linkstate.specs.Lists.{each}
use lib.ListN.{length}
use native.Mathlib.Omega.{arith}
use mathlib.Core.List.{List}
use mathlib.Core.Path.{refl, sym, ap, subst, ◌∙◌}
use Prim.Native.Nat.{◌+◌}
use Rattle.isis_grids.proofs.row_in.Goals as goal

pub new-at-items-requires-clause-uncut : goal.new-at-items-requires-clause-uncut
new-at-items-requires-clause-uncut c = c.requires.2

pub loop-at-init : goal.loop-at-init
loop-at-init c = let a = c.args in
    let e = ap whole_left c.into_iter-at-iterator.ensures.into_iter_gives ∙ c.new-at-items.ensures in
    record {
      within = subst (Within 1 (a.base + length a.s.now)) (sym e) (within 1 (omega arith) a.base _ a.s.now refl);
      found = ap (λ (es : List Element). row_of (code_of_type a.t) (each attributes_of es)) e;
    }

pub overflow_add-result : goal.overflow_add-result
overflow_add-result c = omega (arith, (rw c.in-Some.ensures.steps at c.loop-at.invariant.within).0, c.requires.1)

pub returns-then-kind-from : goal.returns-then-kind-from
returns-then-kind-from c = row-found c.in-Some.ensures.steps _ c.requires.0 (c.if-kind-from.true ∙ c.from.ensures) ∙ c.loop-at.invariant.found

pub loop-at-preserved : goal.loop-at-preserved
loop-at-preserved c = let e = c.in-Some.ensures.steps in
    record {
      within = (rw e at c.loop-at.invariant.within).1;
      found = row_next e _ c.requires.0 (λ i. c.if-kind-from.false (i ∙ sym c.from.ensures)) ∙ c.loop-at.invariant.found;
    }

pub returns : goal.returns
returns c = row-end _ c.in-None.ensures.steps.0 ∙ c.loop-at.invariant.found
