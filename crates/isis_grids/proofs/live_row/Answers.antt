-- The row of the first list that has one: what is left has it where no list so far did.
use Rattle.isis_grids.proofs.Rows.{live-row-found, live-row-next, live-row-end}
use Rattle.isis_grids.proofs.Aslas.{live_all}
use Rattle.isis_grids.specs.Selected.{selected}
use Rattle.isis_grids.specs.Grid.{row_of}
use Rattle.frames.specs.Left.{whole_left}
use Rattle.frames.proofs.Walks.{Within, within, uncut, passed-here, passed-rest}
use Rattle.isis.specs.Types.{code_of_type}
use Rattle.isis.specs.RunA.{check_a}
use Rattle.linkstate.specs.Elements.{Element, faults}
use Rattle.linkstate.specs.Replies.{run_a}
use Rattle.linkstate.specs.Lists.{each}
use lib.ListN.{length}
use native.Mathlib.Omega.{arith}
use mathlib.Core.List.{List}
use mathlib.Core.Path.{sym, ap, subst, ◌∙◌}
use Rattle.isis_grids.proofs.live_row.Goals as goal

pub new-e-items-requires-clause-uncut : goal.new-e-items-requires-clause-uncut
new-e-items-requires-clause-uncut c = uncut run_a check_a _ c.requires.1

pub loop-e-init : goal.loop-e-init
loop-e-init c = let x = c.args in
    let a = x.a.now in
    let e = ap whole_left c.into_iter-e-iterator.ensures.into_iter_gives ∙ c.new-e-items.ensures in
    record {
      within = subst (Within 1 (length a)) (sym e) (within 1 (omega arith) 0 _ a (omega arith));
      passed = ap (faults run_a check_a) e ∙ c.requires.1;
      found = ap (λ (es : List Element). row_of (code_of_type x.t) (each (selected x.which) es)) e ∙ ap (row_of (code_of_type x.t)) (sym (live_all x.which a));
    }

pub row_of_one-row-requires : goal.row_of_one-row-requires
row_of_one-row-requires c = let i = c.loop-e.invariant in
    let e = c.in-Some.ensures.steps in
    (c.requires.0, omega (arith, (rw e at i.within).0), passed-here run_a check_a e i.passed)

pub returns-then-is_some : goal.returns-then-is_some
returns-then-is_some c = let r = c.row_of_one-row in
    live-row-found _ _ c.in-Some.ensures.steps r.result r.ensures (sym c.is_some.ensures ∙ c.if-is_some.true) ∙ c.loop-e.invariant.found

pub loop-e-preserved : goal.loop-e-preserved
loop-e-preserved c = let i = c.loop-e.invariant in
    let e = c.in-Some.ensures.steps in
    let r = c.row_of_one-row in
    record {
      within = (rw e at i.within).1;
      passed = passed-rest run_a check_a e i.passed;
      found = live-row-next _ _ e r.result r.ensures (sym c.is_some.ensures ∙ c.if-is_some.false) ∙ i.found;
    }

pub returns : goal.returns
returns c = live-row-end _ _ c.in-None.ensures.steps.0 ∙ c.loop-e.invariant.found
