-- No element that was passed has the code.
use Rattle.bgpls_find.proofs.Laws.{first-here, first-later, first-end}
use Rattle.frames.specs.Left.{whole_left}
use Rattle.frames.proofs.Walks.{Within, within}
use Rattle.linkstate.specs.BgpLs.{attributes_of}
use Rattle.linkstate.specs.Attributes.{of_kind}
use Rattle.linkstate.specs.Elements.{Element}
use Rattle.linkstate.specs.Lists.{each}
use Rattle.octets.specs.Spans.{found_in}
use lib.ListN.{length}
use native.Mathlib.Omega.{arith}
use mathlib.Core.List.{List}
use mathlib.Core.Path.{refl, sym, ap, subst, ◌∙◌}
use Prim.Native.Nat.{◌+◌}
use Rattle.bgpls_find.proofs.first_element.Goals as goal

pub new-at-items-requires-clause-uncut : goal.new-at-items-requires-clause-uncut
new-at-items-requires-clause-uncut c = c.requires.1

pub loop-at-init : goal.loop-at-init
loop-at-init c = let a = c.args in
    let e = ap whole_left c.into_iter-at-iterator.ensures.into_iter_gives ∙ c.new-at-items.ensures in
    record {
      within = subst (Within 2 (a.base + length a.s.now)) (sym e) (within 2 (omega arith) a.base _ a.s.now refl);
      found = ap (λ (es : List Element). found_in (of_kind a.code (each attributes_of es))) e;
    }

pub returns-then-kind-code : goal.returns-then-kind-code
returns-then-kind-code c = first-here c.in-Some.ensures.steps _ c.if-kind-code.true ∙ c.loop-at.invariant.found

pub loop-at-preserved : goal.loop-at-preserved
loop-at-preserved c = let e = c.in-Some.ensures.steps in
    record {
      within = (rw e at c.loop-at.invariant.within).1;
      found = first-later e _ c.if-kind-code.false ∙ c.loop-at.invariant.found;
    }

pub returns : goal.returns
returns c = first-end _ c.in-None.ensures.steps.0 ∙ c.loop-at.invariant.found
