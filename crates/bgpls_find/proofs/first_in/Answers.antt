-- `bgpls_find::first_in` meets its contract: no list that was passed has the kind.
use Rattle.octets.proofs.Spans.{found_first, found-later, found_nowhere, found_none}
use Rattle.bgpls_find.proofs.SetLaws.{attributes-end, part-within, go_on, next-list}
use Rattle.bgpls_find.specs.Walks.{IsPart}
use Rattle.octets.specs.Spans.{found_in}
use Rattle.linkstate.specs.Attributes.{Attribute, of_kind}
use native.Mathlib.Omega.{arith}
use mathlib.Core.List.{List}
use mathlib.Core.Path.{sym, ap, ◌∙◌}
use Rattle.bgpls_find.proofs.first_in.Goals as goal
use Rattle.bgpls_find.proofs.first_in.Goals.{then-is_some-via-then-is_some, then-is_some-via-else-is_some+then-r-next}

pub lists-init : goal.lists-init
lists-init c = let a = c.args in
    let p = c.requires in (p.list, ap (λ (ts : List Attribute). found_in (of_kind a.code ts)) p.all)

pub slice_bounds-first_element-count : goal.slice_bounds-first_element-count
slice_bounds-first_element-count c = let l = c.lists.invariant.0 in omega arith

pub slice_bounds-first_element-start : goal.slice_bounds-first_element-start
slice_bounds-first_element-start c = let l = c.lists.invariant.0 in omega arith

pub slice_bounds-first_element-end : goal.slice_bounds-first_element-end
slice_bounds-first_element-end c = let l = c.lists.invariant.0 in omega arith

pub first_element-found-requires : goal.first_element-found-requires
first_element-found-requires c = let l = c.lists in
    (part-within c.args.run.bytes.now l.first l.next l.invariant.0.order l.invariant.0.within c.args.run.passed, l.invariant.0.uncut)

pub returns-then-is_some : goal.returns-then-is_some
returns-then-is_some c = let l = c.lists in
    let a = c.args in
    let f = c.first_element-found in
    let e = c.is_some.ensures in
    elim c.then-is_some.branch [
      | then-is_some-via-then-is_some w ↦ found_first a.code _ _ f.result f.ensures (sym e ∙ w.if-is_some.true) ∙ l.invariant.1
      | then-is_some-via-else-is_some+then-r-next w ↦ found_nowhere a.code _ _ f.result f.ensures (attributes-end a.start.set a.run.bytes.now l.next w.if-r-next.true)
          ∙ l.invariant.1
    ]

pub next_part-requires : goal.next_part-requires
next_part-requires c = let l = c.lists in go_on _ _ _ _ l.invariant.0 (omega arith)

pub returns-in_err-part : goal.returns-in_err-part
returns-in_err-part c = let f = c.first_element-found in
    c.from_residual.ensures ∙ found_none c.args.code _ _ f.result f.ensures c.in_err-part.ensures.1 (sym c.is_some.ensures ∙ c.if-is_some.false) ∙ c.lists.invariant.1

pub lists-smaller : goal.lists-smaller
lists-smaller c = let p : IsPart c.args.start.set c.args.run.bytes.now c.lists.next _ _ = c.in_ok-part.ensures in omega arith

pub lists-preserved : goal.lists-preserved
lists-preserved c = let l = c.lists in
    let a = c.args in
    let f = c.first_element-found in
    let p : IsPart c.args.start.set c.args.run.bytes.now c.lists.next _ _ = c.in_ok-part.ensures in (
      next-list _ _ _ _ l.invariant.0 _ _ p,
      ap (λ (ts : List Attribute). found_in (of_kind a.code ts)) (sym p.left)
          ∙ found-later a.code _ _ f.result f.ensures (sym c.is_some.ensures ∙ c.if-is_some.false) ∙ l.invariant.1,
    )
