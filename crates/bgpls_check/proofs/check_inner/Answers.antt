-- An element's own check decides, that its type stood before, or what is left.
use mathlib.Core.Path.{sym, ap, ◌∙◌, subst}
use native.Mathlib.Omega.{arith}
use Rattle.linkstate.specs.BgpLs.{check_inner, known_inside}
use Rattle.linkstate.specs.Elements.{elements}
use Rattle.linkstate.specs.Replies.{run_bgp_ls, refused, fault}
use Rattle.frames.specs.Left.{elements_left}
use Rattle.frames.proofs.Walks.{gave-whole, gave-cut, left-all}
use Rattle.repeats.proofs.Once.{once-start, once-end, once-cut, once-wrong, once-place, once-before, once-twice, once-new, once-other}
use Rattle.bgpls_check.proofs.Laws.{two_bytes, Listed, inner-right, inner-wrong}
use Rattle.bgpls_check.proofs.check_inner.Goals as goal

pub loop-e-init : goal.loop-e-init
loop-e-init c =
    let a = c.args in
    let e = ap elements_left c.into_iter-e-iterator.ensures.into_iter_gives ∙ c.new-e-items.ensures in
    subst (Listed a.base a.s.now 0) (sym e)
    (once-start run_bgp_ls known_inside check_inner 2 two_bytes a.base a.s.now 0 (elements 2 a.base a.s.now) (sym (left-all 2 a.base a.s.now)))

pub returns-in-Err : goal.returns-in-Err
unfolding fault
returns-in-Err c =
    ap refused c.refuse_at.ensures
    ∙ once-cut c.loop-e.invariant (gave-cut c.in-Err.cut c.in-Err.is c.in-Some.ensures.steps)

pub returns-then-wrong_inside : goal.returns-then-wrong_inside
unfolding fault
returns-then-wrong_inside c =
    ap refused c.refuse_at-then-wrong_inside.ensures
    ∙ once-wrong c.loop-e.invariant (gave-whole c.in-Ok.e c.in-Ok.is c.in-Some.ensures.steps) _
    (inner-wrong _ _ c.in-Ok.e.value.now (sym c.wrong_inside.ensures ∙ c.if-wrong_inside.true))

pub overflow_sub-place : goal.overflow_sub-place
overflow_sub-place c =
    omega (arith, once-place c.loop-e.invariant (gave-whole c.in-Ok.e c.in-Ok.is c.in-Some.ensures.steps))

pub known_before-requires : goal.known_before-requires
known_before-requires c =
    (_, once-before c.loop-e.invariant (gave-whole c.in-Ok.e c.in-Ok.is c.in-Some.ensures.steps))

pub returns-then-known_before : goal.returns-then-known_before
unfolding fault
returns-then-known_before c =
    let o = c.loop-e.invariant in
    let e = gave-whole c.in-Ok.e c.in-Ok.is c.in-Some.ensures.steps in
    ap refused c.refuse_at-then-known_before.ensures
    ∙ once-twice o e (inner-right _ _ c.in-Ok.e.value.now (sym c.wrong_inside.ensures ∙ c.if-wrong_inside.false))
    _ (c.known_before.ensures o.order (once-before o e)) c.if-known_before.true

pub loop-e-preserved-else-known_before : goal.loop-e-preserved-else-known_before
loop-e-preserved-else-known_before c =
    let o = c.loop-e.invariant in
    let e = gave-whole c.in-Ok.e c.in-Ok.is c.in-Some.ensures.steps in
    once-other o e (inner-right _ _ c.in-Ok.e.value.now (sym c.wrong_inside.ensures ∙ c.if-wrong_inside.false))
    _ c.with_kind-seen.ensures _ (c.known_before.ensures o.order (once-before o e)) c.if-known_before.false

pub loop-e-preserved : goal.loop-e-preserved
loop-e-preserved c =
    once-new c.loop-e.invariant (gave-whole c.in-Ok.e c.in-Ok.is c.in-Some.ensures.steps)
    (inner-right _ _ c.in-Ok.e.value.now (sym c.wrong_inside.ensures ∙ c.if-wrong_inside.false))
    _ c.with_kind-seen.ensures _ c.may_have_stood-doubt.ensures c.if-doubt.false

pub returns : goal.returns
returns c = once-end c.loop-e.invariant c.in-None.ensures.steps.0
