-- An element's own check decides, that its type stood before, or what is left.
use mathlib.Core.Path.{sym, ap, ◌∙◌, subst}
use Rattle.isis.specs.RunA.{check_attribute, known_type}
use lib.ListN.{drop}
use Rattle.linkstate.specs.Elements.{elements}
use Rattle.linkstate.specs.Replies.{run_a, refused, fault}
use Rattle.frames.specs.Left.{elements_left}
use Rattle.frames.proofs.Walks.{gave-whole, gave-cut, left-behind}
use Rattle.repeats.proofs.Once.{once-start, once-end, once-cut, once-wrong, once-twice, once-new, once-other}
use Rattle.isis_check_a.proofs.Laws.{one_byte, Listed, stood-before, list-fits, list-wrong}
use Rattle.isis_check_a.proofs.check_list.Goals as goal

pub loop-e-init : goal.loop-e-init
loop-e-init c =
    let a = c.args in
    let e = ap elements_left c.into_iter-e-iterator.ensures.into_iter_gives ∙ c.behind-e-items.ensures in
    subst (Listed a.s.now a.from 0) (sym e)
    (once-start run_a known_type check_attribute 1 one_byte 0 a.s.now a.from (elements 1 a.from (drop a.from a.s.now)) (sym (left-behind 1 a.s.now a.from)))

pub returns-in-Err : goal.returns-in-Err
unfolding fault
returns-in-Err c =
    ap refused c.refuse_at.ensures
    ∙ once-cut c.loop-e.invariant (gave-cut c.in-Err.cut c.in-Err.is c.in-Some.ensures.steps)

pub returns-then-wrong_length : goal.returns-then-wrong_length
unfolding fault
returns-then-wrong_length c =
    ap refused c.refuse_at-then-wrong_length.ensures
    ∙ once-wrong c.loop-e.invariant (gave-whole c.in-Ok.e c.in-Ok.is c.in-Some.ensures.steps) _
    (list-wrong _ _ c.in-Ok.e.value.now _ c.wrong_length.ensures c.if-wrong_length.true)

pub known_before-requires : goal.known_before-requires
known_before-requires c =
    (_, stood-before c.loop-e.invariant (gave-whole c.in-Ok.e c.in-Ok.is c.in-Some.ensures.steps))

pub returns-then-known_before : goal.returns-then-known_before
unfolding fault
returns-then-known_before c =
    let o = c.loop-e.invariant in
    let e = gave-whole c.in-Ok.e c.in-Ok.is c.in-Some.ensures.steps in
    ap refused c.refuse_at-then-known_before.ensures
    ∙ once-twice o e (list-fits _ _ c.in-Ok.e.value.now _ c.wrong_length.ensures c.if-wrong_length.false)
    _ (c.known_before.ensures o.order (stood-before o e)) c.if-known_before.true

pub loop-e-preserved-else-known_before : goal.loop-e-preserved-else-known_before
loop-e-preserved-else-known_before c =
    let o = c.loop-e.invariant in
    let e = gave-whole c.in-Ok.e c.in-Ok.is c.in-Some.ensures.steps in
    once-other o e (list-fits _ _ c.in-Ok.e.value.now _ c.wrong_length.ensures c.if-wrong_length.false)
    _ c.with_kind-seen.ensures _ (c.known_before.ensures o.order (stood-before o e)) c.if-known_before.false

pub loop-e-preserved : goal.loop-e-preserved
loop-e-preserved c =
    once-new c.loop-e.invariant (gave-whole c.in-Ok.e c.in-Ok.is c.in-Some.ensures.steps)
    (list-fits _ _ c.in-Ok.e.value.now _ c.wrong_length.ensures c.if-wrong_length.false)
    _ c.with_kind-seen.ensures _ c.may_have_stood-doubt.ensures c.if-doubt.false

pub returns : goal.returns
returns c = once-end c.loop-e.invariant c.in-None.ensures.steps.0
