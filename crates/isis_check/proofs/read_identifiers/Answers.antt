-- What is left decides, and the tally so far and that of what is left sum up.
use mathlib.Core.Path.{sym, ap, ◌∙◌}
use native.Mathlib.Omega.{arith}
use native.Mathlib.Nat.{zero-add}
use Rattle.linkstate.specs.Elements.{faults}
use Rattle.linkstate.specs.Replies.{run_b, refused, fault}
use Rattle.frames.specs.Left.{elements_left}
use Rattle.frames.proofs.Walks.{gave-whole, gave-cut, checked-all, check-cut}
use Rattle.replies.proofs.Laws.{none-else}
use Rattle.isis.specs.RunB.{check_identifier}
use Rattle.isis_check.specs.Identifiers.{tally_of}
use Rattle.isis_check.proofs.LawsOfB.{tally-end, tally-turn, tally-fits, identifier-on, identifier-stop, identifier-wrong, identifier-right, identifier-unknown}
use Rattle.isis_check.proofs.read_identifiers.Goals as goal

pub loop-e-init : goal.loop-e-init
loop-e-init c =
    let e = ap elements_left c.into_iter-e-iterator.ensures.into_iter_gives ∙ c.behind-e-items.ensures in
    (ap (faults run_b check_identifier) e, zero-add _ ∙ ap tally_of e)

pub returns-in-Err : goal.returns-in-Err
unfolding fault
returns-in-Err c =
    record {
      told = ap refused c.refuse_at.ensures ∙ check-cut run_b check_identifier (gave-cut c.in-Err.cut c.in-Err.is c.in-Some.ensures.steps) ∙ c.loop-e.invariant.0;
      tally = tt;
    }

pub returns-then-value-known : goal.returns-then-value-known
unfolding fault
returns-then-value-known c =
    let e = gave-whole c.in-Ok.e c.in-Ok.is c.in-Some.ensures.steps in
    record {
      told = ap refused c.refuse_at-then-value-known.ensures
          ∙ identifier-stop e (identifier-wrong _ _ _ c.known_identifier.ensures _ c.in-Some-known_identifier.is (λ h. omega (arith, h)))
          ∙ c.loop-e.invariant.0;
      tally = tt;
    }

pub overflow_add-tally : goal.overflow_add-tally
overflow_add-tally c =
    let w = tally-turn (gave-whole c.in-Ok.e c.in-Ok.is c.in-Some.ensures.steps) _ (sym c.in-Some-known_identifier.is ∙ c.known_identifier.ensures) in
    omega (arith, c.loop-e.invariant.1, w, tally-fits c.args.s.now c.args.from c.requires.1 c.requires.0)

pub loop-e-preserved-in-Some-known_identifier : goal.loop-e-preserved-in-Some-known_identifier
loop-e-preserved-in-Some-known_identifier c =
    let e = gave-whole c.in-Ok.e c.in-Ok.is c.in-Some.ensures.steps in
    let w = tally-turn e _ (sym c.in-Some-known_identifier.is ∙ c.known_identifier.ensures) in (
      identifier-on e (identifier-right _ _ _ c.known_identifier.ensures _ c.in-Some-known_identifier.is c.if-value-known.false) ∙ c.loop-e.invariant.0,
      omega (arith, c.loop-e.invariant.1, w),
    )

pub loop-e-preserved : goal.loop-e-preserved
loop-e-preserved c =
    let e = gave-whole c.in-Ok.e c.in-Ok.is c.in-Some.ensures.steps in
    let n = none-else _ c.in_default.not-Some in
    let w = tally-turn e _ (sym n ∙ c.known_identifier.ensures) in
    (identifier-on e (identifier-unknown _ _ _ c.known_identifier.ensures n) ∙ c.loop-e.invariant.0, omega (arith, c.loop-e.invariant.1, w))

pub returns : goal.returns
returns c =
    let e = c.in-None.ensures.steps.0 in
    record { told = checked-all run_b check_identifier e ∙ c.loop-e.invariant.0; tally = omega (arith, c.loop-e.invariant.1, tally-end e) }
