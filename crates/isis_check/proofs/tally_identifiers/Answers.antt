-- The tally so far and that of what is left sum up.
use mathlib.Core.Path.{sym, ap, ◌∙◌}
use native.Mathlib.Omega.{arith}
use native.Mathlib.Nat.{zero-add}
use Rattle.frames.specs.Left.{elements_left}
use Rattle.frames.proofs.Walks.{gave-whole, gave-cut}
use Rattle.replies.proofs.Laws.{none-else, err-else}
use Rattle.isis_check.specs.Identifiers.{tally_of}
use Rattle.isis_check.proofs.LawsOfB.{tally-end, tally-cut, tally-turn, tally-small}
use Rattle.isis_check.proofs.tally_identifiers.Goals as goal

pub loop-e-init : goal.loop-e-init
loop-e-init c = zero-add _ ∙ ap tally_of (ap elements_left c.into_iter-e-iterator.ensures.into_iter_gives ∙ c.new-e-items.ensures)

pub loop-e-preserved-in_default : goal.loop-e-preserved-in_default
loop-e-preserved-in_default c =
    let p = err-else _ c.in_default.not-Ok in
    omega (arith, c.loop-e.invariant, tally-cut (gave-cut p.0 p.1 c.in-Some.ensures.steps))

pub overflow_add-tally : goal.overflow_add-tally
overflow_add-tally c =
    let w = tally-turn (gave-whole c.in-Ok.e c.in-Ok.is c.in-Some.ensures.steps) _ (sym c.in-Some-known_identifier.is ∙ c.known_identifier.ensures) in
    omega (arith, c.loop-e.invariant, w, tally-small 0 c.args.s.now (omega arith))

pub loop-e-preserved-in-Some-known_identifier : goal.loop-e-preserved-in-Some-known_identifier
loop-e-preserved-in-Some-known_identifier c =
    let w = tally-turn (gave-whole c.in-Ok.e c.in-Ok.is c.in-Some.ensures.steps) _ (sym c.in-Some-known_identifier.is ∙ c.known_identifier.ensures) in
    omega (arith, c.loop-e.invariant, w)

pub loop-e-preserved : goal.loop-e-preserved
loop-e-preserved c =
    let w = tally-turn (gave-whole c.in-Ok.e c.in-Ok.is c.in-Some.ensures.steps) _ (sym (none-else _ c.in_default-known_identifier.not-Some) ∙ c.known_identifier.ensures) in
    omega (arith, c.loop-e.invariant, w)

pub returns : goal.returns
returns c = omega (arith, c.loop-e.invariant, tally-end c.in-None.ensures.steps.0)
