use Prim.Native.Nat.{ℕ, ◌<◌, ◌^◌}
use Rattle.std.specs.Slice.Iter.{iter_rest}
use Rattle.std.specs.Iterator.Adapters.{rev_source}
use mathlib.Core.Path.{sym, ap, ◌∙◌, subst}
use mathlib.Core.List.{List}
use native.Mathlib.Omega.{arith}
use Rattle.std.proofs.Common.{rules}
use Rattle.masks.proofs.Steps.{Passed, passed-none, passed-next, passed-room}
use Rattle.masks.proofs.few_bytes.Goals as goal
use Rattle.masks.proofs.few_bytes.Goals.{In-Some}

pub loop-b-init : goal.loop-b-init
loop-b-init c = subst (λ (l : List ℕ). Passed c.args.s.now l 0) (sym (ap (λ i. iter_rest (rev_source i)) c.into_iter-b-iterator.ensures.into_iter_gives ∙ ap iter_rest c.rev-b-items.ensures.source ∙ (search rules))) (passed-none _)

room : (c : In-Some) → (c.loop-b.m < 256 ^ 7) × (c.in-Some.b.now < 256)
room c = passed-room _ _ _ c.loop-b.invariant (λ j. omega (arith, c.type_inv.s j)) c.requires _ _ c.in-Some.ensures.steps

pub overflow_mul-m : goal.overflow_mul-m
overflow_mul-m c = omega (arith, room (goal.at.overflow_mul-m c).In-Some)

pub overflow_add-m : goal.overflow_add-m
overflow_add-m c = omega (arith, room (goal.at.overflow_add-m c).In-Some, c.from.ensures)

pub loop-b-preserved : goal.loop-b-preserved
loop-b-preserved c = rw c.from.ensures (passed-next _ _ _ c.loop-b.invariant _ _ c.in-Some.ensures.steps)
