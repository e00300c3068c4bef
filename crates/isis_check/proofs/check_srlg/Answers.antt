-- Each way out is one of the definition's checks, in its order.
use mathlib.Core.Path.{sym, ap, ◌∙◌}
use Rattle.std.specs.Prelude.{Ok}
use Rattle.replies.proofs.Laws.{none-else, err-else}
use Prim.Native.Nat.{◌+◌}
use native.Mathlib.Omega.{arith}
use Rattle.isis_check.proofs.SrlgLaws.{ignored-srlg, past-srlg, masks-end-in, cut-srlg, within-srlg, parts-srlg}
use Rattle.isis_check.proofs.check_srlg.Goals as goal

pub returns-in_default : goal.returns-in_default
returns-in_default c =
    let p = err-else _ c.in_default.not-Ok in
    past-srlg _ _ _ c.requires.1 c.requires.0 _ c.requires.3 p.0 (sym c.masks_within.ensures ∙ p.1) _ c.refuse_at.ensures

pub returns-in_default-masks : goal.returns-in_default-masks
returns-in_default-masks c =
    ignored-srlg _ _ _ c.requires.1 c.requires.0 _ c.requires.3 (sym c.masks_within.ensures ∙ c.in-Ok.is ∙ ap Ok (none-else _ c.in_default-masks.not-Some))

pub overflow_add-list : goal.overflow_add-list
overflow_add-list c = omega (arith, masks-end-in _ _ _ c.requires.1 c.requires.0 _ c.requires.3 _ (sym c.masks_within.ensures ∙ c.in-Ok.is ∙ ap Ok c.in-Some.is))

pub overflow_add-list-2 : goal.overflow_add-list-2
overflow_add-list-2 c = omega (arith, masks-end-in _ _ _ c.requires.1 c.requires.0 _ c.requires.3 _ (sym c.masks_within.ensures ∙ c.in-Ok.is ∙ ap Ok c.in-Some.is))

pub overflow_add-values : goal.overflow_add-values
overflow_add-values c = omega (arith, masks-end-in _ _ _ c.requires.1 c.requires.0 _ c.requires.3 _ (sym c.masks_within.ensures ∙ c.in-Ok.is ∙ ap Ok c.in-Some.is))

pub bounds-b-head : goal.bounds-b-head
bounds-b-head c = omega (arith, masks-end-in _ _ _ c.requires.1 c.requires.0 _ c.requires.3 _ (sym c.masks_within.ensures ∙ c.in-Ok.is ∙ ap Ok c.in-Some.is))

pub overflow_add-head-2 : goal.overflow_add-head-2
overflow_add-head-2 c = omega (arith, masks-end-in _ _ _ c.requires.1 c.requires.0 _ c.requires.3 _ (sym c.masks_within.ensures ∙ c.in-Ok.is ∙ ap Ok c.in-Some.is))

pub returns-then-end-values : goal.returns-then-end-values
returns-then-end-values c = cut-srlg _ _ _ c.requires.1 c.requires.0 _ c.requires.3 _ (sym c.masks_within.ensures ∙ c.in-Ok.is ∙ ap Ok c.in-Some.is) (omega arith) _ c.refuse_at-then-end-values.ensures

pub check_parts-requires : goal.check_parts-requires
check_parts-requires c = rw c.from.ensures (
  within-srlg _ _ _ c.requires.1 c.requires.0 _ c.requires.3 _ (sym c.masks_within.ensures ∙ c.in-Ok.is ∙ ap Ok c.in-Some.is) (omega arith)
      (omega (arith, c.type_inv.b (c.args.at + 9 + c.in-Some.masks))),
  c.requires.2,
)

pub returns : goal.returns
returns c = parts-srlg _ _ _ c.requires.1 c.requires.0 _ c.requires.3 _ (sym c.masks_within.ensures ∙ c.in-Ok.is ∙ ap Ok c.in-Some.is) (omega arith) _ c.check_parts.ensures
