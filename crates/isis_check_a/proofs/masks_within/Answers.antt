-- Ignored before past the end.
use mathlib.Core.Path.{sym, ap, ◌∙◌}
use native.Mathlib.Omega.{arith}
use borrow.Author.Tests.{ltb-true, ltb-false}
use Rattle.std.specs.Prelude.{Some, Ok, Err}
use Prim.Native.Nat.{ℕ}
use Rattle.isis_check_a.proofs.Laws.{masks-ignored, masks-past, masks-end}
use Rattle.isis_check_a.proofs.masks_within.Goals as goal

pub returns-then-mask_too_long : goal.returns-then-mask_too_long
returns-then-mask_too_long c = masks-ignored _ _ (sym c.mask_too_long.ensures ∙ c.if-mask_too_long.true)

pub returns-then-past : goal.returns-then-past
returns-then-past c =
    ap (λ (e : ℕ). Err (record { end = e })) c.header_length-end.ensures
    ∙ masks-past _ _ (sym c.mask_too_long.ensures ∙ c.if-mask_too_long.false) (omega (arith, c.header_length-end.ensures, ltb-true))

pub returns : goal.returns
returns c = ap (λ (e : ℕ). Ok (Some e)) c.header_length-end.ensures
    ∙ masks-end _ _ (sym c.mask_too_long.ensures ∙ c.if-mask_too_long.false) (omega (arith, c.header_length-end.ensures, ltb-false))
