-- Each way out is the first refusal of the definition's checks; else the names are those of the two runs.
use mathlib.Core.Path.{refl, sym, ap, ◌∙◌}
use native.Mathlib.Omega.{arith}
use Rattle.linkstate.specs.Replies.{refused}
use Rattle.replies.proofs.Laws.{passed_on}
use Rattle.isis_check.proofs.Laws.{link-long, link-odd, link-short, refused-a, refused-b, accepted-both}
use Rattle.isis_check.proofs.check_sides.Goals as goal

pub returns-then-too_long : goal.returns-then-too_long
returns-then-too_long c = record { told = ap refused c.refuse_call.ensures ∙ link-long _ _ _ (sym c.too_long.ensures ∙ c.if-too_long.true); names = tt }

pub returns-then-c-ne0 : goal.returns-then-c-ne0
returns-then-c-ne0 c = record { told = ap refused c.refuse_call-then-c-ne0.ensures ∙ link-odd _ _ _ (sym c.too_long.ensures ∙ c.if-too_long.false) (λ e. omega (arith, e)); names = tt }

pub check_a-requires : goal.check_a-requires
check_a-requires c = let q = c.args in
    let s = link-short q.a.now q.b.now q.c.now (sym c.too_long.ensures ∙ c.if-too_long.false) in omega (arith, s.0)

pub returns-in_err-side_a : goal.returns-in_err-side_a
returns-in_err-side_a c = rw (passed_on _ _ c.from_residual.ensures.1)
    (refused-a _ _ _ (sym c.too_long.ensures ∙ c.if-too_long.false) (omega arith) _ c.check_a.ensures _ c.in_err-side_a.was)

pub check_side_b-requires : goal.check_side_b-requires
check_side_b-requires c = let q = c.args in
    let s = link-short q.a.now q.b.now q.c.now (sym c.too_long.ensures ∙ c.if-too_long.false) in omega (arith, s.1)

pub returns-in_err-names : goal.returns-in_err-names
returns-in_err-names c = rw (passed_on _ _ c.from_residual-in_err-names.ensures.1)
    (refused-b _ _ _ (sym c.too_long.ensures ∙ c.if-too_long.false) (omega arith) _ c.check_a.ensures _ c.in_ok-side_a.was
    _ (c.check_side_b.ensures _) _ c.in_err-names.was)

pub returns : goal.returns
returns c = accepted-both _ _ _ (sym c.too_long.ensures ∙ c.if-too_long.false) (omega arith) _ c.check_a.ensures _ c.in_ok-side_a.was
    _ (c.check_side_b.ensures _) _ c.in_ok-names.was _ refl
