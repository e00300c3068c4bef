-- What was written names, or the refusal does.
use Rattle.round_trip.proofs.Back.{named_back_lem}
use Rattle.round_trip.specs.ReadBack.{refused_names}
use Rattle.isis_export.proofs.Delivered.{delivered}
use Rattle.std.specs.Prelude.{Result}
use Prim.Native.Nat.{ℕ}
use Rattle.replies.specs.declared.Refusal.{Refusal}
use Rattle.replies.proofs.Laws.{passed_on}
use Rattle.replies.specs.Told.{told_refusal, told_exported}
use mathlib.Core.Path.{refl, sym, ◌∙◌, ap}
use Rattle.round_trip.proofs.named_export.Goals as goal

pub slice_bounds-named-end : goal.slice_bounds-named-end
slice_bounds-named-end c = let a = c.args in
    (delivered a.a.now a.b.now a.c.now a.out.now c.in_ok-n.n _ (sym c.export.ensures.out_after
    ∙ ap (λ (x : Result ℕ Refusal). told_exported x c.export.new.out) c.in_ok-n.was)).within

pub returns-in_err-n : goal.returns-in_err-n
returns-in_err-n c =
    rw (passed_on _ _ c.from_residual.ensures.1)
    (refused_names (told_refusal c.in_err-n.field-0.0)
    (sym c.export.ensures.out_after ∙ ap (λ (x : Result ℕ Refusal). told_exported x c.export.new.out) c.in_err-n.was) refl)

pub returns : goal.returns
returns c = let a = c.args in
    named_back_lem a.a.now a.b.now a.c.now a.out.now _ c.in_ok-n.n
    (sym c.export.ensures.out_after ∙ ap (λ (x : Result ℕ Refusal). told_exported x c.export.new.out) c.in_ok-n.was) _ c.named.ensures
