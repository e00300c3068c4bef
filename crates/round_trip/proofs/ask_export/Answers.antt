-- What was written answers, or the refusal does.
use Rattle.round_trip.proofs.Back.{asked-back, refused-back}
use Rattle.isis_export.proofs.Delivered.{delivered}
use Rattle.std.specs.Prelude.{Result}
use Prim.Native.Nat.{ℕ}
use Rattle.replies.specs.declared.Refusal.{Refusal}
use Rattle.replies.proofs.Laws.{passed_on}
use Rattle.replies.specs.Told.{subject_of, told_refusal, told_exported}
use mathlib.Core.Path.{sym, ◌∙◌, ap}
use Rattle.round_trip.proofs.ask_export.Goals as goal

pub slice_bounds-ask-end : goal.slice_bounds-ask-end
slice_bounds-ask-end c = let a = c.args in
    (delivered a.a.now a.b.now a.c.now a.out.now c.in_ok-n.n _ (sym c.export.ensures.out_after
    ∙ ap (λ (x : Result ℕ Refusal). told_exported x c.export.new.out) c.in_ok-n.was)).within

pub returns-in_err-n : goal.returns-in_err-n
returns-in_err-n c = let a = c.args in
    rw (passed_on _ _ c.from_residual.ensures.1)
    (refused-back a.a.now a.b.now a.c.now a.out.now _ (subject_of a.whom) a.code a.list.now (told_refusal c.in_err-n.field-0.0)
    (sym c.export.ensures.out_after ∙ ap (λ (x : Result ℕ Refusal). told_exported x c.export.new.out) c.in_err-n.was))

pub returns : goal.returns
returns c = let a = c.args in
    asked-back a.a.now a.b.now a.c.now a.out.now _ c.in_ok-n.n
    (sym c.export.ensures.out_after ∙ ap (λ (x : Result ℕ Refusal). told_exported x c.export.new.out) c.in_ok-n.was)
    (subject_of a.whom) a.code a.list.now _ c.ask.ensures
