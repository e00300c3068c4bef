-- 6, then 7, then nothing.
use Rattle.linkstate.specs.Kinds.{is_code}
use Rattle.answering.proofs.Laws.{refused-by-6, refused-by-7, no-refusal}
use mathlib.Core.Path.{sym, ◌∙◌}
use Rattle.answering.proofs.check_question.Goals as goal

pub returns-then-number_too_high : goal.returns-then-number_too_high
returns-then-number_too_high c = refused-by-6 _ (is_code c.args.code) _ c.refuse_call.ensures (sym c.number_too_high.ensures ∙ c.if-number_too_high.true)

pub returns-then-not-is_code : goal.returns-then-not-is_code
returns-then-not-is_code c = refused-by-7 _ _ _ c.refuse_call-then-not-is_code.ensures (sym c.number_too_high.ensures ∙ c.if-number_too_high.false) (sym c.is_code.ensures ∙ c.if-not-is_code.true)

pub returns : goal.returns
returns c = no-refusal _ _ (sym c.number_too_high.ensures ∙ c.if-number_too_high.false) (sym c.is_code.ensures ∙ c.if-not-is_code.false)
