-- The reply of the row that was found.
use Rattle.answering.proofs.RowLaws.{row-readable, row-answers}
use Rattle.isis_link.proofs.ValueLaws.{stands-first}
use mathlib.Core.List.{[]}
use Rattle.isis_link.proofs.answer_value.Goals as goal

pub answer_row-requires : goal.answer_row-requires
answer_row-requires c = row-readable _ _ _ _ (stands-first _ _ _ _ c.requires [] []) _ (c.find_row.ensures [] [])

pub returns : goal.returns
returns c = λ b d. row-answers _ _ _ _ (stands-first _ _ _ _ c.requires b d) _ (c.find_row.ensures b d) _ c.answer_row.ensures
