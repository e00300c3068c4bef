-- Nothing, or the bytes of the row that was found.
use Rattle.answering.proofs.RowLaws.{row_within, row-part, row-none}
use Rattle.isis_link.proofs.ValueLaws.{stands-first}
use native.Mathlib.Omega.{arith}
use mathlib.Core.List.{[]}
use Rattle.isis_link.proofs.part_of.Goals as goal

pub returns-in_default : goal.returns-in_default
returns-in_default c = λ b d. row-none _ _ _ _ (stands-first _ _ _ _ c.requires b d) _ (c.find_row.ensures b d) c.in_default.is

pub overflow_add-result : goal.overflow_add-result
overflow_add-result c = omega (arith, row_within _ _ _ _ (stands-first _ _ _ _ c.requires [] []) _ (c.find_row.ensures [] []) _ c.in-Some.is)

pub slice_bounds-result-end-2 : goal.slice_bounds-result-end-2
slice_bounds-result-end-2 c = omega (arith, row_within _ _ _ _ (stands-first _ _ _ _ c.requires [] []) _ (c.find_row.ensures [] []) _ c.in-Some.is)

pub returns : goal.returns
returns c = λ b d. row-part _ _ _ _ (stands-first _ _ _ _ c.requires b d) _ (c.find_row.ensures b d) _ c.in-Some.is
