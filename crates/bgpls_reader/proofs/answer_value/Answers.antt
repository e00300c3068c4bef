-- The reply of what was found.
use Rattle.answering.proofs.RowLaws.{row-readable, row-answers}
use Rattle.bgpls_reader.proofs.ValueLaws.{stands-first}
use Rattle.bgpls_reader.proofs.answer_value.Goals as goal

pub answer_row-requires : goal.answer_row-requires
answer_row-requires c = let p = c.requires in
    row-readable _ _ _ _ (stands-first _ c.args.run.passed c.args.whom p.0 _ p.1 p.2) _ c.find_value.ensures

pub returns : goal.returns
returns c = let p = c.requires in
    row-answers _ _ _ _ (stands-first _ c.args.run.passed c.args.whom p.0 _ p.1 p.2) _ c.find_value.ensures _ c.answer_row.ensures
