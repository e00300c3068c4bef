-- Nothing, or the bytes where the value was found.
use Rattle.answering.proofs.RowLaws.{row_within, row-part, row-none}
use Rattle.bgpls_reader.proofs.ValueLaws.{stands-first}
use native.Mathlib.Omega.{arith}
use Rattle.bgpls_reader.proofs.part_of.Goals as goal

pub returns-in_default : goal.returns-in_default
returns-in_default c = let p = c.requires in
    row-none _ _ _ _ (stands-first _ c.args.run.passed c.args.whom p.0 _ p.1 p.2) _ c.find_value.ensures c.in_default.is

pub overflow_add-result : goal.overflow_add-result
overflow_add-result c = let p = c.requires in
    omega (arith, row_within _ _ _ _ (stands-first _ c.args.run.passed c.args.whom p.0 _ p.1 p.2) _ c.find_value.ensures _ c.in-Some.is)

pub slice_bounds-result-end-2 : goal.slice_bounds-result-end-2
slice_bounds-result-end-2 c = let p = c.requires in
    omega (arith, row_within _ _ _ _ (stands-first _ c.args.run.passed c.args.whom p.0 _ p.1 p.2) _ c.find_value.ensures _ c.in-Some.is)

pub returns : goal.returns
returns c = let p = c.requires in
    row-part _ _ _ _ (stands-first _ c.args.run.passed c.args.whom p.0 _ p.1 p.2) _ c.find_value.ensures _ c.in-Some.is
