-- Refused before the answer, or answered from the run.
use mathlib.Core.Path.{sym, ap, ◌∙◌}
use borrow.Author.Tests.{eqb-false}
use Rattle.statuses.proofs.EntryLaws as words
use Rattle.answering.proofs.RowLaws.{row-readable}
use Rattle.bgpls_reader.proofs.Laws.{granted}
use Rattle.bgpls_reader.proofs.ValueLaws.{stands-first}
use Rattle.linkstate.specs.BgpLs.{run_source}
use Rattle.replies.specs.Told.{subject_of, told_checked}
use Rattle.statuses.proofs.ask_run_value.Goals as goal

pub find_value-requires : goal.find_value-requires
find_value-requires c = let a = c.args in let g = granted a.r.now (subject_of a.whom) a.code (sym c.in-Ok.ensures.verdict) in g.1

pub row_words-requires : goal.row_words-requires
row_words-requires c =
    let a = c.args in let g = granted a.r.now (subject_of a.whom) a.code (sym c.in-Ok.ensures.verdict) in
    row-readable _ _ _ _ (stands-first _ g.0 a.whom g.1 _ g.2 c.requires) _ (rw c.in-Ok.ensures.bytes at c.find_value.ensures)

pub returns-in-Ok : goal.returns-in-Ok
unfolding run_source
returns-in-Ok c =
    let a = c.args in let g = granted a.r.now (subject_of a.whom) a.code (sym c.in-Ok.ensures.verdict) in
    λ list. words.asked-row (run_source a.r.now) (subject_of a.whom) a.code list (sym c.in-Ok.ensures.verdict) (eqb-false a.code 1096 c.requires)
    a.r.now (stands-first _ g.0 a.whom g.1 _ g.2 c.requires) _ (rw c.in-Ok.ensures.bytes at c.find_value.ensures) (λ v e. e) _ c.row_words.ensures

pub returns-in-Err : goal.returns-in-Err
returns-in-Err c =
    let a = c.args in
    λ list. words.asked-refused (run_source a.r.now) (subject_of a.whom) a.code list _ (sym c.check_asked.ensures.verdict ∙ ap told_checked c.in-Err.is) _ c.from.ensures
