-- Refused before the answer, or answered from run A.
use mathlib.Core.List.{[]}
use borrow.Author.Tests.{eqb-false}
use Rattle.statuses.proofs.EntryLaws as words
use Rattle.answering.proofs.RowLaws.{row-readable}
use Rattle.isis_link.proofs.Checks.{asked-refused, asked-passed, asked-with, asked-in-a}
use Rattle.isis_link.proofs.ValueLaws.{stands-first}
use Rattle.isis.specs.Link.{link_source}
use Rattle.replies.specs.Told.{subject_of}
use Rattle.statuses.proofs.ask_link_value.Goals as goal

pub find_row-requires : goal.find_row-requires
find_row-requires c = asked-in-a _ _ _ _ _ _ (asked-with _ _ _ _ _ _ c.check_asked.ensures _ c.in-Ok.is) c.requires

pub row_words-requires : goal.row_words-requires
row_words-requires c =
    let q = asked-in-a _ _ _ _ _ _ (asked-with _ _ _ _ _ _ c.check_asked.ensures _ c.in-Ok.is) c.requires in
    row-readable _ _ _ _ (stands-first _ _ _ _ q [] []) _ (c.find_row.ensures [] [])

pub returns-in-Ok : goal.returns-in-Ok
unfolding link_source
returns-in-Ok c =
    let a = c.args in
    let q = asked-in-a _ _ _ _ _ _ (asked-with _ _ _ _ _ _ c.check_asked.ensures _ c.in-Ok.is) c.requires in
    λ list. words.asked-row (link_source a.a.now a.b.now a.c.now) (subject_of a.whom) a.code list
    (asked-passed _ _ _ _ _ _ c.check_asked.ensures _ c.in-Ok.is) (eqb-false a.code 1096 c.requires)
    a.a.now (stands-first _ _ _ _ q a.b.now a.c.now) _ (c.find_row.ensures a.b.now a.c.now) (λ v e. e) _ c.row_words.ensures

pub returns-in-Err : goal.returns-in-Err
returns-in-Err c =
    let a = c.args in
    λ list. words.asked-refused (link_source a.a.now a.b.now a.c.now) (subject_of a.whom) a.code list _
    (asked-refused _ _ _ _ _ _ c.check_asked.ensures _ c.in-Err.is) _ c.from.ensures
