-- Nothing where it is refused or SRLG; else where it stands in the run.
use mathlib.Core.Path.{sym, ap, ◌∙◌}
use Rattle.replies.proofs.Laws.{err-else}
use Rattle.statuses.proofs.EntryLaws.{place-refused, place-srlg, place-first}
use Rattle.bgpls_reader.proofs.Laws.{granted}
use Rattle.linkstate.specs.BgpLs.{run_source}
use Rattle.replies.specs.Told.{subject_of, told_checked}
use Rattle.statuses.proofs.value_run.Goals as goal

pub returns-in_default : goal.returns-in_default
returns-in_default c =
    let a = c.args in let p = err-else _ c.in_default.not-Ok in
    place-refused (run_source a.r.now) (subject_of a.whom) a.code _ _ c.nothing.ensures (sym c.check_asked.ensures.verdict ∙ ap told_checked p.1)

pub returns-then-code-eq1096 : goal.returns-then-code-eq1096
returns-then-code-eq1096 c =
    let a = c.args in
    place-srlg (run_source a.r.now) (subject_of a.whom) a.code _ c.nothing-then-code-eq1096.ensures (sym c.in-Ok.ensures.verdict) c.if-code-eq1096.true

pub find_value-requires : goal.find_value-requires
find_value-requires c = let a = c.args in let g = granted a.r.now (subject_of a.whom) a.code (sym c.in-Ok.ensures.verdict) in g.1

pub returns : goal.returns
unfolding run_source
returns c =
    let a = c.args in
    place-first (run_source a.r.now) (subject_of a.whom) a.code _ (sym c.in-Ok.ensures.verdict) c.if-code-eq1096.false (c.place_row.ensures _ (rw c.in-Ok.ensures.bytes at c.find_value.ensures))
