-- `isis_export::export_checked` meets its contract: the refusal of the checks, or the answer of a link that passed them. Assumes nothing.
use Rattle.replies.proofs.Laws.{passed_on}
use Rattle.isis_export.proofs.Readying.{verdict-refused, verdict-accepted, sides-passed}
use Rattle.isis_export.proofs.Entries.{link-refused, link-accepted}
use Rattle.isis_export.proofs.export_checked.Goals as goal

pub export_accepted-requires : goal.export_accepted-requires
export_accepted-requires c = sides-passed c.check_sides.ensures _ c.in_ok-s.was

pub returns-in_err-s : goal.returns-in_err-s
returns-in_err-s c = let a = c.args in
    rw (passed_on _ _ c.from_residual.ensures.1)
    (link-refused a.measuring a.a.now a.b.now a.c.now a.out.now _ (verdict-refused c.check_sides.ensures _ c.in_err-s.was))

pub returns : goal.returns
returns c = let a = c.args in
    link-accepted a.measuring a.a.now a.b.now a.c.now a.out.now (verdict-accepted c.check_sides.ensures _ c.in_ok-s.was) _
    c.export_accepted.ensures
