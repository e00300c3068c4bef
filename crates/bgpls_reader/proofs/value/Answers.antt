-- Nothing where it is refused or SRLG, else the part that was found.
use Rattle.bgpls_reader.proofs.Laws.{granted, source-bytes}
use Rattle.answering.proofs.Entries.{value-refused, value-srlg, value-part}
use Rattle.replies.proofs.Laws.{err-else}
use Rattle.replies.specs.Told.{told_checked}
use borrow.Author.Tests.{ne_eqb}
use mathlib.Core.Path.{sym, ap, ◌∙◌}
use Rattle.bgpls_reader.proofs.value.Goals as goal

pub returns-in_default : goal.returns-in_default
returns-in_default c = let p = err-else _ c.in_default.not-Ok in
    value-refused _ _ _ _ (sym c.check_asked.ensures.verdict ∙ ap told_checked p.1)

pub returns-then-code-eq1096 : goal.returns-then-code-eq1096
returns-then-code-eq1096 c = value-srlg _ _ _ (sym c.in-Ok.ensures.verdict) c.if-code-eq1096.true

pub part_of-requires : goal.part_of-requires
part_of-requires c = let g = granted _ _ _ (sym c.in-Ok.ensures.verdict) in (g.1, g.2, ne_eqb _ 1096 c.if-code-eq1096.false)

pub returns : goal.returns
returns c = value-part _ _ _ _ (sym c.in-Ok.ensures.verdict) c.if-code-eq1096.false
    (source-bytes _ _ _ (rw c.in-Ok.ensures.bytes at c.part_of.ensures))
