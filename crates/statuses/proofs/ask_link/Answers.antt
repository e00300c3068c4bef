-- SRLGs as the entry answers them; any other kind by its value.
use Rattle.statuses.proofs.EntryLaws.{answered-srlg}
use Rattle.isis.specs.Link.{link_source}
use Rattle.replies.specs.Told.{subject_of}
use borrow.Author.Tests.{ne_eqb}
use Rattle.statuses.proofs.ask_link.Goals as goal

pub returns-then-code-eq1096 : goal.returns-then-code-eq1096
returns-then-code-eq1096 c = let a = c.args in
    answered-srlg (link_source a.a.now a.b.now a.c.now) (subject_of a.whom) a.code a.list.now _ _
    c.ask.ensures c.if-code-eq1096.true _ c.from.ensures

pub ask_link_value-requires : goal.ask_link_value-requires
ask_link_value-requires c = ne_eqb _ 1096 c.if-code-eq1096.false

pub returns : goal.returns
returns c = c.ask_link_value.ensures c.args.list.now
