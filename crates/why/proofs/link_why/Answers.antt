-- Refused before the answer, or told of the side that the kind stands on.
use mathlib.Core.Path.{ap, ◌∙◌}
use borrow.Author.Tests.{ne_eqb}
use Rattle.isis.specs.Link.{link_source}
use Rattle.isis.specs.Why.{link_why}
use Rattle.isis_link.proofs.Checks.{asked-refused, asked-passed, asked-with, asked-in-a, b-passed}
use Rattle.replies.specs.Told.{subject_of, told_why}
use Rattle.replies.proofs.Laws.{passed_on}
use Rattle.why.specs.Runs.{link_answer}
use Rattle.why.proofs.Rules.{why-refused, why-told, as-srlg}
use Rattle.why.proofs.link_why.Goals as goal

pub returns-in_err-sides : goal.returns-in_err-sides
unfolding link_why link_answer
returns-in_err-sides c =
    let a = c.args in
    ap told_why (passed_on _ _ c.from_residual.ensures.1)
    ∙ why-refused (link_source a.a.now a.b.now a.c.now) (subject_of a.whom) a.code (link_answer a.a.now a.b.now a.c.now (subject_of a.whom) a.code) _
    (asked-refused _ _ _ _ _ _ c.check_asked.ensures _ c.in_err-sides.was)

pub why_in_b-requires : goal.why_in_b-requires
why_in_b-requires c = let q = asked-with _ _ _ _ _ _ c.check_asked.ensures _ c.in_ok-sides.was in (b-passed _ _ _ q.link, q.low)

pub returns-then-code-eq1096 : goal.returns-then-code-eq1096
unfolding link_why link_answer
returns-then-code-eq1096 c =
    let a = c.args in
    let q = asked-with _ _ _ _ _ _ c.check_asked.ensures _ c.in_ok-sides.was in
    why-told (link_source a.a.now a.b.now a.c.now) (subject_of a.whom) a.code (link_answer a.a.now a.b.now a.c.now (subject_of a.whom) a.code) _
    (asked-passed _ _ _ _ _ _ c.check_asked.ensures _ c.in_ok-sides.was)
    (as-srlg a.a.now a.b.now a.c.now (subject_of a.whom) a.code _ c.if-code-eq1096.true (c.why_in_b.ensures a.a.now a.c.now q.sides.in_b))

pub why_in_a-requires : goal.why_in_a-requires
why_in_a-requires c =
    asked-in-a _ _ _ _ _ _ (asked-with _ _ _ _ _ _ c.check_asked.ensures _ c.in_ok-sides.was) (ne_eqb _ 1096 c.if-code-eq1096.false)

pub returns : goal.returns
unfolding link_why link_answer
returns c =
    let a = c.args in
    why-told (link_source a.a.now a.b.now a.c.now) (subject_of a.whom) a.code (link_answer a.a.now a.b.now a.c.now (subject_of a.whom) a.code) _
    (asked-passed _ _ _ _ _ _ c.check_asked.ensures _ c.in_ok-sides.was) (c.why_in_a.ensures a.b.now a.c.now)
