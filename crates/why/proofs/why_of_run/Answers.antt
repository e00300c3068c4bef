-- The top level, or by the rule that the run's 1122s give.
use Rattle.why.proofs.Rules.{run-bandwidth, run-rsvp-te, run-other}
use Rattle.replies.specs.Told.{subject_of}
use mathlib.Core.Path.{refl, sym, ◌∙◌}
use Rattle.why.proofs.why_of_run.Goals as goal
use Rattle.why.proofs.why_of_run.Goals.{then-is_link_code-via-then-is_link_code, then-is_link_code-via-else-is_link_code+then-is_rsvp_te}

pub returns-then-is_link_code : goal.returns-then-is_link_code
returns-then-is_link_code c =
    let a = c.args in
    c.top_why.ensures
    ∙ elim c.then-is_link_code.branch [
      | then-is_link_code-via-then-is_link_code w ↦ run-bandwidth a.run.bytes.now (subject_of a.whom) a.code _ (sym c.is_link_code.ensures ∙ w.if-is_link_code.true) refl
      | then-is_link_code-via-else-is_link_code+then-is_rsvp_te w ↦
          run-rsvp-te a.run.bytes.now (subject_of a.whom) a.code _ (sym c.is_link_code.ensures ∙ w.if-is_link_code.false) (sym w.is_rsvp_te.ensures ∙ w.if-is_rsvp_te.true) refl
    ]

pub run_rule-requires : goal.run_rule-requires
run_rule-requires c = (c.requires.0, sym c.is_rsvp_te.ensures ∙ c.if-is_rsvp_te.false)

pub why_by-requires : goal.why_by-requires
why_by-requires c = ((c.args.run.passed, c.requires.1), c.requires.0)

pub returns : goal.returns
returns c = run-other c.args.run.bytes.now (subject_of c.args.whom) c.args.code _
    (sym c.is_link_code.ensures ∙ c.if-is_link_code.false)
    (sym c.is_rsvp_te.ensures ∙ c.if-is_rsvp_te.false) _ c.run_rule.ensures c.why_by.ensures
