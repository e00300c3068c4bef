-- A bandwidth of the link, or a subject's kind.
use mathlib.Core.Path.{refl, sym, ◌∙◌}
use Rattle.rules.proofs.Laws.{told-bandwidth, on-link, on-subject, both_of}
use Rattle.replies.specs.Told.{subject_of}
use Rattle.rules.proofs.decide.Goals as goal

pub returns-then-is_link_code : goal.returns-then-is_link_code
returns-then-is_link_code c = let q = c.args in
    let p = both_of (subject_of q.whom) q.code q.side.names q.side.legacy c.bandwidth_rule.result
    (λ s t h. on-link (subject_of q.whom) q.code s _ (sym c.is_link_code.ensures ∙ c.if-is_link_code.true)
    (told-bandwidth s _ t 0 _ _ c.is_named_with_l-l.ensures c.is_named-named.ensures _ refl q.code c.bandwidth_rule.ensures)) in
    record { taken = p.0; rule = p.1 }

pub returns : goal.returns
returns c = let q = c.args in
    let p = both_of (subject_of q.whom) q.code q.side.names q.side.legacy c.subject_rule.result (λ s t h. on-subject (subject_of q.whom) q.code s _ (sym c.is_link_code.ensures ∙ c.if-is_link_code.false)
    (c.subject_rule.ensures s t h)) in
    record { taken = p.0; rule = p.1 }
