-- The general set, RSVP-TE, or an application.
use mathlib.Core.Path.{refl}
use native.Mathlib.Omega.{arith}
use Rattle.rules.proofs.Laws.{told-application, told-rsvp-te, of-general, of-rsvp-te, of-standard, of-user, low-standard, low-user, as-whom}
use Rattle.rules.proofs.subject_rule.Goals as goal

pub is_named_with_l-l-requires : goal.is_named_with_l-l-requires
is_named_with_l-l-requires c = let l = low-standard _ _ c.in-Standard.is c.requires in omega arith

pub is_named-named-requires : goal.is_named-named-requires
is_named-named-requires c = let l = low-standard _ _ c.in-Standard.is c.requires in omega arith

pub returns-then-n-eq0 : goal.returns-then-n-eq0
returns-then-n-eq0 c = λ s t h. as-whom s _ _ _ c.in-Standard.is
    (of-rsvp-te s _ _ (omega arith)
    (told-rsvp-te s _ t _ _ _ c.is_named_with_l-l.ensures c.is_named-named.ensures _ (omega arith) _ h
    c.rsvp_te_rule.ensures))

pub returns-in-Standard : goal.returns-in-Standard
returns-in-Standard c = λ s t h. as-whom s _ _ _ c.in-Standard.is
    (of-standard s _ _ (λ e. omega (arith, e))
    (told-application s _ t _ _ _ c.is_named_with_l-l.ensures c.is_named-named.ensures _
    c.application_rule.ensures))

pub overflow_add-k : goal.overflow_add-k
overflow_add-k c = let l = low-user _ _ c.in-User.is c.requires in omega arith

pub is_named_with_l-l-requires-in-User : goal.is_named_with_l-l-requires-in-User
is_named_with_l-l-requires-in-User c = let l = low-user _ _ c.in-User.is c.requires in omega arith

pub is_named-named-requires-in-User : goal.is_named-named-requires-in-User
is_named-named-requires-in-User c = let l = low-user _ _ c.in-User.is c.requires in omega arith

pub returns-in-User : goal.returns-in-User
returns-in-User c = λ s t h. as-whom s _ _ _ c.in-User.is
    (of-user s _ _ (told-application s _ t _ _ _ c.is_named_with_l-l-in-User.ensures c.is_named-named-in-User.ensures _
    c.application_rule-in-User.ensures))

pub returns : goal.returns
returns c = λ s t h. as-whom s _ _ _ c.in-General.is (of-general s _ refl)
