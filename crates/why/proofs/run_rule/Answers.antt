-- By the subject.
use Rattle.why.proofs.Rules.{rule-general, rule-standard, rule-user}
use Rattle.rules.proofs.Laws.{low-user}
use Rattle.linkstate.specs.BgpLs.{run_side}
use native.Mathlib.Omega.{arith}
use mathlib.Core.Path.{refl}
use Rattle.why.proofs.run_rule.Goals as goal

pub overflow_add-n : goal.overflow_add-n
overflow_add-n c = let l = low-user _ _ c.in-User.is c.requires.0 in omega arith

pub returns-in-General : goal.returns-in-General
returns-in-General c = rule-general _ (run_side c.args.run.bytes.now) _ c.in-General.is refl

pub returns-in-Standard : goal.returns-in-Standard
returns-in-Standard c = rule-standard _ (run_side c.args.run.bytes.now) _ _ c.in-Standard.is c.requires.1 c.named_rule.ensures

pub returns-in-User : goal.returns-in-User
returns-in-User c = rule-user _ (run_side c.args.run.bytes.now) _ _ c.in-User.is c.named_rule-in-User.ensures
