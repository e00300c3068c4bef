-- By the value's length and the lengths of its masks.
use native.Mathlib.Omega.{arith}
use borrow.Author.Rules.{rules}
use Rattle.std.proofs.lemmas.Grind.{common_steps}
use Rattle.linkstate.specs.BgpLs.{check_asla, not_ignored, asla_header, inner_elements}
use Rattle.linkstate.specs.Replies.{fault}
use Rattle.bgpls_check.proofs.check_asla.Goals as goal

pub returns-then-v-lt4 : goal.returns-then-v-lt4
unfolding check_asla not_ignored asla_header inner_elements fault
returns-then-v-lt4 c = search rules

pub returns-then-not-not_ignored : goal.returns-then-not-not_ignored
unfolding check_asla not_ignored asla_header inner_elements fault
returns-then-not-not_ignored c = search rules

pub returns-then-v-first : goal.returns-then-v-first
unfolding check_asla not_ignored asla_header inner_elements fault
returns-then-v-first c = search rules

pub returns : goal.returns
unfolding check_asla not_ignored asla_header inner_elements fault
returns c = grind (arith, common_steps)
