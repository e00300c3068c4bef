-- The lengths of most values, else by the rule.
use mathlib.Core.Path.{refl, sym, ◌∙◌}
use Rattle.isis.proofs.Computing.{computing}
use Rattle.isis_check_a.proofs.Types.{four-fits, pair_fits}
use Rattle.isis_check_a.proofs.wrong_length.Goals as goal

pub returns-then-not-has : goal.returns-then-not-has
unfolding computing
returns-then-not-has c = four-fits 0x400040800 c.args.t (sym c.has.ensures ∙ c.if-not-has.true) refl refl refl c.args.n c.if-n-eq4.true

pub returns-then-n-t : goal.returns-then-n-t
unfolding computing
returns-then-n-t c = let a = c.args in pair_fits 18 3 refl a.t a.n c.if-n-t.true

pub returns-then-n-t-2 : goal.returns-then-n-t-2
unfolding computing
returns-then-n-t-2 c = let a = c.args in pair_fits 34 8 refl a.t a.n c.if-n-t-2.true

pub returns-then-n-t-3 : goal.returns-then-n-t-3
unfolding computing
returns-then-n-t-3 c = let a = c.args in pair_fits 14 8 refl a.t a.n c.if-n-t-3.true
