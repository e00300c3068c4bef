-- Another type, too short, not live, or what its masks and its values say.
use mathlib.Core.Path.{refl, sym, ◌∙◌}
use native.Mathlib.Omega.{arith}
use Rattle.advertisements.proofs.Tests.{srlg-other, srlg-short, srlg-dead, srlg-live, after_is, srlg-readable, and-taken, and_left}
use Rattle.advertisements.proofs.srlg_passes.Goals as goal

pub returns-then-e-ne238 : goal.returns-then-e-ne238
returns-then-e-ne238 c = srlg-other _ _ _ _ _ (λ e. omega arith)

pub returns-then-value-lt9 : goal.returns-then-value-lt9
returns-then-value-lt9 c = srlg-short _ _ _ _ _ c.if-value-lt9.true

pub returns-then-not-live_srlg : goal.returns-then-not-live_srlg
returns-then-not-live_srlg c = srlg-dead _ _ _ _ _ (omega arith) _ (after_is _ (omega arith)) _ (c.live_srlg.ensures _) (c.if-not-live_srlg.true)

pub header_passes-requires : goal.header_passes-requires
header_passes-requires c = (omega arith, srlg-readable 0 _ (sym (c.live_srlg.ensures 0) ∙ c.if-not-live_srlg.false))

pub returns-then-header_passes : goal.returns-then-header_passes
returns-then-header_passes c = and-taken _ _ _ c.if-header_passes.true
    (srlg-live _ _ _ _ _ (omega arith) _ (after_is _ (omega arith)) _ (c.live_srlg.ensures _)
    (c.if-not-live_srlg.false) _ _ c.header_passes.ensures c.srlg_carries.ensures)

pub returns-else-header_passes : goal.returns-else-header_passes
returns-else-header_passes c = and_left _ _ _ c.if-header_passes.false
    (srlg-live _ _ _ _ _ (omega arith) _ (after_is _ (omega arith)) _ (c.live_srlg.ensures _) (c.if-not-live_srlg.false) _ _ c.header_passes.ensures refl)
