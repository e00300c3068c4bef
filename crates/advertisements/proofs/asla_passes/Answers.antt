-- Another type, one that is not live, or what its masks and its list say.
use mathlib.Core.Path.{refl, sym, ◌∙◌}
use native.Mathlib.Omega.{arith}
use Rattle.advertisements.proofs.Tests.{asla-other, asla-dead, asla-live, live-readable, and-taken, and_left}
use Rattle.advertisements.proofs.asla_passes.Goals as goal

pub returns-then-e-ne16 : goal.returns-then-e-ne16
returns-then-e-ne16 c = asla-other _ _ _ _ _ (λ e. omega arith)

pub returns-then-not-live_asla : goal.returns-then-not-live_asla
returns-then-not-live_asla c = asla-dead _ _ _ _ _ (omega arith) _ c.live_asla.ensures (c.if-not-live_asla.true)

pub header_passes-requires : goal.header_passes-requires
header_passes-requires c = live-readable _ (sym c.live_asla.ensures ∙ c.if-not-live_asla.false)

pub asla_carries-requires : goal.asla_carries-requires
asla_carries-requires c = (live-readable c.args.e.value.now
    (sym c.live_asla.ensures ∙ c.if-not-live_asla.false)).0

pub returns-then-header_passes : goal.returns-then-header_passes
returns-then-header_passes c = and-taken _ _ _ c.if-header_passes.true
    (asla-live _ _ _ _ _ (omega arith) _ c.live_asla.ensures (c.if-not-live_asla.false) _ c.header_passes.ensures _ c.asla_carries.ensures)

pub returns-else-header_passes : goal.returns-else-header_passes
returns-else-header_passes c = and_left _ _ _ c.if-header_passes.false
    (asla-live _ _ _ _ _ (omega arith) _ c.live_asla.ensures (c.if-not-live_asla.false) _ c.header_passes.ensures _ refl)
