-- Too short, too long masks, or L for nobody.
use native.Mathlib.Omega.{arith}
use Rattle.advertisements.proofs.Tests.{live-short, live-too-long, live-is}
use Rattle.advertisements.proofs.live_asla.Goals as goal

pub returns-then-v-lt2 : goal.returns-then-v-lt2
returns-then-v-lt2 c = live-short c.args.v.now c.if-v-lt2.true

pub returns-then-mask_too_long : goal.returns-then-mask_too_long
returns-then-mask_too_long c = live-too-long _ _ c.read_header-h.ensures.0 (omega arith) _ c.mask_too_long.ensures c.if-mask_too_long.true

pub returns : goal.returns
returns c = live-is _ _ c.read_header-h.ensures.0 (omega arith) _ _ c.mask_too_long.ensures c.if-mask_too_long.false
    c.l_for_nobody.ensures
