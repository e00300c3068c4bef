-- No room for the masks, or what the masks say.
use native.Mathlib.Omega.{arith}
use Rattle.advertisements.proofs.Tests.{advertised-past, advertised-is, masks-short}
use Rattle.advertisements.proofs.header_passes.Goals as goal

pub returns-then-v-e : goal.returns-then-v-e
returns-then-v-e c = advertised-past _ _ c.read_header-h.result c.read_header-h.ensures.0 (omega arith)

pub passes-requires : goal.passes-requires
passes-requires c = let h = c.read_header-h in
    let m = masks-short _ h.result h.ensures.0 c.requires.1 in
    (omega arith, omega arith)

pub returns : goal.returns
returns c = let h = c.read_header-h in
    advertised-is _ _ h.result h.ensures.0 (omega arith) _ c.passes.ensures
