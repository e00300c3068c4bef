-- `srlg_sources::order` meets its contract: the sorted keys are ranked. Assumes nothing.
use lib.ListN.{length}
use native.Mathlib.Omega.{arith}
use Rattle.srlg_sources.proofs.Keying.{first-climbs, first-length, first_rows, first-ordered}
use Rattle.srlg_sources.proofs.order.Goals as goal

pub rank-requires : goal.rank-requires
rank-requires c = let w = c.sort_first in
    let m = c.args.m in
    let keys = c.args.keys.now in (
      first-climbs keys _ m w.ensures,
      omega (arith, c.requires.0, first-length keys _ m c.requires.1 w.ensures),
      omega (arith, c.requires.2, first-length keys _ m c.requires.1 w.ensures, w.auto.values),
      first_rows (length c.args.rows.now) keys _ m w.ensures c.requires.3,
    )

pub returns : goal.returns
returns c = let k = c.rank in
    let w = c.sort_first in
    first-ordered c.args.keys.now _ c.args.m _ _ c.args.rows.now _
    (omega (arith, k.auto.values, w.auto.values, c.requires.2, first-length c.args.keys.now _ c.args.m c.requires.1 w.ensures, k.ensures.few)) w.ensures
    k.ensures
