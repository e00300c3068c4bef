-- `isis_srlg_index::gather` meets its contract: run B, then run C. Assumes nothing.
use native.Mathlib.Omega.{arith}
use Rattle.isis_srlg_index.proofs.gather.Goals as goal

pub gather_b-k-requires : goal.gather_b-k-requires
gather_b-k-requires c =
    let r = c.requires.room in
    (c.requires.passed, record { short = (r.short.0, omega arith); numbers = omega (arith, r.numbers); sources = r.sources })

pub add_legacy-requires : goal.add_legacy-requires
add_legacy-requires c =
    let r = c.requires.room in
    let w = c.gather_b-k in
    (omega (arith, r.numbers, w.ensures.1, w.auto.keys), omega (arith, r.sources, w.ensures.0.few.1, w.auto.rows))

pub returns : goal.returns
returns c =
    let r = c.requires.room in
    let w = c.gather_b-k in
    let x = c.add_legacy.ensures in
    record {
      carried = x.with_legacy c.args.b.now c.args.keys.now (record { gathered = w.ensures.0; short = r.short.0; size = w.auto.keys; tells = c.requires.tells });
      count_in_bounds = (omega (arith, x.count_bound, w.ensures.1, r.numbers), omega (arith, x.count_bound, w.ensures.1, r.short));
    }
