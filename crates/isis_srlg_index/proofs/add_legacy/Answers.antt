-- `isis_srlg_index::add_legacy` meets its contract. Assumes nothing.
use mathlib.Core.Path.{refl}
use native.Mathlib.Omega.{arith}
use Rattle.srlg.proofs.Laws.{length-words}
use Rattle.isis_srlg_index.proofs.Gathers.{carried-unused, carried-used}
use Rattle.isis_srlg_index.proofs.add_legacy.Goals as goal

pub returns-then-not-legacy_used : goal.returns-then-not-legacy_used
returns-then-not-legacy_used c =
    record {
      with_legacy = λ b first l.
          carried-unused b _ _ first _ c.args.rows.now c.args.k l c.requires.1 (omega (arith, c.requires.0))
          (c.legacy_used.ensures c.if-not-legacy_used.true);
      count_bound = omega arith;
    }

pub returns : goal.returns
returns c =
    let w = c.add_words-count.ensures in
    let many = length-words c.args.c.now in
    record {
      with_legacy = λ b first l.
          carried-used b _ _ first _ c.args.rows.now c.args.k l c.requires.1 _ _ w.value.0 refl w.value.1 w.small (omega (arith, c.requires.0, w.value.0));
      count_bound = omega (arith, w.value.0);
    }
