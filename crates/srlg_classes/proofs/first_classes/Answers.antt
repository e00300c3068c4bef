-- Source 0, then source 1.
use mathlib.Core.Path.{refl, ◌∙◌}
use lib.ListN.{length-set}
use native.Mathlib.Omega.{arith}
use Rattle.srlg_table.proofs.Tabling.{none_row, table_none}
use Rattle.srlg_classes.proofs.Assigns.{with-more, legacy-rowed, general-rowed, firsts}
use Rattle.srlg_classes.proofs.first_classes.Goals as goal

pub class_of-legacy-requires : goal.class_of-legacy-requires
class_of-legacy-requires c = let a = c.args in
    let z = length-set a.classes.now 0 none_row in (
      c.requires.0,
      c.requires.2,
      c.requires.5,
      omega (arith, c.requires.3),
      omega (arith, c.requires.4),
      omega arith,
      legacy-rowed a.used.sources c.requires.1,
      table_none a.rows.now a.used.sources a.used.words a.classes.now a.heads.now a.buckets.now (omega (arith, c.requires.3))
          (omega (arith, c.requires.4)) c.requires.6,
    )

pub class_of-general-requires : goal.class_of-general-requires
class_of-general-requires c = let w = c.with_class-one in
    let k = c.class_of-legacy in
    let m = with-more 1 k.result in
    let z = length-set c.args.classes.now 0 none_row in (
      c.requires.0,
      c.requires.2,
      k.auto.buckets ∙ c.requires.5,
      omega (arith, w.ensures, m.1, k.auto.classes, z, c.requires.3),
      omega (arith, w.ensures, m.1, k.auto.heads, c.requires.4),
      omega (arith, w.ensures, m.1),
      general-rowed c.args.used.sources c.requires.1,
      rw w.ensures k.ensures.table,
    )

pub with_class-count-requires : goal.with_class-count-requires
with_class-count-requires c = let w = c.with_class-one in
    let k = c.class_of-legacy in
    omega (arith, w.ensures, (with-more 1 k.result).1)

pub returns : goal.returns
returns c = firsts c.args.rows.now c.args.used.sources c.args.used.words _ _ _ _ _ _ _ c.class_of-legacy.result _ _ c.with_class-one.ensures
    c.with_class-count.ensures refl c.class_of-legacy.ensures c.class_of-general.ensures
