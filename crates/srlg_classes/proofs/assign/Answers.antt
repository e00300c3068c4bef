use Prim.Native.Nat.{◌<◌}
use mathlib.Core.Path.{◌≡◌, ◌∙◌}
use native.Mathlib.Omega.{arith}
use mathlib.Core.List.{[]}
use lib.ListN.{take, get_or}
use lib.Seq.{get_or-take, length-take-le}
use Rattle.srlg_classes.proofs.Assigns.{with-more, assigned-next}
use Rattle.srlg_classes.proofs.assign.Goals as goal

pub overflow_cast-c : goal.overflow_cast-c
overflow_cast-c c = let l = c.loop-b in
    omega (
      arith,
      c.requires.5,
      l.invariant.3.few.1,
      c.loop-b-test.true,
      length-take-le c.args.m c.args.blocks.now c.requires.2,
      c.class_of-c.ensures.here,
      (with-more l.count c.class_of-c.result).1,
    )

pub loop-b-preserved : goal.loop-b-preserved
loop-b-preserved c = let l = c.loop-b in
    let a = c.args in
    let k = c.class_of-c in
    let i = l.b-index in
    let h : i < c.args.m = omega (arith, c.loop-b-test.true, length-take-le c.args.m c.args.blocks.now c.requires.2) in
    let e : get_or (take a.m a.blocks.now) i [] ≡ get_or a.blocks.now i [] = get_or-take a.m a.blocks.now i [] h in (
      k.auto.classes ∙ l.invariant.0,
      k.auto.heads ∙ l.invariant.1,
      k.auto.buckets ∙ l.invariant.2,
      rw c.with_class-count.ensures
          (assigned-next a.rows.now a.used.sources a.used.words a.blocks.now a.classes.now a.own.now a.first l.classes l.heads l.own _ _ _ l.buckets _ i
          l.count k.result
          l.invariant.3 (rw e at k.ensures) (rw e at c.give_both.ensures)),
    )
