use mathlib.Core.Path.{◌≡◌, refl, ◌∙◌, ap}
use mathlib.Core.List.{[]}
use lib.ListN.{length, get_or}
use native.Mathlib.Omega.{arith}
use Rattle.srlg_table.proofs.Sizes.{masks-none, total-least}
use Rattle.srlg_table.proofs.Refines.{common-block, common-row, minus, refining-start, refining-pass, refining-split, split-room, still-room, in-block}
use Rattle.srlg_table.proofs.Refines.{refined-early}
use Rattle.srlg_table.proofs.refine.Goals as goal
use Rattle.srlg_table.proofs.refine.Goals.{else-meets, then-meets}

pub loop-k-init : goal.loop-k-init
loop-k-init c = let a = c.args in
    let b = c.requires.4 in (
      refl,
      omega (arith, c.requires.3, b.laid.most, total-least a.blocks.now a.count b.laid.some),
      refining-start a.rows.now a.i a.standard a.user a.blocks.now c.requires.0 a.count _ _ b (common-row a.rows.now a.i a.standard a.user),
    )

pub split-n-requires : goal.split-n-requires
split-n-requires c = let l = c.loop-k in
    let a = c.args in
    let so = l.invariant.2 in
    let part = common-block (get_or l.blocks l.k []) l.s l.u in (
      c.requires.1,
      omega (arith, so.few),
      l.invariant.1,
      λ no. omega (
        arith,
        l.invariant.0,
        c.requires.3,
        split-room a.standard a.user l.blocks l.blocks l.k l.n _ _ a.i so.laid (omega (arith, so.few)) (λ o h e. refl)
            (in-block a.rows.now a.i a.standard a.user l.blocks c.requires.0 a.count l.n l.k l.s l.u _ _ so (omega arith) part) no
            (c.meets.ensures.0 c.if-meets.true),
      ),
    )

pub loop-k-preserved : goal.loop-k-preserved
loop-k-preserved c = let l = c.loop-k in
    let a = c.args in
    let rows = a.rows.now in
    let so = l.invariant.2 in
    let part = common-block (get_or l.blocks l.k []) l.s l.u in
    elim c.if-meets.branch [
      | then-meets w ↦ let less-of = minus l.s l.u _ _ _ _ w.without-s.ensures w.without-u.ensures in
          let some = c.meets.ensures.0 w.if-meets.true in
          let z : length c.if-meets.blocks ≡ length a.blocks.now = ap length w.blocks-is ∙ w.split-n.auto.blocks ∙ l.invariant.0 in
          let next = refining-split rows a.i a.standard a.user l.blocks c.requires.0 a.count l.n l.k l.s l.u _ _ so
          (omega arith) part _ _ _ _ some w.split-n.ensures less-of in
          let room = still-room rows a.i a.standard a.user l.blocks c.requires.0 a.count l.n l.k l.s l.u _ _ so
          (omega arith) part _ _ _ _ some w.split-n.ensures less-of
          (length a.blocks.now) c.requires.3 in
          (z, omega (arith, z, w.n-is, room), rw (w.blocks-is, w.n-is, w.s-is, w.u-is) next)
      | else-meets w ↦ let none = c.meets.ensures.1 w.if-meets.false in (
        ap length w.blocks-is ∙ l.invariant.0,
        omega (arith, ap length w.blocks-is, w.n-is, l.invariant.1),
        rw (w.blocks-is, w.n-is, w.s-is, w.u-is)
            (refining-pass rows a.i a.standard a.user l.blocks c.requires.0 a.count l.n l.k l.s l.u _ _ so (omega arith) part none),
      )
    ]

pub returns-then-s-u-eq0 : goal.returns-then-s-u-eq0
returns-then-s-u-eq0 c = let l = c.loop-k in
    let a = c.args in
    refined-early a.rows.now a.i a.standard a.user l.blocks c.requires.0 a.count l.n l.k l.s l.u l.invariant.2 (masks-none l.s l.u c.if-s-u-eq0.true)
