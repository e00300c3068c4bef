use Rattle.std.proofs.Common.{arith, ◌∙◌, sym, refl, length, get_or}
use borrow.Author.Tests.{ltb-true}
use Rattle.key_sort.proofs.Numbers.{numbered-none, all-at}
use Rattle.srlg_sources.specs.Sources.{source_of, in_rows}
use Rattle.srlg_sources.proofs.Rankings.{Turned, noted-none, turned-new, turned-again, noted-next}
use Rattle.srlg_sources.proofs.rank.Goals as goal
use Rattle.srlg_sources.proofs.rank.Goals.{Joined-i-eq0, then-i-eq0, then-i-eq0-via-then-i-eq0, then-i-eq0-via-else-i-eq0+then-number-n, else-i-eq0+else-number-n}

-- The numbers after the test.
turned : (c : Joined-i-eq0) → Turned c.args.keys.now c.loop-i.values c.if-i-eq0.values c.loop-i.i c.loop-i.count c.if-i-eq0.count
turned c =
    let l = c.loop-i in
    let k = c.args.keys.now in
    let so = l.invariant.3 in
    let is = c.number-n.ensures in
    elim c.if-i-eq0.branch [
      | then-i-eq0 w ↦ turned-new k l.values c.if-i-eq0.values l.i l.count c.if-i-eq0.count so (omega arith) c.requires.0 (omega (arith, so.few))
          (elim w.then-i-eq0.branch [
            | then-i-eq0-via-then-i-eq0 u ↦ λ h e. omega (arith, so.few, u.if-i-eq0.true)
            | then-i-eq0-via-else-i-eq0+then-number-n u ↦ λ h e. u.if-number-n.true (u.number.ensures ∙ sym (so.latest (omega (arith, so.few))).1 ∙ sym e ∙ sym is)
          ]) (rw (w.from.ensures, is) at w.values-is) w.count-is
      | else-i-eq0+else-number-n w ↦ let last = so.latest (omega (arith, w.if-i-eq0.false)) in
          turned-again k l.values c.if-i-eq0.values l.i l.count c.if-i-eq0.count so (omega arith) c.requires.0 last.0 (omega (arith, so.few))
          (sym is ∙ sym w.if-number-n.false ∙ w.number.ensures ∙ sym last.1) w.values-is w.count-is
    ]

pub loop-i-init : goal.loop-i-init
loop-i-init c = (omega arith, refl, refl, numbered-none c.args.keys.now c.args.values.now, noted-none c.args.keys.now c.args.values.now c.args.rows.now)

pub mark-requires : goal.mark-requires
unfolding in_rows source_of
mark-requires c = let l = c.loop-i in
    let k = c.args.keys.now in
    let i = ltb-true (source_of (get_or k l.i 0)) (length c.args.rows.now) (all-at (in_rows (length c.args.rows.now)) k l.i c.requires.3 (omega arith)) in
    let t = turned (goal.at.mark-requires c).Joined-i-eq0 in
    (omega (arith, l.invariant.2), omega (arith, t.some, t.numbered.few))

pub loop-i-preserved : goal.loop-i-preserved
unfolding source_of
loop-i-preserved c = let l = c.loop-i in
    let k = c.args.keys.now in
    let w = c.mark in
    let t = turned (goal.at.loop-i-preserved c).Joined-i-eq0 in (
      omega arith,
      t.size ∙ l.invariant.1,
      w.auto.rows ∙ l.invariant.2,
      t.numbered,
      noted-next k l.values c.if-i-eq0.values l.i l.count c.if-i-eq0.count l.invariant.3 (omega arith) c.requires.0 t
          (omega (arith, t.size, l.invariant.1, t.numbered.few)) _ refl c.args.rows.now l.rows _ w.ensures l.invariant.4,
    )
