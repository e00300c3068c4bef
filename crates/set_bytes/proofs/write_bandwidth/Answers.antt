-- The value of the row that the classifier tells.
use native.Mathlib.Omega.{arith}
use Rattle.tlv_bytes.proofs.Laws.{same-room, same_write}
use Rattle.grids.specs.Grids.{bandwidth_of}
use Rattle.grids.specs.Slots.{link_rows}
use Rattle.set_bytes.proofs.Laws.{three-codes, of-link, not-link, link-cell, bandwidth-kind, bandwidth-fits, kind-tlv}
use Rattle.set_bytes.proofs.write_bandwidth.Goals as goal

pub returns-in_default : goal.returns-in_default
returns-in_default c = absurd (not-link _ c.args.c c.classify_code-rule.ensures c.in_default.not-Link c.requires.2)

pub write_cell-requires : goal.write_cell-requires
write_cell-requires c = let a = c.args in
    let q = of-link _ a.c c.classify_code-rule.ensures _ c.in-Link.is c.requires.2 in
    let is = bandwidth-kind a.sets.run.now a.sets.rows.now _ q.below a.c q.at in (
      omega (arith, q.below, three-codes),
      bandwidth-fits a.sets.run.now a.sets.rows.now _ q.below c.requires.0,
      same-room (kind-tlv a.sets.run.now (link-cell a.sets.run.now a.sets.rows.now c.in-Link.k) _ (bandwidth_of a.sets.run.now (link_rows a.sets.rows.now)) a.c is q.code) a.out.now a.at c.requires.3,
    )

pub returns : goal.returns
returns c = let a = c.args in
    let q = of-link _ a.c c.classify_code-rule.ensures _ c.in-Link.is c.requires.2 in
    let is = bandwidth-kind a.sets.run.now a.sets.rows.now _ q.below a.c q.at in
    same_write (kind-tlv a.sets.run.now (link-cell a.sets.run.now a.sets.rows.now c.in-Link.k) _ (bandwidth_of a.sets.run.now (link_rows a.sets.rows.now)) a.c is q.code) a.out.now a.at c.write_cell.ensures
