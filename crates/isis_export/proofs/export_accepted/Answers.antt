-- `isis_export::export_accepted` meets its contract, by the lengths of runs B and C. Assumes nothing.
use native.Mathlib.Omega.{arith}
use Rattle.isis_srlg_index.proofs.Rooms.{room-short, room-long}
use Rattle.isis_export.proofs.Readying.{none_passed, none-answered, both-short}
use Rattle.isis_export.proofs.export_accepted.Goals as goal

pub export_bare-requires : goal.export_bare-requires
export_bare-requires c = none_passed c.args.a.now c.args.b.now c.args.c.now c.if-b-c.true c.requires

pub returns-then-b-c : goal.returns-then-b-c
returns-then-b-c c = let a = c.args in
    none-answered a.a.now a.b.now a.c.now c.if-b-c.true _ a.measuring a.out.now c.export_bare.ensures

pub export_among-requires : goal.export_among-requires
export_among-requires c =
    let h = both-short _ _ _ _ c.if-b-c-2.true in
    (c.requires, room-short _ _ 128 14 h.0 h.1 (omega arith) (omega arith), omega arith, omega arith)

pub export_among-requires-2 : goal.export_among-requires-2
export_among-requires-2 c = let p = c.requires in
    (p, room-long _ _ 768 80 p.short.0 p.short.1 (omega arith) (omega arith), omega arith, omega arith)
