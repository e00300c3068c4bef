-- measured, then its length told, or refused, or written.
use native.Mathlib.Omega.{arith}
use Rattle.export_bytes.proofs.Laws.{open-front}
use Rattle.export_bytes.proofs.Measured.{measurable, whole_length}
use Rattle.export_bytes.proofs.Exported.{whole-export, measured, too_short, written}
use Rattle.export_bytes.proofs.export_sets.Goals as goal

pub first_entry-first-requires : goal.first_entry-first-requires
first_entry-first-requires c = let p = c.requires in measurable p.0 p.1

pub measure-size-requires : goal.measure-size-requires
measure-size-requires c = let p = c.requires in (measurable p.0 p.1, c.first_entry-first.ensures.1, p.2.inside, p.3)

pub returns-then-measuring : goal.returns-then-measuring
returns-then-measuring c m d =
    let a = c.args in
    let p = c.requires in
    let few = c.first_entry-first.ensures in
    let size = whole_length p.0 p.1 few.1 p.2 p.3 c.measure-size.ensures in
    measured (whole-export p.0 p.1 d _ few.0) a.out.now a.measuring _ size c.if-measuring.true

pub returns-then-out-size : goal.returns-then-out-size
returns-then-out-size c m d =
    let a = c.args in
    let p = c.requires in
    let few = c.first_entry-first.ensures in
    let size = whole_length p.0 p.1 few.1 p.2 p.3 c.measure-size.ensures in
    too_short (whole-export p.0 p.1 d _ few.0) a.out.now a.measuring _ size c.if-measuring.false c.refuse_call.result
    c.refuse_call.ensures (omega arith)

pub write_whole-requires : goal.write_whole-requires
write_whole-requires c = let a = c.args in
    let p = c.requires in
    let few = c.first_entry-first.ensures.1 in
    let size = whole_length p.0 p.1 few p.2 p.3 c.measure-size.ensures in
    (open-front p.0 p.4 p.5 a.out.now, p.1, few, p.2, p.3, omega arith)

pub returns : goal.returns
returns c m d =
    let a = c.args in
    let p = c.requires in
    let few = c.first_entry-first.ensures in
    let size = whole_length p.0 p.1 few.1 p.2 p.3 c.measure-size.ensures in
    let w = c.write_whole.ensures in
    written (whole-export p.0 p.1 d _ few.0) a.out.now a.measuring _ size c.if-measuring.false (omega arith) w.0
    w.1
