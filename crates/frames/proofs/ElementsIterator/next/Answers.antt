-- Nothing more, an element that is cut off, or a whole one, by the bytes that are left and the length in the header.
use mathlib.Core.Path.{ap}
use native.Mathlib.Omega.{arith}
use Rattle.std.proofs.Common.{rules, length}
use Rattle.linkstate.proofs.WalkLaws.{left_end}
use Rattle.frames.proofs.Steps.{gives-short, gives-long, gives-whole}
use Rattle.frames.proofs.ElementsIterator.next.Goals as goal

pub returns-then-list-place-clause-steps : goal.returns-then-list-place-clause-steps
returns-then-list-place-clause-steps g c =
    let it = c.args.self.now in
    let e = left_end g.W.Width.BYTES g.met.W.Width.some it.base it.list.now it.at (omega arith) in
    (e, e)

pub returns-then-list-value-clause-steps : goal.returns-then-list-value-clause-steps
returns-then-list-value-clause-steps g c =
    let it = c.args.self.now in
    gives-short g.W.Width.BYTES g.met.W.Width.some it.base it.list.now it.at _ c.BYTES.ensures (omega arith) (omega arith)

pub returns-then-list-value-clause-goes : goal.returns-then-list-value-clause-goes
returns-then-list-value-clause-goes g c =
    let shorter = ap length (returns-then-list-value-clause-steps g c) in
    search rules

pub returns-then-list-next-clause-steps : goal.returns-then-list-next-clause-steps
returns-then-list-next-clause-steps g c =
    let it = c.args.self.now in
    gives-long g.W.Width.BYTES g.met.W.Width.some it.base it.list.now it.at _ c.BYTES.ensures _ _ c.number_at-len.ensures.value c.BYTES-2.ensures (omega arith) (omega arith)

pub returns-then-list-next-clause-goes : goal.returns-then-list-next-clause-goes
returns-then-list-next-clause-goes g c =
    let shorter = ap length (returns-then-list-next-clause-steps g c) in
    search rules

pub returns-clause-steps : goal.returns-clause-steps
returns-clause-steps g c =
    let it = c.args.self.now in
    gives-whole g.W.Width.BYTES g.met.W.Width.some it.base it.list.now it.at _ c.BYTES.ensures _ _ c.number_at-len.ensures.value c.BYTES-2.ensures _ c.number_at-kind.ensures.value (omega arith)

pub returns-clause-goes : goal.returns-clause-goes
returns-clause-goes g c =
    let shorter = ap length (returns-clause-steps g c) in
    search rules
