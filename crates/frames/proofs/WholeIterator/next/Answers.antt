-- Nothing more, or an element that is whole since none is cut off.
use mathlib.Core.Path.{ap}
use native.Mathlib.Omega.{arith}
use Rattle.std.proofs.Common.{rules, length}
use Rattle.linkstate.proofs.WalkLaws.{left_end}
use Rattle.frames.proofs.Steps.{gives-whole, header-within, whole-within, rest-uncut}
use Rattle.frames.proofs.WholeIterator.next.Goals as goal

pub returns-then-list-place-clause-steps : goal.returns-then-list-place-clause-steps
returns-then-list-place-clause-steps g c =
    let it = c.args.self.now in
    let e = left_end g.W.Width.BYTES g.met.W.Width.some it.base it.list.now it.at (omega arith) in
    (e, e)

pub number_at-n-requires : goal.number_at-n-requires
number_at-n-requires g c =
    let it = c.args.self.now in
    omega (arith, header-within g.W.Width.BYTES g.met.W.Width.some it.base it.list.now it.at it.uncut (omega arith))

pub invariant_of-self : goal.invariant_of-self
invariant_of-self g c =
    let it = c.args.self.now in
    let l = whole-within g.W.Width.BYTES g.met.W.Width.some it.base it.list.now it.at it.uncut (omega arith) _ _ c.BYTES.ensures c.BYTES-2.ensures _ c.number_at-n.ensures.value in
    record {
      within = l;
      fits = it.fits;
      uncut = rest-uncut g.W.Width.BYTES g.met.W.Width.some it.base it.list.now it.at it.uncut (omega arith) _ _ c.BYTES.ensures c.BYTES-2.ensures _ c.number_at-n.ensures.value;
    }

pub returns-clause-steps : goal.returns-clause-steps
returns-clause-steps g c =
    let it = c.args.self.now in
    gives-whole g.W.Width.BYTES g.met.W.Width.some it.base it.list.now it.at _ c.BYTES.ensures _ _ c.number_at-n.ensures.value c.BYTES-2.ensures _ c.number_at-kind.ensures.value
    (whole-within g.W.Width.BYTES g.met.W.Width.some it.base it.list.now it.at it.uncut (omega arith) _ _ c.BYTES.ensures c.BYTES-2.ensures _ c.number_at-n.ensures.value)

pub returns-clause-goes : goal.returns-clause-goes
returns-clause-goes g c =
    let shorter = ap length (returns-clause-steps g c) in
    search rules
