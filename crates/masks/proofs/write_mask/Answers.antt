-- `masks::write_mask` meets its contract. Assumes nothing.
use Prim.Native.Nat.{◌≤◌}
use native.Mathlib.Omega.{arith}
use Rattle.masks.proofs.Steps.{sent-eight, sent-some, none_written, four-written, eight-written}
use Rattle.masks.proofs.write_mask.Goals as goal

pub returns-then-m-eq0 : goal.returns-then-m-eq0
returns-then-m-eq0 c = none_written c.args.m c.ranges.m.fits c.args.out.now c.args.at c.if-m-eq0.true

pub write_four-requires : goal.write_four-requires
write_four-requires c = omega (arith, sent-some c.args.m c.ranges.m.fits c.args.out.now c.args.at (omega arith))

pub returns-then-high-eq0 : goal.returns-then-high-eq0
returns-then-high-eq0 c = four-written c.args.m c.ranges.m.fits c.args.out.now c.args.at _ c.write_four.ensures (omega arith) (omega (arith, c.if-high-eq0.true))

pub write_four-requires-2 : goal.write_four-requires-2
write_four-requires-2 c = omega (arith, sent-eight c.args.m c.ranges.m.fits c.args.out.now c.args.at (omega (arith, c.if-high-eq0.false)))

pub returns : goal.returns
returns c = let l : 4294967296 ≤ c.args.m = omega (arith, c.if-high-eq0.false) in
    let e = sent-eight c.args.m c.ranges.m.fits c.args.out.now c.args.at l in
    eight-written c.args.m c.ranges.m.fits c.args.out.now c.args.at _ _ c.write_four.ensures c.write_four-2.ensures l (omega arith)
