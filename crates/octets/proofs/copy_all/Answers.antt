-- `octets::copy_all` meets its contract. The invariant: the first i bytes are copied.
-- Assumes nothing.
use mathlib.Core.Path.{refl}
use lib.ListN.{length-set}
use lib.Seq.{paste-zero}
use native.Mathlib.Omega.{arith}
use Rattle.octets.proofs.Laws.{copy-next, copy-end}
use Rattle.octets.proofs.copy_all.Goals as goal

pub loop-i-init : goal.loop-i-init
loop-i-init c = (omega arith, refl, refl, paste-zero c.args.out.now c.args.at c.args.src.now)

pub loop-i-preserved : goal.loop-i-preserved
loop-i-preserved c = let a = c.args in
    (omega arith, c.loop-i.invariant.1, simp length-set c.loop-i.invariant.2, copy-next a.out.now a.at a.src.now c.loop-i.i c.loop-i.out c.loop-i.invariant.3 0 (omega arith) (omega arith))

pub shape_of-out : goal.shape_of-out
shape_of-out c = c.loop-i.invariant.2

pub returns : goal.returns
returns c = let a = c.args in
    copy-end a.out.now a.at a.src.now c.loop-i.i c.loop-i.out c.loop-i.invariant.3 (omega arith)
