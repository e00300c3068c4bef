-- `octets::copy_on` meets its contract: what is read stands before what is written. Assumes nothing.
use Prim.Native.Nat.{◌+◌}
use mathlib.Core.Path.{refl, ◌∙◌}
use lib.ListN.{length-set}
use lib.Seq.{paste-zero, get_or-set_other}
use native.Mathlib.Omega.{arith}
use Rattle.linkstate.specs.Bytes.{bytes_at}
use Rattle.octets.proofs.Laws.{length-bytes_at, copy-part-next, copy-end}
use Rattle.octets.proofs.copy_on.Goals as goal

pub loop-i-init : goal.loop-i-init
loop-i-init c = let a = c.args in (omega arith, refl, paste-zero a.out.now a.to (bytes_at a.out.now a.from a.n), λ j h. refl)

pub loop-i-preserved : goal.loop-i-preserved
loop-i-preserved c = let a = c.args in
    let e = c.loop-i.invariant.3 (a.from + c.loop-i.i) (omega arith) in (
      omega arith,
      simp length-set c.loop-i.invariant.1,
      copy-part-next a.out.now a.from a.n a.to c.loop-i.i c.loop-i.out c.loop-i.invariant.2 _ e (omega arith) (omega arith) (omega arith),
      λ j h. get_or-set_other c.loop-i.out (a.to + c.loop-i.i) j _ 0 (λ z. omega arith) ∙ c.loop-i.invariant.3 j h,
    )

pub shape_of-out : goal.shape_of-out
shape_of-out c = c.loop-i.invariant.1

pub returns : goal.returns
returns c = let a = c.args in
    let e = length-bytes_at a.out.now a.from a.n (omega arith) in
    copy-end a.out.now a.to (bytes_at a.out.now a.from a.n) c.loop-i.i c.loop-i.out c.loop-i.invariant.2 (omega arith)
