-- `isis_index::add_all_old` meets its contract, kind by kind. Assumes nothing.
use native.Mathlib.Omega.{arith}
use Rattle.isis_index.proofs.Settling.{copying-begin, copying-set, copying-next, copying-end}
use Rattle.isis_index.proofs.add_all_old.Goals as goal

pub loop-k-init : goal.loop-k-init
loop-k-init c = copying-begin c.args.s c.requires.0

pub add_old-requires : goal.add_old-requires
add_old-requires c = let i = c.loop-k.invariant in let p = c.requires in
    (i.holds, omega (arith, p.1, i.given.same), copying-set i p.2, c.loop-k-test.true)

pub loop-k-preserved : goal.loop-k-preserved
loop-k-preserved c = let p = c.requires in let r = c.add_old.ensures in
    copying-next c.loop-k.invariant p.1 c.loop-k-test.true r.0 r.1

pub shape_of-sets : goal.shape_of-sets
shape_of-sets c = c.loop-k.invariant.given.same

pub returns : goal.returns
returns c = let i = c.loop-k.invariant in (i.holds, copying-end i c.loop-k-test.false)
