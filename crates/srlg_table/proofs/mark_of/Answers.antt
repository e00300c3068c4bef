use Rattle.std.proofs.Common.{arith, ◌<◌, length-take}
use lib.Seq.{get_or-take}
use Rattle.srlg_table.proofs.Words.{mark-none, mark-next, mark-is}
use Rattle.srlg_table.proofs.mark_of.Goals as goal

pub loop-word-init : goal.loop-word-init
loop-word-init c = (omega arith, mark-none c.args.x.now)

pub loop-word-preserved : goal.loop-word-preserved
loop-word-preserved c = let l = c.loop-word in
    let x = c.args.x.now in
    let i = l.word-index in
    let n : i < c.args.words = omega (arith, length-take c.args.words x) in
    (omega arith, mark-next x i l.h _ l.invariant.1 (rw (get_or-take c.args.words x i 0 n) at c.mix-h.ensures))

pub returns : goal.returns
returns c = let l = c.loop-word in
    mark-is c.args.x.now c.args.words l.word-index l.h _ (omega (arith, length-take c.args.words c.args.x.now)) l.invariant.1 c.fold.ensures
