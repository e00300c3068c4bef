use Rattle.std.proofs.Common.{arith, ◌*◌, ◌<◌, length-take}
use lib.ListN.{drop}
use lib.Seq.{get_or-take}
use Rattle.srlg_ranks.proofs.Steps.{length-next}
use Rattle.srlg_table.proofs.Words.{word-within, counted-end}
use Rattle.srlg_table.proofs.count_of.Goals as goal

pub loop-word-preserved : goal.loop-word-preserved
loop-word-preserved c = let l = c.loop-word in
    let x = c.args.x.now in
    let i = l.word-index in
    let n : i < c.args.words = omega (arith, length-take c.args.words x) in
    let e = rw (get_or-take c.args.words x i 0 n) at c.word_count-n.ensures in (
      omega arith,
      omega (arith, e.0),
      λ values h w. omega (arith, l.invariant.2 values h w, length-next values x i, e.1 (drop (64 * i) values) (word-within values x c.args.words i n w)),
    )

pub returns : goal.returns
returns c = let l = c.loop-word in
    let x = c.args.x.now in
    λ values h w. counted-end x values c.args.words l.word-index l.n _ h (omega (arith, length-take c.args.words x)) (l.invariant.2 values h w)
