-- `srlg_ranks::word_count` meets its contract. Assumes nothing.
use native.Mathlib.Omega.{arith}
use lib.Count.{ones-le}
use Rattle.srlg_ranks.proofs.Laws.{word_ones}
use Rattle.srlg_ranks.proofs.word_count.Goals as goal

pub overflow_cast-result : goal.overflow_cast-result
overflow_cast-result c = omega (arith, ones-le 64 c.args.x c.ranges.x.fits)

pub returns : goal.returns
returns c = (ones-le 64 c.args.x c.ranges.x.fits, λ l h. word_ones 64 c.args.x l c.ranges.x.fits h)
