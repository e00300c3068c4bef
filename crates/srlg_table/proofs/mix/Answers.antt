-- `srlg_table::mix` meets its contract. Assumes nothing.
use Rattle.srlg_table.proofs.Words.{mixed-word}
use Rattle.srlg_table.proofs.mix.Goals as goal

pub returns : goal.returns
returns c = mixed-word c.args.h c.args.x c.ranges.x.fits
