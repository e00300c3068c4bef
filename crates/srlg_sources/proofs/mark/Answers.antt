-- `srlg_sources::mark` meets its contract. Assumes nothing.
use Rattle.srlg_sources.proofs.Marks.{marked-is}
use Rattle.srlg_sources.proofs.mark.Goals as goal

pub returns : goal.returns
returns c = marked-is c.args.rows.now c.args.source c.args.p c.requires.0 c.requires.1
