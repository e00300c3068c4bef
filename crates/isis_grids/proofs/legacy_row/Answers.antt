-- No element of a run that passed its checks is cut off.
use Rattle.frames.proofs.Walks.{uncut}
use Rattle.isis.specs.RunA.{check_a, side_a}
use Rattle.linkstate.specs.Replies.{run_a}
use borrow.Author.Rules.{rules}
use Rattle.isis_grids.proofs.legacy_row.Goals as goal

pub row_in-requires : goal.row_in-requires
row_in-requires c = (c.requires.0, search rules, uncut run_a check_a _ c.requires.1)

pub returns : goal.returns
unfolding side_a
returns c = c.row_in.ensures
