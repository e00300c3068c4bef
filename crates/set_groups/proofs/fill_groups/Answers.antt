-- Turned masks hold the same applications.
use mathlib.Core.Path.{fun_ext}
use Rattle.set_groups.proofs.Fills.{filled-as}
use Rattle.set_groups.proofs.fill_groups.Goals as goal

pub returns : goal.returns
returns c = filled-as (fun_ext c.turned_set.ensures) c.join_all.ensures
