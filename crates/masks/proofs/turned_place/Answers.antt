-- `masks::turned_place` meets its contract, computed at each number below 128. Assumes nothing.
use Rattle.masks.specs.Sets.{turned_place}
use Rattle.masks.proofs.Steps.{turns, turned-is}
use Rattle.masks.proofs.turned_place.Goals as goal

pub returns : goal.returns
unfolding turns turned_place
returns c = turned-is tt c.args.n c.requires
