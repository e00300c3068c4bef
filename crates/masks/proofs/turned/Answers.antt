-- `masks::turned` meets its contract: that its three constants pair the bits, and where a bit comes to stand, is tested at each of the 64 places, by computation.
-- Assumes nothing.
use Rattle.linkstate.specs.Masks.{in_number}
use Rattle.masks.specs.Sets.{turned_place}
use Rattle.masks.proofs.Steps.{place, paired, mirrors, turn_in}
use Rattle.masks.proofs.turned.Goals as goal

pub returns : goal.returns
unfolding place paired mirrors in_number turned_place
returns c = turn_in _ _ _ _ _ _ _ c.exchange-a.ensures c.exchange-b.ensures c.exchange.ensures tt tt tt tt
