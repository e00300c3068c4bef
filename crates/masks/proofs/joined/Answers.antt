-- `masks::joined` meets its contract.
-- Assumes nothing.
use Rattle.masks.proofs.Steps.{or-in}
use Rattle.masks.proofs.joined.Goals as goal

pub returns : goal.returns
returns c = or-in _ _
