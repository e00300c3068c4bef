-- `masks::without` meets its contract.
-- Assumes nothing.
use Rattle.masks.proofs.Steps.{minus-in}
use Rattle.masks.proofs.without.Goals as goal

pub returns : goal.returns
returns c = minus-in _ _
