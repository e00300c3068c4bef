-- `masks::exchange` meets its contract.
-- Assumes nothing.
use Rattle.masks.proofs.Steps.{exchange-in}
use Rattle.masks.proofs.exchange.Goals as goal

pub returns : goal.returns
returns c = exchange-in _ _ _
