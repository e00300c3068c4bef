-- The highest power of two below.
use Rattle.masks.proofs.Steps.{last-power}
use Rattle.masks.proofs.last_bit.Goals as goal

pub returns : goal.returns
returns c = let e = c.checked_ilog2.ensures in last-power _ _ e.none e.power_le e.next_power_gt e.bound
