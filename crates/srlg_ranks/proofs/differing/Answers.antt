-- `srlg_ranks::differing` meets its contract. Assumes nothing.
use Rattle.masks.proofs.Laws.{same-members}
use Rattle.srlg_ranks.proofs.Bits.{differ-none, differ_same}
use Rattle.srlg_ranks.proofs.differing.Goals as goal

pub returns : goal.returns
returns c = let a = c.args in (differ-none a.x a.y, λ h. differ_same a.x a.y (same-members 64 a.x a.y c.ranges.x.fits c.ranges.y.fits h))
