-- `set_groups::bucket_of` meets its contract. Assumes nothing.
use mathlib.Core.Path.{refl}
use native.Mathlib.Omega.{arith}
use Rattle.set_groups.specs.Table.{bucket_of}
use Rattle.set_groups.proofs.bucket_of.Goals as goal

pub returns : goal.returns
unfolding bucket_of
returns c = (refl, omega arith)
