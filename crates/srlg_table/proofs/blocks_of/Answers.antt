use mathlib.Core.Path.{refl}
use native.Mathlib.Omega.{arith}
use Rattle.srlg_table.proofs.Refines.{blocks-first}
use Rattle.srlg_table.proofs.blocks_of.Goals as goal

pub loop-i-init : goal.loop-i-init
loop-i-init c = let a = c.args in (
  omega arith,
  omega (arith, c.requires.0),
  refl,
  blocks-first a.rows.now a.standard a.user a.blocks.now
      (omega (arith, c.requires.3, c.requires.4)) c.requires.3,
)
