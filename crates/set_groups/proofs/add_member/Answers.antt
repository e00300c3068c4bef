-- The bit of an application in its half.
use Prim.Native.Nat.{◌%◌}
use native.Mathlib.Omega.{arith}
use Rattle.masks.proofs.Steps.{turned-below}
use Rattle.set_groups.proofs.Laws.{member-more}
use Rattle.set_groups.proofs.add_member.Goals as goal

pub overflow_shl-h : goal.overflow_shl-h
overflow_shl-h c = omega (arith, c.turned_place.ensures.0, turned-below (c.args.n % 64) (omega arith))

pub returns : goal.returns
returns c = member-more c.args.h.now c.args.n _ c.told-h c.fits-h c.requires c.turned_place.ensures.0
