-- `srlg_sources::bits_of` meets its contract: the low sources, then the high ones. Assumes nothing.
use mathlib.Core.Path.{◌∙◌, refl}
use Prim.Native.Nat.{◌+◌}
use native.Mathlib.Omega.{arith}
use Rattle.srlg_sources.proofs.Joins.{low-source, high-source, bits-joined}
use Rattle.srlg_sources.proofs.bits_of.Goals as goal

pub join_rows-requires : goal.join_rows-requires
join_rows-requires c = (refl, c.requires.0, omega arith, λ j h e. omega (arith, c.requires.1 j (omega arith) (low-source c.args.low c.args.high j h ∙ e)))

pub join_rows-requires-2 : goal.join_rows-requires-2
join_rows-requires-2 c = (
  c.join_rows.ensures.0,
  c.requires.0,
  omega arith,
  λ j h e. c.requires.1 (64 + j) (omega arith)
      (high-source c.args.low c.args.high j h ∙ e),
)

pub returns : goal.returns
returns c = bits-joined c.args.rows.now c.args.low c.args.high _ _ c.args.words c.requires.0 c.join_rows.ensures.1 c.join_rows-2.ensures.1
