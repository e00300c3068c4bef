use Prim.Native.Nat.{◌+◌, ◌-◌, ◌<◌}
use mathlib.Core.Path.{◌≡◌, ◌∙◌, ap}
use mathlib.Core.List.{[]}
use lib.ListN.{length, get_or}
use native.Mathlib.Omega.{arith}
use Rattle.export_bytes.specs.Sizes.{asla_of, entry_size, asla_size}
use Rattle.export_bytes.proofs.SizeLaws.{sum-start, sum-next, length_from, entry_from}
use Rattle.export_bytes.proofs.aslas_size.Goals as goal
use Rattle.export_bytes.proofs.aslas_size.Goals.{After-read}

inside : (c : After-read) → c.loop-h.h-index < length c.args.groups.now - c.args.first
inside c = let some = c.requires.0.some in omega (arith, c.loop-h-test.true, length_from c.args.groups.now c.args.first (omega arith))

entry : (c : After-read) → c.read.result ≡ asla_of (get_or c.args.groups.now (c.args.first + c.loop-h.h-index) [])
entry c = c.read.ensures ∙ ap asla_of (entry_from c.args.groups.now c.args.first c.loop-h.h-index (inside c))

pub loop-h-init : goal.loop-h-init
loop-h-init c = let a = c.args in (sum-start (entry_size a.sets.rows.now a.srlgs.classes.now a.groups.now) a.first, omega arith)

pub loop-h-preserved : goal.loop-h-preserved
loop-h-preserved c = let a = c.args in
    let z = c.size-total.ensures in (
      sum-next (entry_size a.sets.rows.now a.srlgs.classes.now a.groups.now) a.first _ _ _ c.loop-h.invariant.0 (z.0 ∙ ap (asla_size a.sets.rows.now a.srlgs.classes.now) (entry (goal.at.loop-h-preserved c).After-read)),
      omega (arith, c.loop-h.invariant.1, z.1),
    )
