use native.Mathlib.Omega.{arith}
use Rattle.export_bytes.proofs.SizeLaws.{link_start, link-next}
use Rattle.export_bytes.proofs.link_size.Goals as goal

pub loop-k-init : goal.loop-k-init
loop-k-init c = (link_start c.args.sets.now, omega arith)

pub loop-k-preserved : goal.loop-k-preserved
loop-k-preserved c = let l = c.loop-k in let z = c.bandwidth_size-total.ensures in (link-next c.args.sets.now l.k l.total _ l.invariant.0 z.0, omega (arith, l.invariant.1, z.1))
