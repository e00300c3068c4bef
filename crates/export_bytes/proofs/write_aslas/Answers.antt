use Prim.Native.Nat.{◌+◌, ◌-◌, ◌<◌}
use mathlib.Core.Path.{◌≡◌, ◌∙◌, ap}
use mathlib.Core.List.{[]}
use lib.ListN.{length, get_or}
use native.Mathlib.Omega.{arith}
use native.Mathlib.Numerals.{unary_clauses}
use Rattle.export_bytes.specs.Sizes.{asla_of}
use Rattle.export_bytes.proofs.SizeLaws.{length_from, entry_from}
use Rattle.export_bytes.proofs.Laws.{aslas-start, asla-asks, aslas-next}
use Rattle.export_bytes.proofs.write_aslas.Goals as goal
use Rattle.export_bytes.proofs.write_aslas.Goals.{After-read}

inside : (c : After-read) → c.loop-e.e-index < length c.args.groups.now - c.args.first
inside c = let some = c.requires.1.some in omega (arith, c.loop-e-test.true, length_from c.args.groups.now c.args.first (omega arith))

entry : (c : After-read) → c.read.result ≡ asla_of (get_or c.args.groups.now (c.args.first + c.loop-e.e-index) [])
entry c = c.read.ensures ∙ ap asla_of (entry_from c.args.groups.now c.args.first c.loop-e.e-index (inside c))

pub loop-e-init : goal.loop-e-init
loop-e-init c = let p = c.requires in simp unary_clauses (aslas-start p.0.tables p.0 p.1 p.2 p.3)

pub write-next-requires : goal.write-next-requires
write-next-requires c = let p = c.requires in
    let q = (goal.at.write-next-requires c).After-read in
    let i = inside q in
    asla-asks p.0.tables p.0 p.1 p.2 p.3 c.loop-e.invariant (omega arith) (entry q)

pub loop-e-preserved : goal.loop-e-preserved
loop-e-preserved c = let p = c.requires in
    let w = c.write-next in
    let q = (goal.at.loop-e-preserved c).After-read in
    let i = inside q in
    let on : c.args.first + (c.loop-e.e-index + 1) ≡ c.args.first + c.loop-e.e-index + 1 = omega arith in
    rw on (aslas-next p.0.tables p.0 p.1 p.2 p.3 c.loop-e.invariant (omega arith) (entry q) w.auto.places w.auto.out w.ensures)
