use mathlib.Core.Path.{refl, ◌∙◌}
use native.Mathlib.Omega.{arith}
use Rattle.grids.specs.Grids.{grid_value}
use Rattle.set_bytes.proofs.Laws.{extended-code, extended-start, extended-room, extended-next}
use Rattle.set_bytes.proofs.write_extended.Goals as goal

pub loop-c-init : goal.loop-c-init
loop-c-init g c = let a = c.args in (omega arith, omega arith, refl, extended-start (grid_value a.run.now (g.G.Grid.rows a.g.now)) a.out.now a.at c.requires.1 1114 refl)

pub write_kind-next-requires : goal.write_kind-next-requires
write_kind-next-requires g c = let a = c.args in
    let l = c.loop-c in
    (c.requires.0, extended-code l.c l.invariant.0 (omega arith), extended-room (grid_value a.run.now (g.G.Grid.rows a.g.now)) a.out.now a.at c.requires.1 l.c l.invariant.0 (omega arith) l.invariant.2 l.invariant.3)

pub loop-c-preserved : goal.loop-c-preserved
loop-c-preserved g c = let a = c.args in
    let l = c.loop-c in
    let w = c.write_kind-next in (
      omega arith,
      omega arith,
      w.auto.out ∙ l.invariant.2,
      extended-next (grid_value a.run.now (g.G.Grid.rows a.g.now)) a.out.now a.at c.requires.1 l.c l.invariant.0 (omega arith) l.invariant.2 l.invariant.3 w.ensures,
    )
