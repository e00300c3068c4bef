-- Nobody has a number, or by how many classes there is room for.
use mathlib.Core.Path.{refl}
use native.Mathlib.Omega.{arith}
use Rattle.srlg_classes.proofs.Siding.{settled-none}
use Rattle.srlg_classes.proofs.classify.Goals as goal

pub returns-then-used-eq0 : goal.returns-then-used-eq0
returns-then-used-eq0 c = let a = c.args in
    let z = c.if-used-eq0.true in
    let p = c.requires.1 z in (
      record { size = p.1; slots = λ i. refl },
      λ values side short so told.
          settled-none a.rows.now a.classes.now a.own.now a.used.sources a.who a.side.names _ values side (omega (arith, z)) p.0 p.2 refl refl refl so told.0,
    )
