-- Nobody is new, or those that are take the value.
use native.Mathlib.Omega.{arith}
use Rattle.set_table.specs.Tables.{cell_of}
use Rattle.set_table.proofs.Named.{named-given, none-given, having-next, both_zero}
use Rattle.set_table.proofs.enter_named.Goals as goal

pub returns-then-fresh : goal.returns-then-fresh
returns-then-fresh c = let a = c.args in let p = c.requires.3 in
    let m = c.except-fresh in
    let z = both_zero m.result.standard m.result.user c.if-fresh.true in (
      c.requires.0,
      none-given a.sets.now a.own.now a.have.now p.0 p.1 p.2 a.k c.requires.1 a.m p.3 _ m.ensures (cell_of a.place a.n) z.0 z.1,
      λ names sl hv w. hv,
    )

pub returns : goal.returns
returns c = let a = c.args in let p = c.requires.3 in
    let m = c.except-fresh in
    let r = c.enter_both.ensures in
    let v = c.requires.2 in
    let g = named-given a.sets.now a.own.now a.have.now p.0 p.1 p.2 a.k c.requires.1 a.m p.3 _ m.ensures (cell_of a.place a.n) _ r.1 in (
      r.0,
      g,
      λ names sl hv w. having-next a.sets.now a.own.now a.have.now names sl hv a.k c.requires.1 a.m w _ m.ensures (cell_of a.place a.n) (λ e. omega (arith, v.some)) _ g _ c.join-all.ensures,
    )
