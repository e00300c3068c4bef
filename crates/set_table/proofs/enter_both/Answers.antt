-- The slots of the standard mask, then those of the user mask.
use mathlib.Core.Path.{subst}
use Prim.Native.Nat.{ℕ}
use native.Mathlib.Omega.{arith}
use Rattle.set_table.specs.Tables.{Given, to_named}
use Rattle.set_table.proofs.Named.{free-low, free-high, both-given}
use Rattle.set_table.proofs.enter_both.Goals as goal

pub enter_bits-requires : goal.enter_bits-requires
enter_bits-requires c = let a = c.args in
    (omega arith, c.requires.1, free-low a.sets.now a.own.now a.m a.k c.requires.3, (a.run.now, a.place, a.n, c.requires.0, c.filing_of-e.ensures))

pub enter_bits-requires-2 : goal.enter_bits-requires-2
enter_bits-requires-2 c = let a = c.args in
    let y = c.filing_of-e.ensures in
    let r = c.enter_bits.ensures in
    (omega arith, c.requires.1, free-high a.sets.now a.own.now a.m a.k c.requires.3 c.requires.1 _ _ r.0, (a.run.now, a.place, a.n, r.1 a.run.now a.place a.n c.requires.0 y, y))

pub returns : goal.returns
returns c = let a = c.args in
    let y = c.filing_of-e.ensures in
    let r = c.enter_bits.ensures in
    let q = c.enter_bits-2.ensures in (
      q.1 a.run.now a.place a.n (r.1 a.run.now a.place a.n c.requires.0 y) y,
      subst (λ (x : ℕ). Given a.sets.now c.enter_bits-2.new.sets (to_named a.own.now a.m a.k x)) y.cell (both-given a.own.now a.m a.k _ r.0 q.0),
    )
