-- The laws of the side, over what the calls leave.
use Prim.Native.Nat.{ℕ}
use mathlib.Core.Path.{refl}
use lib.ListN.{get_or-replicate}
use native.Mathlib.Omega.{arith}
use Rattle.srlg_classes.proofs.Gives.{slots-then}
use Rattle.srlg_classes.proofs.Siding.{settled}
use Rattle.srlg_classes.proofs.classify_in.Goals as goal

pub first_classes-first-requires : goal.first_classes-first-requires
first_classes-first-requires c = let p = c.requires.0 in
    (p.words, p.sources.0, p.sources.2, omega (arith, p.room), omega (arith, c.requires.1), refl, λ i h. get_or-replicate {A = ℕ} 128 i 0 0 h)

pub returns : goal.returns
returns c = let a = c.args in
    let g = c.give_firsts.ensures in
    let o = c.give_named-count.ensures in
    let p = c.requires.0 in (
      slots-then a.own.now _ _ g.slots o.slots,
      λ values side short so told.
          settled a.rows.now a.used.sources a.used.words a.who a.side.names _ _ _ _ a.own.now _ _ _ _ _ _ c.first_classes-first.ensures g o
          values side so told.0 a.side.legacy told.1 short p.words p.sources.2 _ refl c.rsvp_class.ensures refl,
    )
