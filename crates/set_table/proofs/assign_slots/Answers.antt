-- The standard applications, then the user's.
use mathlib.Core.Path.{◌∙◌}
use native.Mathlib.Omega.{arith}
use Rattle.set_table.proofs.Assigns.{many-pair, begun}
use Rattle.set_table.proofs.assign_slots.Goals as goal

pub assign_bits-k-requires : goal.assign_bits-k-requires
assign_bits-k-requires c = let a = c.args in let e = c.empty_first.ensures in
    (omega arith, c.requires.0, omega (arith, many-pair a.m, c.requires.1, e.0), omega (arith, c.requires.2, e.0))

pub assign_bits-requires : goal.assign_bits-requires
assign_bits-requires c = let a = c.args in
    let e = c.empty_first.ensures in let r = c.assign_bits-k.ensures in
    (omega arith, r.1.owned, omega (arith, many-pair a.m, c.requires.1, e.0, r.0, r.1.same), omega (arith, c.requires.2, e.0, r.1.same))

pub returns : goal.returns
returns c = let a = c.args in
    let e = c.empty_first.ensures in let r = c.assign_bits-k.ensures in
    let q = c.assign_bits.ensures in
    (omega (arith, many-pair a.m, q.0, r.0), begun a.m e.1 r.1 q.1, q.1.same ∙ r.1.same ∙ e.0)
