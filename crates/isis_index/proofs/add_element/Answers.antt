-- An ASLA, or a legacy attribute. Assumes nothing.
use Prim.Native.Nat.{◌+◌, ◌-◌}
use mathlib.Core.Path.{◌≡◌, sym, ◌∙◌}
use native.Mathlib.Omega.{arith}
use lib.ListN.{length}
use Rattle.isis_index.proofs.Taking.{legacy-right, gains-legacy}
use Rattle.isis_index.proofs.add_element.Goals as goal

pub add_asla-requires : goal.add_asla-requires
add_asla-requires c = let p = c.requires in (p.0, p.1, p.2 ∙ c.if-e-eq16.true, p.3)

pub enter_legacy-requires : goal.enter_legacy-requires
enter_legacy-requires c =
    let e = c.args.e in
    let p = c.requires in
    let z : e.at + 2 + length e.value.now - (e.at + 2) ≡ length e.value.now = omega arith in
    let r = legacy-right p.1 (λ i. c.if-e-eq16.false (sym p.2 ∙ i)) (omega (arith, c.type_inv.a (e.at + 1))) in
    (p.0.holds, p.0.grounded.three, rw (p.2, z) at r)

pub returns : goal.returns
returns c =
    let e = c.args.e in
    let p = c.requires in
    let z : e.at + 2 + length e.value.now - (e.at + 2) ≡ length e.value.now = omega arith in
    gains-legacy p.1 (λ i. c.if-e-eq16.false (sym p.2 ∙ i)) p.0 (rw (p.2, z) c.enter_legacy.ensures)
