-- The bytes that stand there, in the standard library's order.
use mathlib.Core.Path.{refl, sym, ap, ◌∙◌}
use native.Mathlib.Omega.{arith}
use Rattle.std.specs.Int.{w32, from_be_bytes}
use Rattle.octets.proofs.Laws.{read_be, bytes-one_by_one}
use Rattle.octets.proofs.read32.Goals as goal

pub returns : goal.returns
returns c = let a = c.args in
    let e = c.from_be_bytes.ensures ∙ ap (from_be_bytes w32) (sym (bytes-one_by_one a.s.now a.at 3 c.requires)) in
    rw e (read_be a.s.now a.at (λ i. omega (arith, c.type_inv.s i)) w32 0 4 refl c.requires)
