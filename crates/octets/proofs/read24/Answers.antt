-- The bytes that stand there, in the standard library's order.
use mathlib.Core.Path.{refl, sym, ap, ◌∙◌}
use mathlib.Core.List.{List, ◌∷◌}
use Prim.Native.Nat.{ℕ}
use native.Mathlib.Omega.{arith}
use Rattle.std.specs.Int.{w32, from_be_bytes}
use Rattle.octets.proofs.Laws.{read_be, bytes-one_by_one}
use Rattle.octets.proofs.read24.Goals as goal

pub returns : goal.returns
returns c = let a = c.args in
    let e = c.from_be_bytes.ensures ∙ ap (λ (l : List ℕ). from_be_bytes w32 (0 ∷ l)) (sym (bytes-one_by_one a.s.now a.at 2 c.requires)) in
    rw e (read_be a.s.now a.at (λ i. omega (arith, c.type_inv.s i)) w32 1 3 refl c.requires)
