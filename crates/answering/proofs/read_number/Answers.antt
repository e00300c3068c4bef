-- Three bytes or four, as the length says.
use Rattle.linkstate.specs.Bytes.{number, bytes_at}
use native.Mathlib.Omega.{arith}
use Prim.Native.Nat.{ℕ}
use mathlib.Core.Path.{◌≡◌, sym, ap, ◌∙◌}
use Rattle.answering.proofs.read_number.Goals as goal

pub returns-then-len-eq3 : goal.returns-then-len-eq3
returns-then-len-eq3 c = let a = c.args in c.read24.ensures.0 ∙ ap (λ (n : ℕ). number (bytes_at a.s.now a.at n)) (sym c.if-len-eq3.true)

pub returns-else-len-eq3 : goal.returns-else-len-eq3
returns-else-len-eq3 c = let a = c.args in
    let e : 4 ≡ a.len = omega (arith, c.if-len-eq3.false) in
    c.read32.ensures.0 ∙ ap (λ (n : ℕ). number (bytes_at a.s.now a.at n)) e
