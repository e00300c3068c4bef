-- `bgpls_find::write_element` meets its contract.
use mathlib.Core.List.{List}
use Rattle.bgpls_find.proofs.SrlgLaws.{of-1096, of_others}
use Rattle.srlg.proofs.Laws.{length-words}
use Rattle.octets.proofs.Laws.{put-nil}
use Rattle.linkstate.specs.Lists.{put}
use lib.ListN.{length}
use native.Mathlib.Omega.{arith}
use mathlib.Core.Path.{ap, ◌∙◌}
use Prim.Native.Nat.{ℕ, ◌+◌}
use Rattle.bgpls_find.proofs.write_element.Goals as goal

pub returns-then-code-ne1096 : goal.returns-then-code-ne1096
returns-then-code-ne1096 c = let a = c.args in
    let e = of_others a.code a.v.now c.if-code-ne1096.true in
    (omega (arith, ap length e), put-nil a.out.now a.k ∙ ap (put a.out.now a.k) e)

pub words_into-requires : goal.words_into-requires
words_into-requires c = let a = c.args in
    omega (arith, length-words a.v.now, ap length (of-1096 a.code a.v.now c.if-code-ne1096.false))

pub returns : goal.returns
returns c = let a = c.args in
    let e = of-1096 a.code a.v.now c.if-code-ne1096.false in
    let w = c.words_into.ensures in
    (w.0 ∙ ap (λ (l : List ℕ). a.k + length l) e, w.1 ∙ ap (put a.out.now a.k) e)
