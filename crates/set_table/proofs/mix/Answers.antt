use Prim.Native.Nat.{ℕ}
use mathlib.Core.Path.{◌∙◌, ap}
use native.Mathlib.Omega.{arith}
use native.Mathlib.Nat.{add-sub_cancel_left}
use lib.ListN.{take, drop}
use Rattle.linkstate.specs.Bytes.{words, bytes_at}
use Rattle.set_table.specs.Marks.{mixed}
use Rattle.set_table.proofs.Marks.{mix-next, mix-end}
use Rattle.set_table.proofs.mix.Goals as goal

pub loop-word-init : goal.loop-word-init
unfolding bytes_at
loop-word-init c =
    let a = c.args in
    let e = c.chunks_exact-word-items.ensures in
    rw c.into_iter-word-iterator.ensures.into_iter_gives (
      e.size,
      ap (λ v. mixed 0 (words v)) (e.rest ∙ ap (λ (k : ℕ). take k (drop a.place a.run.now)) (add-sub_cancel_left a.place a.n)),
    )

pub loop-word-preserved : goal.loop-word-preserved
loop-word-preserved c =
    let l = c.loop-word in
    let s = c.in-Some.ensures.steps in
    (s.0 ∙ l.invariant.0, mix-next l.h _ _ _ _ s.1.0 (s.1.1 ∙ l.invariant.0) (c.from.ensures ∙ c.read32.ensures.0) ∙ l.invariant.1)

pub returns : goal.returns
returns c = let l = c.loop-word in mix-end l.h _ (omega (arith, c.in-None.ensures.steps.1.0, l.invariant.0)) ∙ l.invariant.1
