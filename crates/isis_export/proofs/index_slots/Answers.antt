-- `isis_export::index_slots` meets its contract: that of `index_a`, over the front of the table. Assumes nothing.
use mathlib.Core.Path.{sym, ◌∙◌, subst}
use mathlib.Core.List.{List}
use Prim.Native.Nat.{ℕ}
use native.Mathlib.Omega.{arith}
use lib.Seq.{take_at, length-take-le}
use Rattle.isis_index.specs.Indexed.{Indexed}
use Rattle.isis_export.proofs.index_slots.Goals as goal

pub index_a-requires : goal.index_a-requires
index_a-requires c = let p = c.requires in
    let a = p.0 in
    (a.passed, omega (arith, a.short), a.tells, p.2)

pub returns : goal.returns
returns c = let n = c.args.count in
    let sets = c.args.sets.now in
    let e = c.index_a.auto.sets ∙ length-take-le n sets c.requires.1 in
    subst (λ (x : List (List ℕ)). Indexed c.args.a.now x c.index_a.new.own c.index_a.result)
    (sym (take_at c.index_a.new.sets _ n e)) c.index_a.ensures
