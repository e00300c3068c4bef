-- `set_table::mix_value` meets its contract. Assumes nothing.
use mathlib.Core.Path.{◌∙◌, ap}
use mathlib.Core.List.{List}
use Prim.Native.Nat.{ℕ}
use Rattle.linkstate.specs.Bytes.{words}
use Rattle.set_table.specs.Marks.{mixed}
use Rattle.set_table.proofs.Marks.{mix-three, mix-plain}
use Rattle.set_table.proofs.mix_value.Goals as goal

pub returns-then-n-eq3 : goal.returns-then-n-eq3
returns-then-n-eq3 c = c.read24.ensures.0 ∙ mix-three c.args.run.now c.args.place c.args.n c.requires c.if-n-eq3.true

pub returns : goal.returns
returns c = c.mix.ensures ∙ ap (λ (v : List ℕ). mixed 0 (words v)) (mix-plain c.args.run.now c.args.place c.args.n c.if-n-eq3.false)
