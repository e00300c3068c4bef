use Prim.Native.Nat.{ℕ, ◌+◌}
use mathlib.Core.Path.{sym, ◌∙◌, ap}
use mathlib.Core.Bool.{Bool, ◌||◌, or_assoc, or-false}
use mathlib.Core.List.{[]}
use lib.ListN.{get_or}
use Rattle.srlg_ranks.specs.Ranks.{in_words}
use Rattle.srlg_sources.specs.Sources.{in_some}
use Rattle.srlg_sources.proofs.Joins.{next-source, some-none}
use Rattle.srlg_sources.proofs.join_rows.Goals as goal

pub loop-t-preserved : goal.loop-t-preserved
loop-t-preserved c =
    let a = c.args in
    let l = c.loop-t in
    let rest = c.next.new.self.0 in
    let n = next-source a.rows.now a.base _ _ _ c.in-Some.ensures.steps l.invariant.1 in (
      c.join_row.ensures.0,
      n.left,
      λ i h.
          ap (λ (b : Bool). b || in_some a.rows.now a.base rest i) (c.join_row.ensures.1 i h)
          ∙ or_assoc (in_words l.x i) (in_words (get_or a.rows.now (a.base + c.in-Some.t) []) i) (in_some a.rows.now a.base rest i)
          ∙ ap (λ (b : Bool). in_words l.x i || b) (sym (n.some i)) ∙ l.invariant.2 i h,
    )

pub returns : goal.returns
returns c = let a = c.args in
    let l = c.loop-t in (
      l.invariant.0,
      λ i h.
          sym (or-false (in_words l.x i)) ∙ ap (λ (b : Bool). in_words l.x i || b)
          (sym (ap (λ (y : ℕ). in_some a.rows.now a.base y i) c.in-None.ensures.steps.0 ∙ some-none a.rows.now a.base i))
          ∙ l.invariant.2 i h,
    )
