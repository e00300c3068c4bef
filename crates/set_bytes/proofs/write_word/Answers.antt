use mathlib.Core.Path.{◌∙◌, ap}
use lib.ListN.{length}
use native.Mathlib.Omega.{arith}
use Rattle.srlg.proofs.Laws.{length-bytes_of_words}
use Rattle.srlg_ranks.proofs.Laws.{share}
use Rattle.srlg_ranks.proofs.Steps.{Turn, turn, share-none, bytes_next, bytes-end}
use Rattle.set_bytes.proofs.write_word.Goals as goal
use Rattle.set_bytes.proofs.write_word.Goals.{In-Some}

-- the lowest bit that is left
lowest : (c : In-Some) → Turn c.args.values.now c.args.base c.loop-t.t-iterator.0 c.in-Some.t c.next.new.self.0
lowest c = turn _ _ _ _ _ c.in-Some.ensures.steps c.loop-t.invariant.0

pub write32-requires : goal.write32-requires
write32-requires c = let l = c.loop-t in
    omega (arith, ap length (lowest (goal.at.write32-requires c).In-Some).next, c.requires.3, l.invariant.1, l.invariant.2)

pub loop-t-preserved : goal.loop-t-preserved
loop-t-preserved c = let l = c.loop-t in
    let n = lowest (goal.at.loop-t-preserved c).In-Some in
    let w = c.write32 in (
      n.inside,
      w.auto.out ∙ l.invariant.1,
      omega (arith, ap length n.next, l.invariant.2),
      bytes_next l.out _ l.k _ _ _ _ n.next w.ensures (omega (arith, c.requires.3, l.invariant.1, l.invariant.2)) l.invariant.3,
    )

pub returns : goal.returns
returns c = let l = c.loop-t in
    let a = c.args in
    let e = share-none a.values.now a.base _ c.in-None.ensures.steps.0 in
    (omega (arith, ap length e, l.invariant.2, length-bytes_of_words (share a.values.now a.base a.bits)), bytes-end l.out _ l.k _ e l.invariant.3)
