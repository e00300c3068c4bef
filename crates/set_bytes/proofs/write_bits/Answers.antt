use Prim.Native.Nat.{ℕ, ◌+◌, ◌*◌, ◌/◌}
use mathlib.Core.Path.{refl, ◌∙◌, ap}
use lib.ListN.{length, get_or}
use native.Mathlib.Omega.{arith}
use Rattle.srlg.proofs.Laws.{length-bytes_of_words}
use Rattle.srlg_ranks.specs.Ranks.{picked}
use Rattle.srlg_ranks.proofs.Laws.{share, word_end}
use Rattle.srlg_ranks.proofs.Steps.{length-next, bytes_word, bytes-end}
use Rattle.set_bytes.proofs.SrlgLaws.{word-within}
use Rattle.set_bytes.proofs.write_bits.Goals as goal

pub loop-w-init : goal.loop-w-init
unfolding picked
loop-w-init c = (omega arith, omega arith, refl, refl, refl)

pub write_word-k-requires : goal.write_word-k-requires
write_word-k-requires c = let l = c.loop-w in
    let vs = c.args.values.now in
    let ws = c.args.bits.now in
    (omega arith, word-within vs ws l.w ((length vs + 63) / 64) c.requires.2 (omega arith), c.requires.1, omega (arith, length-next vs ws l.w, c.requires.3, l.invariant.2, l.invariant.3))

pub loop-w-preserved : goal.loop-w-preserved
loop-w-preserved c = let l = c.loop-w in
    let vs = c.args.values.now in
    let ws = c.args.bits.now in
    let p = c.write_word-k in
    let r = p.ensures.0 ∙ ap (λ (j : ℕ). l.k + j) (length-bytes_of_words (share vs (64 * l.w) (get_or ws l.w 0))) in (
      omega arith,
      l.invariant.1,
      p.auto.out ∙ l.invariant.2,
      omega (arith, length-next vs ws l.w, r, l.invariant.3),
      bytes_word vs ws l.out _ l.w l.k _ _ p.ensures.1 r (omega (arith, c.requires.3, l.invariant.2, l.invariant.3)) l.invariant.4,
    )

pub returns : goal.returns
returns c = let l = c.loop-w in
    let a = c.args in
    let e = word_end a.values.now a.bits.now l.w (omega arith) in
    (omega (arith, ap length e, l.invariant.3, length-bytes_of_words (picked a.values.now a.bits.now)), bytes-end l.out _ l.k _ e l.invariant.4)
