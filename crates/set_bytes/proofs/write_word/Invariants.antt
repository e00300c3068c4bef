-- What is written, and what the bits left would be written as, is the whole.
use Prim.Native.Nat.{◌+◌, ◌*◌}
use mathlib.Core.Path.{◌≡◌}
use lib.ListN.{length, drop}
use Rattle.linkstate.specs.Lists.{put}
use Rattle.linkstate.specs.Bytes.{bytes_of_words}
use Rattle.srlg_ranks.specs.Ranks.{Inside}
use Rattle.srlg_ranks.proofs.Laws.{share}
use Rattle.set_bytes.proofs.write_word.Given as goal

abbrev pub invariant-loop-t : goal.invariant-loop-t
invariant-loop-t l = let left = share l.values l.base l.t-iterator.0 in
    let whole = share l.values l.base l.bits in
    Inside (drop l.base l.values) l.t-iterator.0 × (length l.out ≡ length l.initial.out) × (l.k + 4 * length left ≡ l.at + 4 * length whole)
    × (put l.out l.k (bytes_of_words left) ≡ put l.initial.out l.at (bytes_of_words whole))
