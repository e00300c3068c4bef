-- what is written, and what the words to come would be written as, is the whole.
use Prim.Native.Nat.{◌+◌, ◌*◌, ◌/◌, ◌≤◌}
use mathlib.Core.Path.{◌≡◌}
use lib.ListN.{length}
use Rattle.linkstate.specs.Lists.{put}
use Rattle.linkstate.specs.Bytes.{bytes_of_words}
use Rattle.srlg_ranks.specs.Ranks.{picked}
use Rattle.srlg_ranks.proofs.Laws.{rest}
use Rattle.set_bytes.proofs.write_bits.Given as goal

abbrev pub invariant-loop-w : goal.invariant-loop-w
invariant-loop-w l = (l.w ≤ l.n) × (l.n ≡ (length l.values + 63) / 64) × (length l.out ≡ length l.initial.out) × (l.k + 4 * length (rest l.values l.bits l.w) ≡ l.at + 4 * length (picked l.values l.bits))
    × (put l.out l.k (bytes_of_words (rest l.values l.bits l.w)) ≡ put l.initial.out l.at (bytes_of_words (picked l.values l.bits)))
