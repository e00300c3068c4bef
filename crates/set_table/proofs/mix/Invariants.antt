-- What is mixed, with the numbers that are left, is all.
use mathlib.Core.Path.{◌≡◌}
use Rattle.std.specs.Slice.Iter.{chunks_exact_rest, chunks_exact_size}
use Rattle.linkstate.specs.Bytes.{words, bytes_at}
use Rattle.set_table.specs.Marks.{mixed}
use Rattle.set_table.proofs.mix.Given as goal

abbrev pub invariant-loop-word : goal.invariant-loop-word
invariant-loop-word l = (chunks_exact_size l.word-iterator ≡ 4) × (mixed l.h (words (chunks_exact_rest l.word-iterator)) ≡ mixed 0 (words (bytes_at l.run l.place l.n)))
