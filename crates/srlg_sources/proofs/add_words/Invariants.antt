-- `srlg_sources::add_words` meets its contract: with the keys of the numbers that are left, all are written. Assumes nothing.
use Rattle.std.proofs.Common.{◌≡◌, ◌+◌, length, map}
use Rattle.std.specs.Slice.Iter.{chunks_exact_rest, chunks_exact_size}
use Rattle.linkstate.specs.Lists.{put}
use Rattle.linkstate.specs.Bytes.{words}
use Rattle.srlg_sources.specs.Sources.{key_of, Small}
use Rattle.srlg_sources.proofs.add_words.Given as goal

abbrev pub invariant-loop-word : goal.invariant-loop-word
invariant-loop-word l =
    let left = words (chunks_exact_rest l.word-iterator) in
    (chunks_exact_size l.word-iterator ≡ 4) × (length l.keys ≡ length l.initial.keys) × (l.place + length left ≡ l.at + length (words l.s))
    × (put l.keys l.place (map (key_of l.source) left) ≡ put l.initial.keys l.at (map (key_of l.source) (words l.s))) × (Small left → Small (words l.s))
