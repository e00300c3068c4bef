-- `srlg_table::count_of` meets its contract: what is counted, and what the words to come stand for. Assumes nothing.
use Prim.Native.Nat.{ℕ, ◌+◌, ◌*◌, ◌≤◌, ◌<◌}
use mathlib.Core.Path.{◌≡◌}
use mathlib.Core.Bool.{false}
use mathlib.Core.List.{List}
use lib.ListN.{length}
use Rattle.srlg_ranks.specs.Ranks.{in_words, keep_from}
use Rattle.srlg_ranks.proofs.Laws.{rest}
use Rattle.srlg_table.proofs.count_of.Given as goal

abbrev pub invariant-loop-word : goal.invariant-loop-word
invariant-loop-word l = (l.word-index ≤ l.words) × (l.n ≤ 64 * l.word-index)
    × ((values : List ℕ) → length values ≤ 64 * l.words → ((j : ℕ) → length values ≤ j → j < 64 * l.words → in_words l.x j ≡ false) → l.n + length
    (rest values l.x l.word-index) ≡ length (keep_from (in_words l.x) 0 values))
