-- `srlg_table::mark_of` meets its contract: the mark of the first words. Assumes nothing.
use Rattle.std.proofs.Common.{◌≡◌, ◌≤◌}
use Rattle.srlg_ranks.specs.Ranks.{in_words}
use Rattle.srlg_table.specs.Marks.{words_mark}
use Rattle.srlg_table.proofs.mark_of.Given as goal

abbrev pub invariant-loop-word : goal.invariant-loop-word
invariant-loop-word l = (l.word-index ≤ l.words) × (l.h ≡ words_mark l.word-index (in_words l.x))
