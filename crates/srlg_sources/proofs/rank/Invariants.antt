-- `srlg_sources::rank` meets its contract: the numbers of the first i keys, and their bits. Assumes nothing.
use Rattle.std.proofs.Common.{◌≤◌, ◌≡◌, length}
use Rattle.key_sort.proofs.Numbers.{Numbered}
use Rattle.srlg_sources.proofs.Rankings.{Noted}
use Rattle.srlg_sources.proofs.rank.Given as goal

abbrev pub invariant-loop-i : goal.invariant-loop-i
invariant-loop-i l = (l.i ≤ length l.keys) × (length l.values ≡ length l.initial.values) × (length l.rows ≡ length l.initial.rows)
    × Numbered l.keys l.values l.i l.count × Noted l.keys l.values l.initial.rows l.rows l.i l.count
