-- What is joined, with the sources that are left, is all.
use Prim.Native.Nat.{ℕ, ◌<◌, ◌*◌}
use mathlib.Core.Path.{◌≡◌}
use mathlib.Core.Bool.{◌||◌}
use lib.ListN.{length}
use Rattle.srlg_ranks.specs.Ranks.{in_words}
use Rattle.srlg_sources.specs.Sources.{InRows, in_some}
use Rattle.srlg_sources.proofs.join_rows.Given as goal

abbrev pub invariant-loop-t : goal.invariant-loop-t
invariant-loop-t l = let left = l.t-iterator.0 in
    (length l.x ≡ 16) × InRows l.rows l.base left × ((i : ℕ) → i < 64 * l.words → in_words l.x i || in_some l.rows l.base left i ≡ in_words l.initial.x i || in_some l.rows l.base l.set i)
