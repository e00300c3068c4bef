-- `srlg_table::split` meets its contract. Assumes nothing.
use Prim.Native.Nat.{◌+◌, ◌<◌}
use mathlib.Core.List.{[]}
use lib.ListN.{length, get_or, length-set}
use native.Mathlib.Omega.{arith}
use Rattle.srlg_table.proofs.Splits.{alike-block, alike-words, split-whole, split-two}
use Rattle.srlg_table.proofs.split.Goals as goal
use Rattle.srlg_table.proofs.split.Goals.{Else-fills}

-- a block that is split is followed by its part
room : (c : Else-fills) → c.args.n < length c.args.blocks.now
room c =
    let a = c.args in
    c.requires.3 (λ h. c.fills.ensures.1 c.if-fills.false (alike-words (get_or a.blocks.now a.k []) a.x a.y a.i h))

pub returns-then-fills : goal.returns-then-fills
returns-then-fills c = let a = c.args in
    let b = a.blocks.now in
    split-whole b a.k a.n a.x a.y a.i c.requires.1 c.requires.2 _ c.with_source-part.ensures
    (alike-block (get_or b a.k []) a.x a.y a.i (c.fills.ensures.0 c.if-fills.true))

pub bounds-blocks-n : goal.bounds-blocks-n
bounds-blocks-n c = simp length-set (room (goal.at.bounds-blocks-n c).Else-fills)

pub returns : goal.returns
returns c = let a = c.args in
    let b = a.blocks.now in
    split-two b a.k a.n a.x a.y a.i c.requires.1 c.requires.2 _ c.with_source-part.ensures (a.n + 1) _ (omega arith) (room (goal.at.returns c).Else-fills)
    (λ h. c.fills.ensures.1 c.if-fills.false (alike-words (get_or b a.k []) a.x a.y a.i h)) c.without_part-rest.ensures
