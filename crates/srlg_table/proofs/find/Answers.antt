use Prim.Native.Nat.{◌<◌}
use lib.ListN.{length}
use native.Mathlib.Omega.{arith}
use Rattle.srlg_table.specs.Tables.{next_of}
use Rattle.srlg_table.proofs.Tabling.{searching-start, searching-next, finds-none}
use Rattle.srlg_table.proofs.find.Goals as goal
use Rattle.srlg_table.proofs.find.Goals.{In-loop-i}

-- the class at a turn is in the table
low : (c : In-loop-i) → (c.loop-i.i < length c.args.classes.now) × (c.loop-i.i < length c.args.heads.now)
low c =
    let (count, t) = c.requires.4 in
    let l = (c.loop-i.invariant count t).low in
    (omega (arith, t.room.0), omega (arith, t.room.1))

pub loop-i-init : goal.loop-i-init
loop-i-init c = let a = c.args in
    λ count t. rw c.from-i.ensures (searching-start a.rows.now a.used.words a.x.now a.classes.now a.heads.now a.buckets.now a.mark c.requires.3 a.used.sources count t)

pub loop-i-smaller : goal.loop-i-smaller
unfolding next_of
loop-i-smaller c = let l = c.loop-i in
    let (count, t) = c.requires.4 in
    t.chain.next_low l.i (omega arith) (l.invariant count t).low

pub loop-i-preserved : goal.loop-i-preserved
loop-i-preserved c = let l = c.loop-i in
    let a = c.args in
    λ count t.
    searching-next a.rows.now a.used.words a.x.now a.classes.now a.heads.now a.buckets.now a.mark c.requires.3 a.used.sources count t l.i (omega arith)
    (c.has_bits.ensures.1 c.if-has_bits.false) (l.invariant count t)

pub returns : goal.returns
returns c = let l = c.loop-i in
    let a = c.args in
    λ count t. finds-none a.rows.now a.used.words a.x.now a.classes.now a.heads.now a.buckets.now a.mark c.requires.3 a.used.sources count t l.i (omega arith)
    (l.invariant count t)
