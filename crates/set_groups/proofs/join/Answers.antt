-- A member more of the entry that was found, or an entry more.
use native.Mathlib.Omega.{arith}
use Rattle.set_groups.proofs.Laws.{joined-there, joined-last}
use Rattle.set_groups.proofs.join.Goals as goal

pub returns-in-Some : goal.returns-in-Some
returns-in-Some c = let a = c.args in
    let f = c.in-Some.ensures in
    joined-there a.sets.run.now a.sets.rows.now a.groups.now a.buckets.now a.count a.n a.s a.c _ c.requires.5 (omega (arith, c.requires.7)) f.0 f.1 f.2 _ c.add_member.ensures

pub returns : goal.returns
returns c = let a = c.args in
    let p = c.requires in
    let b = c.bucket_of-b.ensures in
    joined-last a.sets.run.now a.sets.rows.now a.groups.now a.buckets.now a.count a.n a.s a.c p.5 p.7 p.6 p.1 p.2 p.3 _ _ b.1 b.0 c.from-first.ensures c.in_default.ensures _ c.add_member-2.ensures
