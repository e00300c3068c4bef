-- `bgpls_find::write_words` meets its contract: with the list at hand and those behind it, all are written.
use Rattle.bgpls_find.proofs.SrlgLaws.{set-turn, set-none, set_more, none_left, Written, written_start, written_next, written_as, written-room, from_front}
use Rattle.bgpls_find.specs.Words.{srlg_words, list_words}
use Rattle.bgpls_find.proofs.SetLaws.{go_on, next-list}
use Rattle.bgpls_find.specs.Walks.{attributes_from, bytes_up_to, IsPart, NextPart, AtList}
use Rattle.bgpls_find.specs.Sets.{attributes_in}
use Rattle.bgpls_find.specs.declared.Set.{Set}
use Rattle.linkstate.specs.Lists.{put}
use mathlib.Core.Path.{◌≡◌, ap, subst}
use native.Mathlib.Omega.{arith}
use mathlib.Core.List.{List}
use Prim.Native.Nat.{ℕ}
use Rattle.bgpls_find.proofs.write_words.Goals as goal
use Rattle.bgpls_find.proofs.write_words.Goals.{After-write_list-k as Known, In-Some as Found}

-- The set, the run, and the list of elements that was written.
abbrev which : Known → Set
which k = k.args.start.set

abbrev run : Known → List ℕ
run k = k.args.r.now

abbrev first : Known → ℕ
first k = k.loop-k.first

abbrev next : Known → ℕ
next k = k.loop-k.next

at-list : (k : Known) → AtList (which k) (run k) (first k) (next k)
at-list k = k.loop-k.invariant.0

-- The numbers of that list and those behind it.
abbrev here : Known → List ℕ
here k = list_words (bytes_up_to (run k) (first k) (next k))

abbrev others : Known → List ℕ
others k = srlg_words (attributes_from (which k) (run k) (next k))

written : (k : Known) (after : List ℕ) → after ≡ put k.loop-k.out k.loop-k.k (here k)
    → Written k.args.out.now 0 (srlg_words (attributes_in (which k) (run k))) after k.write_list-k.result (others k)
written k after e = let l = k.loop-k in
    written_next _ 0 _ l.out after l.k _ _ (here k) (others k) l.invariant.1 (set-turn (which k) (run k) (next k) (first k) (next k)) k.write_list-k.ensures.0 e

-- The list that was found behind it.
part : (c : Found) → IsPart c.args.start.set c.args.r.now c.loop-k.next c.in-Some.part.first c.in-Some.part.next
part c = subst (NextPart c.args.start.set c.args.r.now c.loop-k.next) c.in-Some.is c.next_part.ensures

pub loop-k-init : goal.loop-k-init
loop-k-init c = let a = c.args in
    let p = c.requires in
    (p.0.list, written_start a.out.now 0 _ _ (ap srlg_words p.0.all) (omega arith))

pub slice_bounds-write_list-count : goal.slice_bounds-write_list-count
slice_bounds-write_list-count c = let a = c.loop-k.invariant.0 in omega arith

pub slice_bounds-write_list-start : goal.slice_bounds-write_list-start
slice_bounds-write_list-start c = let a = c.loop-k.invariant.0 in omega arith

pub slice_bounds-write_list-end : goal.slice_bounds-write_list-end
slice_bounds-write_list-end c = let a = c.loop-k.invariant.0 in omega arith

pub write_list-k-requires : goal.write_list-k-requires
write_list-k-requires c = let l = c.loop-k in
    let a = c.args in (
      written-room _ _ _ _ _ _ (list_words (bytes_up_to a.r.now l.first l.next)) (srlg_words (attributes_from a.start.set a.r.now l.next)) l.invariant.1
          (set-turn a.start.set a.r.now l.next l.first l.next),
      (l.first, l.invariant.0.uncut),
    )

pub shape_of-out-then-n-k : goal.shape_of-out-then-n-k
shape_of-out-then-n-k c = let known = (goal.at.shape_of-out-then-n-k c).After-write_list-k in
    (written known _ c.write_list-k.ensures.1).same

pub returns-then-n-k : goal.returns-then-n-k
returns-then-n-k c = let known = (goal.at.returns-then-n-k c).After-write_list-k in
    let n = c.requires.1 in
    let w = written known _ c.write_list-k.ensures.1 in
    let e = w.at in
    (from_front _ _ _ _ _ w (none_left _ (omega arith))).1

pub next_part-requires : goal.next_part-requires
next_part-requires c = let known = (goal.at.next_part-requires c).After-write_list-k in
    let n = c.requires.1 in
    let w = (written known _ c.write_list-k.ensures.1).at in
    go_on _ _ _ _ (at-list known) (set_more (which known) (run known) (next known) (omega arith))

pub shape_of-out-in_default : goal.shape_of-out-in_default
shape_of-out-in_default c = let known = (goal.at.shape_of-out-in_default c).After-write_list-k in
    (written known _ c.write_list-k.ensures.1).same

pub returns-in_default : goal.returns-in_default
returns-in_default c = let known = (goal.at.returns-in_default c).After-write_list-k in
    let none = subst (NextPart (which known) (run known) (next known)) c.in_default.is c.next_part.ensures in
    (from_front _ _ _ _ _ (written known _ c.write_list-k.ensures.1) (set-none (which known) (run known) (next known) none.1)).1

pub loop-k-smaller : goal.loop-k-smaller
loop-k-smaller c = let found = (goal.at.loop-k-smaller c).In-Some in
    let p = part found in omega arith

pub loop-k-preserved : goal.loop-k-preserved
loop-k-preserved c = let known = (goal.at.loop-k-preserved c).After-write_list-k in
    let found = (goal.at.loop-k-preserved c).In-Some in
    let p = part found in
    (next-list _ _ _ _ (at-list known) _ _ p, written_as _ _ _ _ _ _ _ (ap srlg_words p.left) (written known _ c.write_list-k.ensures.1))
