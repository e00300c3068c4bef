-- `bgpls_find::count_words` meets its contract: with the list at hand and those behind it, all are counted.
use Rattle.bgpls_find.proofs.SrlgLaws.{set-turn, set-none, set-end, Counted, count-start, count_next, count-as, count-end}
use Rattle.bgpls_find.specs.Words.{srlg_words, list_words}
use Rattle.bgpls_find.proofs.SetLaws.{part-size, go_on, next-list}
use Rattle.bgpls_find.specs.Walks.{attributes_from, bytes_up_to, IsPart, NextPart, AtList}
use Rattle.bgpls_find.specs.Sets.{attributes_in}
use Rattle.bgpls_find.specs.declared.Set.{Set}
use mathlib.Core.Path.{ap, subst}
use native.Mathlib.Omega.{arith}
use mathlib.Core.List.{List}
use Prim.Native.Nat.{ℕ, ◌+◌, ◌*◌, ◌≤◌}
use Rattle.bgpls_find.proofs.count_words.Goals as goal
use Rattle.bgpls_find.proofs.count_words.Goals.{After-count_list-n as Known, In-Some as Found}

-- The set, the run, and the list of elements that was counted.
abbrev which : Known → Set
which k = k.args.start.set

abbrev run : Known → List ℕ
run k = k.args.run.bytes.now

abbrev first : Known → ℕ
first k = k.loop-next.first

abbrev next : Known → ℕ
next k = k.loop-next.next

at-list : (k : Known) → AtList (which k) (run k) (first k) (next k)
at-list k = k.loop-next.invariant.0

-- The numbers behind it, with which all are counted, and that those counted lie before them.
abbrev others : Known → List ℕ
others k = srlg_words (attributes_from (which k) (run k) (next k))

counted : (k : Known) → Counted (srlg_words (attributes_in (which k) (run k))) (k.loop-next.n + k.count_list-n.result) (others k)
counted k = let l = k.loop-next in
    count_next _ _ (list_words (bytes_up_to (run k) (first k) (next k))) (others k) l.n _ l.invariant.2
    (set-turn (which k) (run k) (next k) (first k) (next k)) k.count_list-n.ensures.0

before : (k : Known) → (k.loop-next.n + k.count_list-n.result) * 4 ≤ next k
before k = let a = at-list k in
    omega (arith, k.loop-next.invariant.1, k.count_list-n.ensures.1, part-size (run k) (first k) (next k) a.order a.within)

-- The list that was found behind it.
part : (c : Found) → IsPart c.args.start.set c.args.run.bytes.now c.loop-next.next c.in-Some.part.first c.in-Some.part.next
part c = subst (NextPart c.args.start.set c.args.run.bytes.now c.loop-next.next) c.in-Some.is c.next_part.ensures

pub loop-next-init : goal.loop-next-init
loop-next-init c = let p = c.requires in (p.list, omega arith, count-start _ _ (ap srlg_words p.all))

pub slice_bounds-count_list-count : goal.slice_bounds-count_list-count
slice_bounds-count_list-count c = let a = c.loop-next.invariant.0 in omega arith

pub slice_bounds-count_list-start : goal.slice_bounds-count_list-start
slice_bounds-count_list-start c = let a = c.loop-next.invariant.0 in omega arith

pub slice_bounds-count_list-end : goal.slice_bounds-count_list-end
slice_bounds-count_list-end c = let a = c.loop-next.invariant.0 in omega arith

pub count_list-n-requires : goal.count_list-n-requires
count_list-n-requires c = let l = c.loop-next in (l.first, l.invariant.0.uncut)

pub overflow_add-n : goal.overflow_add-n
overflow_add-n c = let known = (goal.at.overflow_add-n c).After-count_list-n in
    let a = at-list known in omega (arith, before known)

pub returns-then-r-next : goal.returns-then-r-next
returns-then-r-next c = let known = (goal.at.returns-then-r-next c).After-count_list-n in
    let a = at-list known in
    (count-end _ _ _ (counted known) (set-end (which known) (run known) (next known) (omega arith)), omega (arith, before known))

pub next_part-requires : goal.next_part-requires
next_part-requires c = let known = (goal.at.next_part-requires c).After-count_list-n in
    go_on _ _ _ _ (at-list known) (omega arith)

pub returns-in_default : goal.returns-in_default
returns-in_default c = let known = (goal.at.returns-in_default c).After-count_list-n in
    let a = at-list known in
    let none = subst (NextPart (which known) (run known) (next known)) c.in_default.is c.next_part.ensures in
    (count-end _ _ _ (counted known) (set-none (which known) (run known) (next known) none.1), omega (arith, before known))

pub loop-next-smaller : goal.loop-next-smaller
loop-next-smaller c = let found = (goal.at.loop-next-smaller c).In-Some in
    let p = part found in omega arith

pub loop-next-preserved : goal.loop-next-preserved
loop-next-preserved c = let known = (goal.at.loop-next-preserved c).After-count_list-n in
    let found = (goal.at.loop-next-preserved c).In-Some in
    let p = part found in
    (next-list _ _ _ _ (at-list known) _ _ p, omega (arith, before known, p.start), count-as _ _ _ _ (ap srlg_words p.left) (counted known))
