-- No 1122 that was passed is the set's.
use Rattle.bgpls_find.proofs.Turns.{sound-here, go-by, taking, is-part, at-end}
use Rattle.bgpls_find.proofs.Laws.{header-size}
use Rattle.bgpls_find.proofs.SetLaws.{no_part}
use Rattle.bgpls_find.proofs.next_part.Goals as goal
use Rattle.frames.specs.Left.{whole_left}
use Rattle.frames.proofs.Walks.{uncut, left-behind}
use Rattle.linkstate.specs.BgpLs.{check_top}
use Rattle.linkstate.specs.Replies.{run_bgp_ls}
use native.Mathlib.Omega.{arith}
use mathlib.Core.Path.{refl, sym, ap, ◌∙◌}

pub behind-at-items-requires-clause-uncut : goal.behind-at-items-requires-clause-uncut
behind-at-items-requires-clause-uncut c = uncut run_bgp_ls check_top _ c.requires.2

pub loop-at-init : goal.loop-at-init
loop-at-init c = let a = c.args in
    record {
      place = a.from;
      left = ap whole_left c.into_iter-at-iterator.ensures.into_iter_gives ∙ c.behind-at-items.ensures ∙ sym (left-behind 2 a.r.now a.from);
      behind = omega arith;
      passes = c.requires.2;
      same = refl;
    }

pub is_chosen-requires : goal.is_chosen-requires
is_chosen-requires c = sound-here c.loop-at.invariant c.in-Some.ensures.steps

pub read_asla_header-h-requires : goal.read_asla_header-h-requires
read_asla_header-h-requires c = (taking c.loop-at.invariant c.in-Some.ensures.steps (sym c.is_chosen.ensures ∙ c.if-is_chosen.true)).fixed

pub overflow_add-result : goal.overflow_add-result
overflow_add-result c = let t = taking c.loop-at.invariant c.in-Some.ensures.steps (sym c.is_chosen.ensures ∙ c.if-is_chosen.true) in omega (arith, t.fixed, t.within)

pub overflow_add-result-then-is_chosen : goal.overflow_add-result-then-is_chosen
overflow_add-result-then-is_chosen c = let t = taking c.loop-at.invariant c.in-Some.ensures.steps (sym c.is_chosen.ensures ∙ c.if-is_chosen.true) in
    let h = c.read_asla_header-h.ensures in omega (arith, t.header, t.within, header-size _ _ _ h.0 h.1)

pub overflow_add-result-then-is_chosen-2 : goal.overflow_add-result-then-is_chosen-2
overflow_add-result-then-is_chosen-2 c = let t = taking c.loop-at.invariant c.in-Some.ensures.steps (sym c.is_chosen.ensures ∙ c.if-is_chosen.true) in
    let h = c.read_asla_header-h.ensures in omega (arith, t.header, t.within, header-size _ _ _ h.0 h.1)

pub overflow_add-result-then-is_chosen-3 : goal.overflow_add-result-then-is_chosen-3
overflow_add-result-then-is_chosen-3 c = let t = taking c.loop-at.invariant c.in-Some.ensures.steps (sym c.is_chosen.ensures ∙ c.if-is_chosen.true) in omega (arith, t.within)

pub overflow_add-result-then-is_chosen-4 : goal.overflow_add-result-then-is_chosen-4
overflow_add-result-then-is_chosen-4 c = let t = taking c.loop-at.invariant c.in-Some.ensures.steps (sym c.is_chosen.ensures ∙ c.if-is_chosen.true) in omega (arith, t.within)

pub returns-then-is_chosen : goal.returns-then-is_chosen
returns-then-is_chosen c = let h = c.read_asla_header-h.ensures in
    is-part c.loop-at.invariant c.in-Some.ensures.steps (sym c.is_chosen.ensures ∙ c.if-is_chosen.true) c.requires.1 _ _
    (omega (arith, header-size _ _ _ h.0 h.1)) refl

pub loop-at-preserved : goal.loop-at-preserved
loop-at-preserved c = go-by c.loop-at.invariant c.in-Some.ensures.steps (sym c.is_chosen.ensures ∙ c.if-is_chosen.false)

pub returns : goal.returns
returns c = no_part _ _ _ c.requires.1 (at-end c.loop-at.invariant c.in-None.ensures.steps.0)
