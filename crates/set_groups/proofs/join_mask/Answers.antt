use Prim.Native.Nat.{ℕ, ◌+◌, ◌<◌}
use mathlib.Core.Path.{sym, ◌∙◌, subst}
use native.Mathlib.Omega.{arith}
use Rattle.grids.specs.Slots.{IsSet}
use Rattle.set_groups.proofs.Fills.{skipped, named_here, one_more, goes_on, all-past, next-low, next-here, next-none, next-ahead, slot_is, class-is}
use Rattle.set_groups.proofs.join_mask.Goals as goal

pub join-count-requires : goal.join-count-requires
join-count-requires c =
    let q = c.requires.2 in
    let r = c.in-Some.ensures.steps in
    let i = r.inside in
    let s = c.loop-t.invariant.1 q.0 q.1 q.2 q.3 q.4 in
    let h : c.args.base + c.in-Some.t < 128 = omega (arith, c.requires.0) in
    let b = skipped _ _ _ q.0 s.1 _ (next-low c.requires.0 s.2 r) (omega arith) (next-none c.requires.0 s.2 r) in
    let here = next-here c.requires.0 s.2 r in
    let n = named_here _ _ _ q.0 b h here in
    let m = one_more _ _ _ q.0 b h here in
    let es = slot_is c.args.own.now _ _ _ c.turned_place.ensures.0 c.from.ensures in
    let ec = class-is c.args.own.now _ _ _ c.turned_place.ensures.0 c.from-in-loop-t.ensures in
    let few = q.2.few _ n in
    (c.requires.1, subst (λ (k : ℕ). IsSet c.args.sets.rows.now k) (sym es) (q.2.slot _ n), omega (arith, es, few.0), omega (arith, ec, few.1), h, b.chained, m.0, m.1)

pub loop-t-preserved : goal.loop-t-preserved
loop-t-preserved c =
    let l = c.loop-t in
    let r = c.in-Some.ensures.steps in
    let i = r.inside in
    let h : c.args.base + c.in-Some.t < 128 = omega (arith, c.requires.0) in
    let es = slot_is c.args.own.now _ _ _ c.turned_place.ensures.0 c.from.ensures in
    let ec = class-is c.args.own.now _ _ _ c.turned_place.ensures.0 c.from-in-loop-t.ensures in
    let j = c.join-count in (
      j.auto.groups ∙ l.invariant.0,
      λ p from q b a.
          let s = l.invariant.1 p from q b a in
          let skip = skipped _ _ _ p s.1 _ (next-low c.requires.0 s.2 r) (omega arith) (next-none c.requires.0 s.2 r) in
          (_, goes_on _ _ _ p skip h (next-here c.requires.0 s.2 r) _ _ es ec _ _ _ j.ensures j.auto.groups, next-ahead c.requires.0 s.2 r),
    )

pub returns : goal.returns
returns c = let l = c.loop-t in (
  l.invariant.0,
  λ p from h b a.
      let s = l.invariant.1 p from h b a in
      skipped _ _ _ p s.1 _ s.2.high (omega (arith, c.requires.0)) (all-past c.requires.0 s.2 c.in-None.ensures.steps.0),
)
