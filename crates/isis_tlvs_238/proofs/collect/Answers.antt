-- What is written so far, with the numbers of what is left, is all.
use lib.ListN.{length}
use Prim.Native.Nat.{◌+◌}
use mathlib.Core.List.{List}
use Prim.Native.Nat.{ℕ}
use mathlib.Core.Path.{refl, ◌∙◌, ap}
use native.Mathlib.Omega.{arith}
use Rattle.frames.specs.Left.{whole_left}
use Rattle.frames.proofs.Walks.{uncut}
use Rattle.isis.specs.RunB.{check_b}
use Rattle.linkstate.specs.Replies.{run_b}
use Rattle.linkstate.specs.Lists.{put}
use Rattle.isis_tlvs_238.proofs.Walks.{live-words, place-begin, value-whole, place-room, place-next, place-few, wrote_none, wrote-next, wrote-all}
use Rattle.isis_tlvs_238.proofs.collect.Goals as goal

pub new-e-items-requires-clause-uncut : goal.new-e-items-requires-clause-uncut
new-e-items-requires-clause-uncut c = uncut run_b check_b _ c.requires.0

pub loop-e-init : goal.loop-e-init
loop-e-init c = let e = ap whole_left c.into_iter-e-iterator.ensures.into_iter_gives ∙ c.new-e-items.ensures in
    record {
      place = place-begin c.args.at e c.requires.0;
      same = refl;
      wrote = rw e (wrote_none _ _ _);
    }

pub add_words-k-requires : goal.add_words-k-requires
add_words-k-requires c = let i = c.loop-e.invariant in
    let e = c.in-Some.ensures.steps in
    (value-whole i.place e, omega (arith, place-room i.place e, c.requires.1, i.same))

pub loop-e-preserved : goal.loop-e-preserved
loop-e-preserved c = let i = c.loop-e.invariant in
    let e = c.in-Some.ensures.steps in
    let r = c.add_words-k.ensures in
    let at = c.in-Some.e.at in
    record {
      place = place-next i.place e _ r.upper_bound;
      same = c.add_words-k.auto.out ∙ i.same;
      wrote = wrote-next c.args.which i.wrote e _ _ (r.by_index at).0 (r.by_index at).1 (omega (arith, r.upper_bound, place-room i.place e, c.requires.1));
    }

pub shape_of-out : goal.shape_of-out
shape_of-out c = c.loop-e.invariant.same

pub returns : goal.returns
returns c = let i = c.loop-e.invariant in record {
  by_index = λ x.
      let e = live-words c.args.which c.args.b.now x in
      let w = wrote-all c.args.which i.wrote c.in-None.ensures.steps.0 in
      (w.0 ∙ ap (λ (ws : List ℕ). c.args.at + length ws) e, w.1 ∙ ap (put c.args.out.now c.args.at) e);
  upper_bound = place-few i.place;
}
