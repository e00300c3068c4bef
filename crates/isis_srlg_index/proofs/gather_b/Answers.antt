-- TLV by TLV.
use Prim.Native.Nat.{ℕ, ◌/◌, ◌+◌, ◌*◌, ◌≤◌, ◌<◌}
use mathlib.Core.Path.{◌≡◌, refl, ap, ◌∙◌}
use mathlib.Core.List.{List}
use native.Mathlib.Omega.{arith}
use lib.ListN.{length, length-set}
use Rattle.frames.specs.Left.{whole_left}
use Rattle.frames.proofs.Walks.{uncut}
use Rattle.isis.specs.RunB.{check_b}
use Rattle.linkstate.specs.Replies.{run_b}
use Rattle.isis_tlvs_238.proofs.Walks.{place-begin, value-passed, place-inside, place-room, place-next, place-few}
use Rattle.isis_srlg_index.proofs.Gathers.{gathering-start, gathering-next, gathering-end}
use Rattle.isis_srlg_index.proofs.gather_b.Goals as goal

-- a source more has a row
room : (b v : List ℕ) (place n sources : ℕ) → place + 2 + length v ≤ length b → 27 * sources ≤ 54 + place → 2 + length b / 27 ≤ n → 25 ≤ length v → sources < n
room b v place n sources w few r h = omega arith

pub bounds-rows-0 : goal.bounds-rows-0
bounds-rows-0 c = omega (arith, c.requires.1.sources)

pub bounds-rows-1 : goal.bounds-rows-1
bounds-rows-1 c = simp length-set (omega (arith, c.requires.1.sources))

pub new-e-items-requires-clause-uncut : goal.new-e-items-requires-clause-uncut
new-e-items-requires-clause-uncut c = uncut run_b check_b _ c.requires.0

pub loop-e-init : goal.loop-e-init
loop-e-init c =
    let e = ap whole_left c.into_iter-e-iterator.ensures.into_iter_gives ∙ c.new-e-items.ensures in
    record {
      at = place-begin 0 e c.requires.0;
      keys_length = refl;
      rows_length = refl;
      so = gathering-start c.args.b.now e c.args.keys.now c.args.rows.now _ (omega (arith, c.requires.1.sources)) refl refl;
    }

pub add_tlv-k-requires : goal.add_tlv-k-requires
add_tlv-k-requires c =
    let i = c.loop-e.invariant in
    let e = c.in-Some.ensures.steps in
    let few = i.so.few in
    let rows : length c.loop-e.rows ≡ length c.args.rows.now = i.rows_length ∙ simp length-set in
    let short = c.requires.1.short.0 in
    let end = place-inside i.at e in
    record {
      passed = (c.in-Some.e.at, value-passed i.at e);
      size = omega (arith, end);
      few = (few.0, omega arith);
      numbers = omega (arith, place-room i.at e, c.requires.1.numbers, i.keys_length);
      source = room _ c.in-Some.e.value.now _ _ _ end few.1 (omega (arith, c.requires.1.sources));
    }

pub loop-e-preserved : goal.loop-e-preserved
loop-e-preserved c =
    let i = c.loop-e.invariant in
    let e = c.in-Some.ensures.steps in
    let w = c.add_tlv-k in
    let (count, sources) = w.ensures.count_bound in
    let few = i.so.few.1 in
    let rows : length c.loop-e.rows ≡ length c.args.rows.now = i.rows_length ∙ simp length-set in
    let next = place-next i.at e _ count in
    record {
      at = next;
      keys_length = w.auto.keys ∙ i.keys_length;
      rows_length = w.auto.rows ∙ i.rows_length;
      so = gathering-next _ e _ _ _ _ _ c.loop-e.k i.so (omega (arith, c.requires.1.short, i.at.bound)) _ _ _
          (omega (arith, place-room i.at e, c.requires.1.numbers)) (omega (arith, sources))
          (λ h. room _ c.in-Some.e.value.now _ _ _ next.bound few (omega (arith, c.requires.1.sources)) (omega arith)) (w.ensures.by_index c.in-Some.e.at);
    }

pub shape_of-keys : goal.shape_of-keys
shape_of-keys c = c.loop-e.invariant.keys_length

pub shape_of-rows : goal.shape_of-rows
shape_of-rows c = c.loop-e.invariant.rows_length ∙ simp length-set

pub returns : goal.returns
returns c = let i = c.loop-e.invariant in
    (gathering-end _ _ _ _ _ c.loop-e.k c.in-None.ensures.steps.0 i.at.bound i.so, omega (arith, place-few i.at))
