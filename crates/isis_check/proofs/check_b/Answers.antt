-- What is left decides, and with whom was met names whom the run names.
use mathlib.Core.Path.{◌≡◌, sym, ap, ◌∙◌, subst}
use mathlib.Core.List.{List, ◌∷◌}
use Prim.Native.Nat.{ℕ, ◌+◌, ◌≤◌}
use native.Mathlib.Omega.{arith}
use lib.ListN.{length}
use Rattle.linkstate.specs.Bytes.{bytes_at}
use Rattle.linkstate.specs.Replies.{run_b}
use Rattle.linkstate.specs.Elements.{Element, element, elements}
use Rattle.replies.proofs.Laws.{passed_on}
use Rattle.replies.specs.declared.Run.TheVariants.{B}
use Rattle.rules.specs.Names.{ChecksBehind}
use Rattle.rules.proofs.NameLaws.{checks-as, refuses}
use Rattle.frames.specs.Left.{elements_left}
use Rattle.frames.proofs.Walks.{Stands, stands, gave-whole, gave-cut, left-all}
use Rattle.isis.specs.RunB.{check_b, srlg_advertisements, side_b}
use Rattle.isis_check_a.specs.Headers.{value_in}
use Rattle.isis_check_a.proofs.Laws.{one_byte}
use Rattle.isis_check_a.proofs.Naming.{Walked, walked_start, walked-cut, walked_end, walked-over, walked_on, walked-refused, standing-value}
use Rattle.isis_check.proofs.SrlgLaws.{tlv-checks, tlv-other, other-nobody}
use Rattle.isis_check.proofs.check_b.Goals as goal
use Rattle.isis_check.proofs.check_b.Goals.{In-Ok, After-check_tlv}

-- the element of the turn, and that it stands in the run
taken : (c : In-Ok) → elements_left c.loop-e.e-iterator ≡ element c.in-Ok.e.at c.in-Ok.e.kind c.in-Ok.e.value.now ∷ elements_left c.next.new.self
taken c = gave-whole c.in-Ok.e c.in-Ok.is c.in-Some.ensures.steps

here : (c : In-Ok) → Stands 1 one_byte 0 c.args.b.now c.loop-e.invariant.0.0 c.in-Ok.e.at c.in-Ok.e.kind c.in-Ok.e.value.now (elements_left c.next.new.self)
here c = stands 1 one_byte 0 c.args.b.now c.loop-e.invariant.0.0 (sym c.loop-e.invariant.0.1 ∙ taken c)

within : (c : In-Ok) → c.in-Ok.e.at + 2 + length c.in-Ok.e.value.now ≤ length c.args.b.now
within c = let h = here c in omega (arith, h.place, h.whole.within)

-- the value that the check is told by its places
value_here : (c : In-Ok) → let v = c.in-Ok.e.value.now in
    v ≡ value_in c.args.b.now c.in-Ok.e.at (c.in-Ok.e.at + 2 + length v)
value_here c =
    let h = here c in
    let o : c.in-Ok.e.at ≡ c.loop-e.invariant.0.0 = omega (arith, h.place) in
    let v = c.in-Ok.e.value.now in
    standing-value c.args.b.now c.in-Ok.e.at v (h.value ∙ ap (λ (i : ℕ). bytes_at c.args.b.now (i + 2) (length v)) (sym o))

pub loop-e-init : goal.loop-e-init
loop-e-init c =
    let e = ap elements_left c.into_iter-e-iterator.ensures.into_iter_gives ∙ c.new-e-items.ensures in (
      (0, e ∙ sym (left-all 1 0 c.args.b.now)),
      subst (λ (es : List Element). Walked run_b check_b srlg_advertisements (elements 1 0 c.args.b.now) es c.nobody-names.result) (sym e)
          (walked_start run_b check_b srlg_advertisements _ _ c.nobody-names.ensures),
    )

pub returns-in-Err : goal.returns-in-Err
unfolding side_b
returns-in-Err c = λ d.
    checks-as (walked-cut run_b check_b srlg_advertisements _ c.loop-e.invariant.1 (gave-cut c.in-Err.cut c.in-Err.is c.in-Some.ensures.steps)) (refuses 3 B _ _ c.refuse_at.ensures _)

pub overflow_add-at : goal.overflow_add-at
overflow_add-at c = omega (arith, within (goal.at.overflow_add-at c).In-Ok)

pub overflow_add-at-then-kind-eq238 : goal.overflow_add-at-then-kind-eq238
overflow_add-at-then-kind-eq238 c = omega (arith, within (goal.at.overflow_add-at-then-kind-eq238 c).In-Ok)

pub check_tlv-requires : goal.check_tlv-requires
check_tlv-requires c = let w = within (goal.at.check_tlv-requires c).In-Ok in (omega arith, omega arith, c.requires)

-- what the check of a TLV 238 tells, of its element
told : (c : After-check_tlv) → let e = c.in-Ok.e in
    e.value.now ≡ value_in c.args.b.now e.at (e.at + 2 + length e.value.now)
    → ChecksBehind c.loop-e.names (check_b e.at e.kind e.value.now) (srlg_advertisements (element e.at e.kind e.value.now)) c.check_tlv.result
told c is =
    let e = c.in-Ok.e in
    tlv-checks e.at e.kind e.value.now c.loop-e.names c.check_tlv.result c.if-kind-eq238.true
    (subst (λ (v : List ℕ). ChecksBehind c.loop-e.names (check_b e.at 238 v) (srlg_advertisements (element e.at 238 v)) c.check_tlv.result) (sym is) c.check_tlv.ensures)

pub returns-in_err-names : goal.returns-in_err-names
unfolding side_b
returns-in_err-names c = λ d.
    let g = goal.at.returns-in_err-names c in
    rw (passed_on _ _ c.from_residual.ensures.1)
    (walked-refused run_b check_b srlg_advertisements _ c.loop-e.invariant.1 (taken g.In-Ok) _ (told g.After-check_tlv (value_here g.In-Ok)) _ c.in_err-names.was)

pub loop-e-preserved-then-kind-eq238 : goal.loop-e-preserved-then-kind-eq238
loop-e-preserved-then-kind-eq238 c =
    let g = goal.at.loop-e-preserved-then-kind-eq238 c in (
      (_, (here g.In-Ok).behind),
      walked_on run_b check_b srlg_advertisements _ c.loop-e.invariant.1 (taken g.In-Ok) _ (told g.After-check_tlv (value_here g.In-Ok)) _ c.in_ok-names.was,
    )

pub loop-e-preserved : goal.loop-e-preserved
loop-e-preserved c =
    let o = (goal.at.loop-e-preserved c).In-Ok in (
      (_, (here o).behind),
      walked-over run_b check_b srlg_advertisements _ c.loop-e.invariant.1 (taken o) (tlv-other _ _ _ (λ i. omega (arith, i))) (other-nobody _ _ _ (λ i. omega (arith, i))),
    )

pub returns : goal.returns
unfolding side_b
returns c = λ d. walked_end run_b check_b srlg_advertisements _ c.loop-e.invariant.1 c.in-None.ensures.steps.0
