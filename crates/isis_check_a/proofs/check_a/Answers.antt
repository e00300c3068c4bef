-- What is left decides, with whom was met names whom the run names, and with the kinds that were met has what the run has.
use mathlib.Core.Path.{◌≡◌, sym, ap, ◌∙◌, subst}
use mathlib.Core.Bool.{Bool, ◌||◌}
use mathlib.Core.List.{List, ◌∷◌}
use Prim.Native.Nat.{ℕ, ◌+◌, ◌≤◌}
use native.Mathlib.Omega.{arith}
use lib.ListN.{length}
use Rattle.linkstate.specs.Replies.{run_a, refused, fault}
use Rattle.linkstate.specs.Elements.{Element, element, elements}
use Rattle.replies.proofs.Laws.{passed_on}
use Rattle.frames.specs.Left.{elements_left}
use Rattle.frames.proofs.Walks.{Stands, stands, gave-whole, gave-cut, left-all}
use Rattle.isis.specs.RunA.{check_asla, check_a, asla_advertisements, side_a}
use Rattle.linkstate.specs.Bytes.{bytes_at}
use Rattle.rules.specs.Names.{ChecksBehind}
use Rattle.isis_check_a.specs.Headers.{value_in}
use Rattle.isis_check_a.proofs.Laws.{one_byte}
use Rattle.isis_check_a.proofs.Naming.{Walked, walked_start, walked-cut, walked_end, walked_on, walked-refused, standing-value, asla-checks, legacy-wrong, legacy-over}
use Rattle.isis_check_a.proofs.Legacy.{met_start, met-end, met-on, met-asla, side-legacy}
use Rattle.isis_check_a.proofs.check_a.Goals as goal
use Rattle.isis_check_a.proofs.check_a.Goals.{In-Ok, After-check_asla}

-- the element of the turn, and that it stands in the run
taken : (c : In-Ok) → elements_left c.loop-e.e-iterator ≡ element c.in-Ok.e.at c.in-Ok.e.kind c.in-Ok.e.value.now ∷ elements_left c.next.new.self
taken c = gave-whole c.in-Ok.e c.in-Ok.is c.in-Some.ensures.steps

here : (c : In-Ok) → Stands 1 one_byte 0 c.args.a.now c.loop-e.invariant.0.0 c.in-Ok.e.at c.in-Ok.e.kind c.in-Ok.e.value.now (elements_left c.next.new.self)
here c = stands 1 one_byte 0 c.args.a.now c.loop-e.invariant.0.0 (sym c.loop-e.invariant.0.1 ∙ taken c)

within : (c : In-Ok) → c.in-Ok.e.at + 2 + length c.in-Ok.e.value.now ≤ length c.args.a.now
within c = let h = here c in omega (arith, h.place, h.whole.within)

-- the value that the check is told by its places
value_here : (c : In-Ok) → let v = c.in-Ok.e.value.now in
    v ≡ value_in c.args.a.now c.in-Ok.e.at (c.in-Ok.e.at + 2 + length v)
value_here c =
    let h = here c in
    let o : c.in-Ok.e.at ≡ c.loop-e.invariant.0.0 = omega (arith, h.place) in
    let v = c.in-Ok.e.value.now in
    standing-value c.args.a.now c.in-Ok.e.at v (h.value ∙ ap (λ (i : ℕ). bytes_at c.args.a.now (i + 2) (length v)) (sym o))

pub loop-e-init : goal.loop-e-init
loop-e-init c =
    let e = ap elements_left c.into_iter-e-iterator.ensures.into_iter_gives ∙ c.new-e-items.ensures in (
      (0, e ∙ sym (left-all 1 0 c.args.a.now)),
      subst (λ (es : List Element). Walked run_a check_a asla_advertisements (elements 1 0 c.args.a.now) es c.nobody-names.result) (sym e)
          (walked_start run_a check_a asla_advertisements _ _ c.nobody-names.ensures),
      rw e (met_start _),
    )

pub returns-in-Err : goal.returns-in-Err
unfolding side_a fault
returns-in-Err c =
    let w = c.loop-e.invariant.1 in
    record { told = ap refused c.refuse_at.ensures ∙ walked-cut run_a check_a asla_advertisements _ w (gave-cut c.in-Err.cut c.in-Err.is c.in-Some.ensures.steps); tells = tt }

pub overflow_add-at : goal.overflow_add-at
overflow_add-at c = omega (arith, within (goal.at.overflow_add-at c).In-Ok)

pub overflow_add-at-then-kind-eq16 : goal.overflow_add-at-then-kind-eq16
overflow_add-at-then-kind-eq16 c = omega (arith, within (goal.at.overflow_add-at-then-kind-eq16 c).In-Ok)

pub check_asla-requires : goal.check_asla-requires
check_asla-requires c = let w = within (goal.at.check_asla-requires c).In-Ok in (omega arith, omega arith, c.requires)

-- what the check of an ASLA tells, of its element
told : (c : After-check_asla) → let e = c.in-Ok.e in
    e.value.now ≡ value_in c.args.a.now e.at (e.at + 2 + length e.value.now)
    → ChecksBehind c.loop-e.names (check_a e.at e.kind e.value.now) (asla_advertisements (element e.at e.kind e.value.now)) c.check_asla.result
told c is =
    let e = c.in-Ok.e in
    asla-checks e.at e.kind e.value.now c.loop-e.names c.check_asla.result c.if-kind-eq16.true
    (subst (λ (v : List ℕ). ChecksBehind c.loop-e.names (check_asla e.at v) (asla_advertisements (element e.at 16 v)) c.check_asla.result)
    (sym is) c.check_asla.ensures)

pub returns-in_err-names : goal.returns-in_err-names
unfolding side_a
returns-in_err-names c =
    let g = goal.at.returns-in_err-names c in
    let w = walked-refused run_a check_a asla_advertisements _ c.loop-e.invariant.1 (taken g.In-Ok) _ (told g.After-check_asla (value_here g.In-Ok)) _ c.in_err-names.was in
    rw (passed_on _ _ c.from_residual.ensures.1) (record { told = w.told; tells = tt })

pub loop-e-preserved-then-kind-eq16 : goal.loop-e-preserved-then-kind-eq16
loop-e-preserved-then-kind-eq16 c =
    let g = goal.at.loop-e-preserved-then-kind-eq16 c in (
      (_, (here g.In-Ok).behind),
      walked_on run_a check_a asla_advertisements _ c.loop-e.invariant.1 (taken g.In-Ok) _ (told g.After-check_asla (value_here g.In-Ok)) _ c.in_ok-names.was,
      met-asla _ c.loop-e.invariant.2 (taken g.In-Ok) c.if-kind-eq16.true,
    )

pub returns-then-wrong_length : goal.returns-then-wrong_length
unfolding side_a fault
returns-then-wrong_length c =
    record {
      told = ap refused c.refuse_at-then-wrong_length.ensures
          ∙ legacy-wrong _ c.loop-e.invariant.1 (taken (goal.at.returns-then-wrong_length c).In-Ok) (λ i. omega (arith, i)) (sym c.wrong_length.ensures ∙ c.if-wrong_length.true);
      tells = tt;
    }

pub loop-e-preserved : goal.loop-e-preserved
loop-e-preserved c =
    let o = (goal.at.loop-e-preserved c).In-Ok in (
      (_, (here o).behind),
      legacy-over _ c.loop-e.invariant.1 (taken o) (λ i. omega (arith, i)) (sym c.wrong_length.ensures ∙ c.if-wrong_length.false),
      met-on _ c.loop-e.invariant.2 (taken o) _ (ap (λ (b : Bool). c.loop-e.legacy || b) c.for_applications-legacy.ensures),
    )

pub returns : goal.returns
unfolding side_a
returns c =
    let e = c.in-None.ensures.steps.0 in
    let w = walked_end run_a check_a asla_advertisements _ c.loop-e.invariant.1 e in
    record { told = w.told; tells = (w.names, met-end _ c.loop-e.invariant.2 e ∙ side-legacy _ (sym w.told)) }
