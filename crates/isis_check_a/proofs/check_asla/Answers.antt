-- Each way out is one of the definition's checks, in its order; an ASLA that is accepted names whom its masks name.
use mathlib.Core.Path.{◌≡◌, sym, ap, ◌∙◌}
use Prim.Native.Nat.{◌+◌, ◌-◌, ◌≤◌}
use native.Mathlib.Omega.{arith}
use Rattle.std.specs.Prelude.{Some, Ok}
use Rattle.rules.proofs.NameLaws.{behind-as, refuses-behind}
use Rattle.replies.proofs.Laws.{passed_on, none-else, err-else}
use Rattle.replies.specs.declared.Run.TheVariants.{A}
use Rattle.isis_check_a.specs.Headers.{masks_in}
use Rattle.isis_check_a.proofs.Laws.{asla-short, lent_length, part-in-length}
use Rattle.isis_check_a.proofs.Naming.{ignored-in, past-in, list-in, masks-in, flagged-in, listed_in, refused-in}
use Rattle.isis_check_a.proofs.check_asla.Goals as goal
use Rattle.isis_check_a.proofs.check_asla.Goals.{In-Some}

-- where the masks end
ends : (c : In-Some) → masks_in c.read_header-h.result (c.args.end - (c.args.at + 2)) ≡ Ok (Some c.in-Some.list)
ends c = sym c.masks_within.ensures ∙ c.in-Ok.is ∙ ap Ok c.in-Some.is

-- the list begins within the ASLA
begins : (c : In-Some) → c.args.at + 2 + c.in-Some.list ≤ c.args.end
begins c = list-in _ _ _ c.requires.1 (omega arith) _ c.read_header-h.ensures.0 _ (ends c)

pub returns-then-end-value : goal.returns-then-end-value
returns-then-end-value c = behind-as (asla-short _ _ (omega (arith, part-in-length c.args.a.now c.args.end c.requires.1 (c.args.at + 2) c.requires.0))) (refuses-behind 3 A _ _ c.refuse_at.ensures _ _)

pub returns-in_default : goal.returns-in_default
returns-in_default c =
    let p = err-else _ c.in_default.not-Ok in
    behind-as (past-in _ _ _ c.requires.1 (omega arith) _ c.read_header-h.ensures.0 p.0 (sym c.masks_within.ensures ∙ p.1)) (refuses-behind 3 A _ _ c.refuse_at-in_default.ensures _ _)

pub returns-in_default-masks : goal.returns-in_default-masks
returns-in_default-masks c =
    ignored-in _ _ _ c.requires.1 (omega arith) _ c.read_header-h.ensures.0 (sym c.masks_within.ensures ∙ c.in-Ok.is ∙ ap Ok (none-else _ c.in_default-masks.not-Some)) _

pub with_advertisement-all-requires : goal.with_advertisement-all-requires
with_advertisement-all-requires c = let m = masks-in _ _ _ c.requires.1 (omega arith) _ c.read_header-h.ensures.0 _ (ends (goal.at.with_advertisement-all-requires c).In-Some) in
    (m.0, m.1, omega arith, c.requires.2)

pub returns-then-l : goal.returns-then-l
returns-then-l c =
    flagged-in _ _ _ c.requires.1 (omega arith) _ c.read_header-h.ensures.0 _ (ends (goal.at.returns-then-l c).In-Some) _ _ c.with_advertisement-all.ensures c.if-l.true

pub overflow_add-value-4 : goal.overflow_add-value-4
overflow_add-value-4 c = omega (arith, begins (goal.at.overflow_add-value-4 c).In-Some)

pub check_list-requires : goal.check_list-requires
check_list-requires c = omega (arith, begins (goal.at.check_list-requires c).In-Some, lent_length c.args.a.now c.args.end c.requires.1)

pub returns-in_err-check_list : goal.returns-in_err-check_list
returns-in_err-check_list c =
    rw (passed_on _ _ c.from_residual.ensures.1)
    (refused-in _ _ _ c.requires.1 (omega arith) _ c.read_header-h.ensures.0 _ (ends (goal.at.returns-in_err-check_list c).In-Some) _ _
    c.with_advertisement-all.ensures c.if-l.false
    _ c.check_list.ensures _ c.in_err-check_list.was)

pub returns : goal.returns
returns c =
    listed_in _ _ _ c.requires.1 (omega arith) _ c.read_header-h.ensures.0 _ (ends (goal.at.returns c).In-Some) _ _
    c.with_advertisement-all.ensures c.if-l.false
    _ c.check_list.ensures _ c.in_ok-check_list.was
