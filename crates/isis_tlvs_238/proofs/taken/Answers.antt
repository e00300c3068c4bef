-- A mask that is too long, a test that fails, or whether it is live.
use native.Mathlib.Omega.{arith}
use lib.ListN.{length}
use Prim.Native.Nat.{◌+◌, ◌≤◌}
use mathlib.Core.Path.{sym, ◌∙◌}
use Rattle.isis_check_a.proofs.Laws.{header-too-long}
use Rattle.isis_tlvs_238.proofs.Tlvs.{masks-within, standard-is, user-is, too-long-dead, not_taken, taken_live}
use Rattle.isis_tlvs_238.proofs.taken.Goals as goal
use Rattle.isis_tlvs_238.proofs.taken.Goals.{Else-mask_too_long}

-- the masks lie within v
within : (c : Else-mask_too_long) → 2 + c.args.h.standard + c.args.h.user ≤ length c.args.v.now
within c =
    let p = c.requires in
    masks-within _ _ p.0 (omega (arith, p.1.listed (sym (header-too-long _ _ p.0) ∙ sym c.mask_too_long.ensures ∙ c.if-mask_too_long.false)))

pub returns-then-mask_too_long : goal.returns-then-mask_too_long
returns-then-mask_too_long c = λ at. too-long-dead at _ _ (sym (header-too-long _ _ c.requires.0) ∙ sym c.mask_too_long.ensures ∙ c.if-mask_too_long.true)

pub slice_bounds-passes-end : goal.slice_bounds-passes-end
slice_bounds-passes-end c = omega (arith, within (goal.at.slice_bounds-passes-end c).Else-mask_too_long)

pub slice_bounds-passes-end-2 : goal.slice_bounds-passes-end-2
slice_bounds-passes-end-2 c = omega (arith, within (goal.at.slice_bounds-passes-end-2 c).Else-mask_too_long)

pub returns-then-not-passes : goal.returns-then-not-passes
returns-then-not-passes c = let p = c.requires.0 in
    λ at. not_taken at _ _ _ _ _ (standard-is _ _ p) (user-is _ _ p) c.passes.ensures c.if-not-passes.true

pub returns : goal.returns
returns c = let p = c.requires.0 in
    λ at. taken_live at _ _ _ _ _ (standard-is _ _ p) (user-is _ _ p) c.passes.ensures _ c.if-not-passes.false (c.live_srlg.ensures at)
