-- `bgpls_find::is_chosen` meets its contract: not a 1122, a mask too short, ignored, or what the set says of its masks.
use Rattle.bgpls_find.proofs.Laws.{Taken, not-asla, not_chosen, ends-unnamed, not_live, by-set, names-part, general-lengths, header-live, header-size}
use Rattle.bgpls_find.specs.Walks.{standard_mask, user_mask}
use Rattle.bgpls_find.specs.Sets.{chosen_by}
use Rattle.bgpls_find.specs.declared.Set.TheVariants.{Top, Every, General, Naming}
use Rattle.bgpls_find.specs.declared.Set.{Set}
use Rattle.bgpls_check.specs.declared.AslaHeader.{AslaHeader}
use Rattle.linkstate.specs.BgpLs.{sabm_length, udabm_length, not_ignored}
use lib.ListN.{length}
use native.Mathlib.Omega.{arith}
use mathlib.Core.List.{List}
use mathlib.Core.Bool.{Bool, true}
use mathlib.Core.Path.{◌≡◌, refl, sym, ◌∙◌}
use Prim.Native.Nat.{ℕ, ◌+◌, ◌≤◌}
use Rattle.bgpls_find.proofs.is_chosen.Goals as goal
use Rattle.bgpls_find.proofs.is_chosen.Goals.{Else-not-not_ignored as Kept}

-- The value of a 1122 that is not ignored, and its mask lengths.
abbrev value : Kept → List ℕ
value k = k.args.v.now

abbrev header : Kept → AslaHeader
header k = k.read_asla_header-h.result

standard-is : (k : Kept) → (header k).standard ≡ sabm_length (value k)
standard-is k = k.read_asla_header-h.ensures.0

user-is : (k : Kept) → (header k).user ≡ udabm_length (value k)
user-is k = k.read_asla_header-h.ensures.1

live : (k : Kept) → not_ignored (value k) ≡ true
live k = sym (k.not_ignored.ensures ∙ header-live _ _ _ (standard-is k) (user-is k)) ∙ k.if-not-not_ignored.false

room : (k : Kept) → 4 + (header k).standard + (header k).user ≤ length (value k)
room k = let e = header-size _ _ _ (standard-is k) (user-is k) in
    let h = (k.requires k.if-code-ne1122.false).masks (live k) in
    omega arith

-- By what the set says of the masks.
by : (k : Kept) (x : Set) → k.args.set ≡ x → (b : Bool) → b ≡ chosen_by x (standard_mask (value k)) (user_mask (value k))
    → b ≡ Taken k.args.set k.args.code (value k)
by k x e b p = p ∙ by-set _ _ _ k.if-code-ne1122.false (live k) x e

pub returns-then-code-ne1122 : goal.returns-then-code-ne1122
returns-then-code-ne1122 c = not-asla _ _ _ c.if-code-ne1122.true

pub read_asla_header-h-requires : goal.read_asla_header-h-requires
read_asla_header-h-requires c = (c.requires c.if-code-ne1122.false).fixed

pub returns-then-ends_before : goal.returns-then-ends_before
returns-then-ends_before c = let a = c.args in
    let h = c.read_asla_header-h in
    not_chosen a.set a.code a.v.now (ends-unnamed a.set a.v.now _ _ h.ensures.0 h.ensures.1 (sym c.ends_before.ensures ∙ c.if-ends_before.true))

pub returns-then-not-not_ignored : goal.returns-then-not-not_ignored
returns-then-not-not_ignored c = let h = c.read_asla_header-h in
    not_live _ _ _ c.if-code-ne1122.false (sym (c.not_ignored.ensures ∙ header-live _ _ _ h.ensures.0 h.ensures.1) ∙ c.if-not-not_ignored.true)

pub slice_bounds-names-end : goal.slice_bounds-names-end
slice_bounds-names-end c = let kept = (goal.at.slice_bounds-names-end c).Else-not-not_ignored in
    let h = room kept in omega arith

pub slice_bounds-names-end-in-Naming : goal.slice_bounds-names-end-in-Naming
slice_bounds-names-end-in-Naming c = let kept = (goal.at.slice_bounds-names-end-in-Naming c).Else-not-not_ignored in
    let h = room kept in omega arith

pub returns-in-Top : goal.returns-in-Top
unfolding chosen_by
returns-in-Top c = let kept = (goal.at.returns-in-Top c).Else-not-not_ignored in
    by kept Top c.in-Top.is _ refl

pub returns-in-Every : goal.returns-in-Every
unfolding chosen_by
returns-in-Every c = let kept = (goal.at.returns-in-Every c).Else-not-not_ignored in
    by kept Every c.in-Every.is _ refl

pub returns-in-General : goal.returns-in-General
returns-in-General c = let kept = (goal.at.returns-in-General c).Else-not-not_ignored in
    by kept General c.in-General.is _ (general-lengths (value kept) (header kept).standard (header kept).user (standard-is kept) (user-is kept) (room kept))

pub returns-in-Naming : goal.returns-in-Naming
returns-in-Naming c = let kept = (goal.at.returns-in-Naming c).Else-not-not_ignored in
    let a = c.in-Naming.a in
    by kept (Naming a) c.in-Naming.is _
    (c.names.ensures ∙ names-part (value kept) (header kept).standard (header kept).user (standard-is kept) (user-is kept) a)
