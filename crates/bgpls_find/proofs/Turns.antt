-- What a walk over the elements of a run does at one of them, where es are those that were left: to the 1122s of a set that are left.
use mathlib.Core.Path.{◌≡◌, sym, ap, ◌∙◌, subst}
use mathlib.Core.Bool.{true, false}
use mathlib.Core.List.{List, [], ◌∷◌}
use Prim.Native.Nat.{ℕ, ◌+◌, ◌≤◌, ◌<◌}
use native.Mathlib.Omega.{arith}
use lib.ListN.{length}
use Rattle.linkstate.specs.Replies.{run_bgp_ls}
use Rattle.linkstate.specs.Elements.{Element, element, faults}
use Rattle.linkstate.specs.BgpLs.{asla_header, check_top, advertisements_of}
use Rattle.linkstate.specs.Lists.{keep, each}
use Rattle.frames.specs.Uncut.{left}
use Rattle.frames.proofs.Walks.{Stands, stands, left-behind, passed-here}
use Rattle.bgpls_find.specs.declared.Set.{Set}
use Rattle.bgpls_find.specs.Sets.{is_top, chosen}
use Rattle.bgpls_find.specs.Walks.{Passes, aslas_from, Sound, IsAsla, IsPart}
use Rattle.bgpls_find.proofs.Laws.{Taken, sound, aslas-passed, rest-passes, is-asla}
use Rattle.bgpls_find.proofs.SetLaws.{asla-part}

two : 0 < 2
two = omega arith

-- The walk is at a place: what passes there, and with it the 1122s of the set from a place before it on.
pub record AtPlace (set : Set) (r : List ℕ) (from : ℕ) (es : List Element) : Type 0 where
  pub place : ℕ
  pub left : es ≡ left 2 0 r place
  pub behind : from ≤ place
  pub passes : Passes r place
  pub same : aslas_from set r place ≡ aslas_from set r from

pub at-end : {set : Set} {r : List ℕ} {from : ℕ} {es : List Element} → AtPlace set r from es → es ≡ [] → aslas_from set r from ≡ []
unfolding aslas_from keep each
at-end {set} {r} a e = sym a.same ∙ ap (λ (es : List Element). keep (chosen set) (each advertisements_of es)) (sym (left-behind 2 r a.place) ∙ sym a.left ∙ e)

module _ {set : Set} {r : List ℕ} {from : ℕ} {es rest : List Element} {o t : ℕ} {v : List ℕ} (a : AtPlace set r from es) (e : es ≡ element o t v ∷ rest) where
  there : Stands 2 two 0 r a.place o t v rest
  there = stands 2 two 0 r a.place (sym a.left ∙ e)

  pub sound-here : t ≡ 1122 → Sound v
  sound-here i = sound o t v (passed-here run_bgp_ls check_top e (ap (faults run_bgp_ls check_top) a.left ∙ ap (faults run_bgp_ls check_top) (left-behind 2 r a.place) ∙ a.passes)) i

  pub go-by : Taken set t v ≡ false → AtPlace set r from rest
  go-by h =
      let s = there in
      let b = a.behind in
      record {
        place = a.place + 4 + length v;
        left = s.behind;
        behind = omega arith;
        passes = rest-passes set r a.place t (length v) s.whole a.passes;
        same = aslas-passed set r a.place t (length v) s.whole (ap (Taken set t) (sym s.value) ∙ h) ∙ a.same;
      }

  module _ (h : Taken set t v ≡ true) where
    asla : IsAsla set r from a.place (length v)
    asla = let s = there in is-asla set r a.place t (length v) s.whole a.passes from a.behind a.same (ap (Taken set t) (sym s.value) ∙ h)

    pub record Taking : Type 0 where
      pub fixed : 4 ≤ length v
      pub header : asla_header v ≤ length v
      pub within : o + 4 + length v ≤ length r

    pub taking : Taking
    taking =
        let s = there in
        let i = asla in
        let p = s.place in
        let w = i.within in
        record { fixed = i.fixed; header = omega (arith, i.masks, ap asla_header s.value); within = omega arith }

    pub is-part : is_top set ≡ false → (first next : ℕ) → first ≡ o + 4 + asla_header v → next ≡ o + 4 + length v → IsPart set r from first next
    is-part inside first next f n =
        let s = there in
        let p = s.place in
        let i : next ≡ a.place + 4 + length v = omega arith in
        subst (IsPart set r from first) (sym i) (asla-part set r from inside a.place (length v) first asla (omega (arith, ap asla_header s.value)))
