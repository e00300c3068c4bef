-- The attributes of a set, list by list, and what a run that passed its checks has.
use mathlib.Core.Path.{◌≡◌, refl, sym, ap, ap₂, ◌∙◌}
use mathlib.Core.Bool.{Bool, true, false, cond, not}
use mathlib.Core.List.{List, [], ◌++◌, append-nil}
use Prim.Native.Nat.{ℕ, ◌+◌, ◌-◌, ◌≤◌, ◌<◌}
use native.Mathlib.Omega.{arith}
use borrow.Author.Tests.{ltb-false}
use lib.Dec.{ltb}
use lib.ListN.{length, take, drop, length-drop, drop_of_length-le}
use lib.Seq.{take-length, take-nil, length-take-le}
use Rattle.linkstate.specs.Lists.{each, empty}
use Rattle.linkstate.specs.Bytes.{bytes_at}
use Rattle.linkstate.specs.Replies.{accepted, refused_if, fault_of_call, fault, run_a, run_bgp_ls, ◌then◌}
use Rattle.linkstate.specs.Elements.{Element, elements, faults}
use Rattle.linkstate.specs.Attributes.{Attribute}
use Rattle.linkstate.specs.Sides.{Advertisement, general, names, named, of_live, general_set, application_set}
use Rattle.linkstate.specs.BgpLs.{asla_header, check_inner, check_top, run_verdict, attributes_of, advertisement, advertisements_of, inner_elements, aslas, top_level, run_side}
use Rattle.linkstate.proofs.ElementLaws.{rest-place, none_left}
use Rattle.linkstate.proofs.WalkLaws.{then-second, not-accepted}
use Rattle.octets.proofs.Laws.{length-bytes_at}
use Rattle.linkstate.proofs.ListLaws.{any-keep}
use Rattle.rivals.proofs.RunLaws.{no-L, named_set}
use Rattle.bgpls_find.specs.declared.Set.{Set}
use Rattle.bgpls_find.specs.declared.Set.TheVariants.{Top, Every, General, Naming}
use Rattle.bgpls_find.specs.Sets.{is_top, chosen_by, chosen, attributes_in}
use Rattle.bgpls_find.specs.Walks.{Passes, aslas_from, attributes_from, bytes_up_to, IsAsla, IsPart, AtList, Starts}
use Rattle.bgpls_find.proofs.Laws.{rest_end, passes-end, aslas-end}
use Rattle.frames.specs.Uncut.{uncut as is_uncut}
use Rattle.frames.proofs.Walks.{uncut}

-- ---- a run that passed

pub run-passes : (r : List ℕ) → run_verdict r ≡ accepted → Passes r 0
unfolding run_verdict
run-passes r h = then-second (refused_if (ltb 524288 (length r)) 1) (faults run_bgp_ls check_top (elements 2 0 r)) h

pub run-within : (r : List ℕ) → run_verdict r ≡ accepted → length r ≤ 524288
unfolding run_verdict refused_if fault_of_call fault ◌then◌
run-within r = go (ltb 524288 (length r)) refl
  where
    go : (b : Bool) → ltb 524288 (length r) ≡ b → (refused_if b 1 then faults run_bgp_ls check_top (elements 2 0 r)) ≡ accepted → length r ≤ 524288
    go true e h = absurd (not-accepted 1 run_a 0 h)
    go false e h = ltb-false 524288 (length r) e

-- A part of it, by the code's slice.
pub part-size : (r : List ℕ) (first next : ℕ) → first ≤ next → next ≤ length r → length (bytes_up_to r first next) ≡ next - first
part-size r first next h g = length-take-le (next - first) (drop first r) (omega (arith, length-drop first r))

pub part-within : (r : List ℕ) (first next : ℕ) → first ≤ next → next ≤ length r → run_verdict r ≡ accepted
    → first + length (take (next - first) (drop first r)) ≤ 524288
part-within r first next h g p = omega (arith, run-within r p, part-size r first next h g)

-- ---- the lists of elements of a set

pub from-run : (set : Set) (r : List ℕ) → attributes_from set r 0 ≡ attributes_in set r
unfolding attributes_from attributes_in is_top aslas_from chosen chosen_by top_level run_side aslas of_live general_set general names
from-run Top r = refl
from-run Every r = refl
from-run General r = refl
from-run (Naming a) r = refl

pub attributes-end : (set : Set) (r : List ℕ) (from : ℕ) → length r ≤ from → attributes_from set r from ≡ []
unfolding attributes_from each
attributes-end set r from h =
    ap₂ (λ (es : List Element) (ds : List Advertisement). cond (is_top set) (each attributes_of es) (each (λ d. d.attributes) ds)) (rest_end r from h)
    (aslas-end set r from h)
    ∙ go (is_top set)
  where
    go : (b : Bool) → ◌≡◌ {A = List Attribute} (cond b [] []) []
    go true = refl
    go false = refl

module _ (set : Set) (r : List ℕ) (from : ℕ) where
  module _ (inside : is_top set ≡ false) where
    pub no_part : aslas_from set r from ≡ [] → (aslas_from set r from ≡ []) × (attributes_from set r from ≡ [])
    unfolding attributes_from each
    no_part e = (e, rw (inside, e))

    pub asla-part : (at n first : ℕ) → IsAsla set r from at n → first ≡ at + 4 + asla_header (bytes_at r (at + 4) n) → IsPart set r from first (at + 4 + n)
    unfolding attributes_from each empty advertisement inner_elements bytes_at
    asla-part at n first a e =
        let m = a.masks in
        let w = a.within in
        let b = a.behind in
        let v = bytes_at r (at + 4) n in
        let h = asla_header v in
        let s : length v ≡ n = length-bytes_at r (at + 4) n w in
        let k : at + 4 + n - first ≡ length (drop h v) = omega (arith, length-drop h v) in
        let l = list first (at + 4 + n - first) (at + 4 + h) (length (drop h v)) e k ∙ rest-place r (at + 4) h v (ap (bytes_at r (at + 4)) s) (omega arith) in
        record {
          on = omega arith;
          start = omega arith;
          order = omega arith;
          within = w;
          uncut = ap₂ (λ (i : ℕ) (l : List ℕ). is_uncut (elements 2 i l)) e l
              ∙ uncut run_bgp_ls check_inner (elements 2 (at + 4 + h) (drop h v)) a.inner;
          passes = a.passes;
          some = rw a.left;
          left =
              rw (inside, a.left)
              (ap₂ (λ (i : ℕ) (l : List ℕ). each attributes_of (elements 2 i l) ++ each (λ d. d.attributes) (aslas_from set r (at + 4 + n))) (sym e) (sym l));
        }
      where
        list : (i j x y : ℕ) → i ≡ x → j ≡ y → take j (drop i r) ≡ bytes_at r x y
        list i j x y p q = ap₂ (λ (i j : ℕ). take j (drop i r)) p q

-- ---- where a set starts

-- With the whole run, for its top.
pub starts-top : (r : List ℕ) → run_verdict r ≡ accepted → Starts Top r 0 (length r)
unfolding attributes_in top_level
starts-top r ok =
    let none = attributes-end Top r (length r) (omega arith) in
    let z : length r - 0 ≡ length r = omega arith in
    let whole : take (length r - 0) r ≡ r = ap (λ (k : ℕ). take k r) z ∙ take-length r in
    record {
      list =
          record {
            order = omega arith;
            within = omega arith;
            uncut = ap (λ (l : List ℕ). is_uncut (elements 2 0 l)) whole ∙ uncut run_bgp_ls check_top (elements 2 0 r) (run-passes r ok);
            passes = passes-end r (length r) (omega arith);
            top = λ e. omega arith;
          };
      all = ap₂ (λ (l : List ℕ) (ts : List Attribute). each attributes_of (elements 2 0 l) ++ ts) whole none ∙ append-nil (each attributes_of (elements 2 0 r));
    }

-- With its first list, or at the end where it has none.
module _ (set : Set) (r : List ℕ) (inside : is_top set ≡ false) where
  not-true : is_top set ≡ true → (n : ℕ) → length r ≤ n
  not-true e n = absurd (let z : ◌≡◌ {A = ℕ} 0 1 = cc in omega arith)

  pub starts-part : (first next : ℕ) → IsPart set r 0 first next → Starts set r first next
  starts-part first next p =
      record {
        list = record { order = p.order; within = p.within; uncut = p.uncut; passes = p.passes; top = λ e. not-true e next };
        all = sym p.left ∙ from-run set r;
      }

  pub starts_none : attributes_from set r 0 ≡ [] → Starts set r (length r) (length r)
  unfolding each faults
  starts_none e =
      let none = attributes-end set r (length r) (omega arith) in
      let nothing : drop (length r) r ≡ [] = drop_of_length-le r {i = length r} (omega arith) in
      let nowhere = ap (λ (l : List ℕ). elements 2 (length r) l) (list-of-none (length r - length r) (drop (length r) r) nothing) ∙ none_left 2 (length r) in
      record {
        list =
            record {
              order = omega arith;
              within = omega arith;
              uncut = ap is_uncut nowhere;
              passes = passes-end r (length r) (omega arith);
              top = λ e. not-true e (length r);
            };
        all =
            ap₂ (λ (es : List Element) (ts : List Attribute). each attributes_of es ++ ts) nowhere none
            ∙ sym e
            ∙ from-run set r;
      }
    where
      list-of-none : (k : ℕ) (l : List ℕ) → l ≡ [] → take k l ≡ []
      list-of-none k l e = ap (take k) e ∙ take-nil k

-- ---- a walk that stands at a list

module _ (set : Set) (r : List ℕ) (first next : ℕ) (a : AtList set r first next) where
  -- One that has not come to the end is not over the top, and may look for the next list.
  pub go_on : next < length r → (next ≤ length r) × (is_top set ≡ false) × Passes r next
  go_on h = (a.within, inside (is_top set) a.top, a.passes)
    where
      inside : (b : Bool) → (b ≡ true → length r ≤ next) → b ≡ false
      inside true g = absurd (omega (arith, g refl))
      inside false g = refl

  pub next-list : (f n : ℕ) → IsPart set r next f n → AtList set r f n
  next-list f n p =
      let l = p.on in
      let w = p.within in
      record { order = p.order; within = w; uncut = p.uncut; passes = p.passes; top = λ e. let h = a.top e in omega arith }

-- ---- the set of an application

module _ (r : List ℕ) (a : ℕ) where
  naming : named a (run_side r) ≡ not (empty (aslas_from (Naming a) r 0))
  unfolding named run_side aslas_from aslas chosen chosen_by names
  naming = any-keep (names a) (each advertisements_of (elements 2 0 r))

  pub some-name : empty (aslas_from (Naming a) r 0) ≡ false → attributes_in (Naming a) r ≡ application_set a (run_side r)
  unfolding attributes_in
  some-name e = sym (named_set r a (naming ∙ rw e))

  pub none-name : aslas_from (Naming a) r 0 ≡ [] → attributes_in General r ≡ application_set a (run_side r)
  unfolding attributes_in empty application_set
  none-name e = let n : named a (run_side r) ≡ false = naming ∙ rw e in rw (no-L r a, n)
