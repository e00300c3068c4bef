-- In a run that passed its checks, a walk finds the first advertisement of the run's side that passes and has the kind. Assumes nothing.
use mathlib.Core.Path.{◌≡◌, refl, sym, ap, ap₂, ◌∙◌}
use mathlib.Core.Bool.{Bool, true, false, cond, ◌&&◌, ◌||◌, not}
use mathlib.Core.List.{List, [], ◌∷◌}
use Prim.Native.Nat.{ℕ, ◌+◌}
use native.Mathlib.Omega.{arith}
use borrow.Author.Tests.{eqb-true, ne_eqb, le-leb}
use lib.Dec.{eqb, leb, ltb}
use lib.ListN.{length, drop}
use Rattle.linkstate.specs.Lists.{any, each, lookup}
use Rattle.linkstate.specs.Replies as R
use Rattle.linkstate.specs.Replies.{Verdict, accepted, run_a, run_b, run_bgp_ls, place, refused_if}
use Rattle.linkstate.specs.Kinds.{is_code}
use Rattle.linkstate.specs.Elements.{Element, element, cut, elements, faults}
use Rattle.linkstate.specs.Attributes.{Attribute, attribute}
use Rattle.linkstate.specs.Sides.{Advertisement}
use Rattle.linkstate.specs.BgpLs as L
use Rattle.linkstate.specs.Why.{Holder, held_at, nowhere, offset_of, first, has}
use Rattle.linkstate.specs.RunWhy.{stand_run}
use Rattle.isis_kinds.proofs.Computing.{computing}
use Rattle.linkstate.proofs.ListLaws.{and_l, and_r, absorb, eqb-sym}
use Rattle.linkstate.proofs.WalkLaws.{then-first, then-second, not-accepted}
use Rattle.isis.specs.Types.{code_of_type}
use Rattle.isis.specs.MaskHeader.{l_flag, header_length, mask_too_long, l_for_nobody, advertisement}
use Rattle.isis.specs.RunA as I
use Rattle.isis.specs.RunA.{check_a, live_asla, list_elements, asla_advertisements, side_a}
use Rattle.isis.specs.RunB.{after_neighbour, srlg_values, check_b, live_srlg, srlg_attribute, srlg_advertisement, srlg_advertisements, side_b}
use Rattle.isis.specs.Why.{stand_a, stand_b}
use Rattle.isis.proofs.TypeLaws.{type-code}
use Rattle.isis_check_a.proofs.Laws.{sub-tlv-asla}
use Rattle.isis_grids.proofs.Aslas.{headed}
use Rattle.isis_tlvs_238.proofs.Tlvs.{whole, live-within}
use Rattle.bgpls_find.proofs.Laws.{sound}
use Rattle.replies.specs.declared.Run.{Run}
use Rattle.replies.specs.declared.Run.TheVariants.{A, B, C, BgpLs}
use Rattle.std.specs.Prelude.{Option, None, Some}
use Rattle.advertisements.specs.declared.Test.{Test}
use Rattle.advertisements.specs.Widths.{width_of}
use Rattle.advertisements.specs.Tests.{passing, stands, is_of, in_list, carries_a, carries_b, such_in}
use Rattle.advertisements.specs.Walks.{first_with, first_such}
use Rattle.advertisements.proofs.Tests.{not-or, any-one}
use Rattle.why.specs.Runs.{standing, Ready, IsType, with_kind}
use Rattle.why.proofs.Has.{any_same, any-each, and-true, kind-moved, hit, has-is}
use Rattle.why.proofs.First.{Tied, first-same}

pub tied : (run : Run) (s : List ℕ) → Tied (standing run s)
unfolding standing stand_a stand_b stand_run side_a side_b L.run_side L.aslas
tied A s = refl
tied B s = refl
tied C s = refl
tied BgpLs s = refl

-- ---- kinds that are asked for

-- The attributes of a list have a kind where an element of it has the type.
module _ (k t : ℕ) (f : Element → List Attribute) (same : (e : Element) → any (hit k) (f e) ≡ is_of t e) where
  pub has-list : (es : List Element) → has k (each f es) ≡ any (is_of t) es
  has-list es = has-is k (each f es) ∙ sym (any-each (hit k) f es) ∙ any_same (λ e. any (hit k) (f e)) (is_of t) same es

or-none : (b : Bool) → (b || false) ≡ b
or-none true = refl
or-none false = refl

no-type : code_of_type 1096 ≡ 0
unfolding computing
no-type = refl

no_zero : (code_of_type 0 ≡ 0) × (is_code 0 ≡ false)
unfolding computing
no_zero = (refl, refl)

pub some-code : (k : ℕ) → is_code k ≡ true → k ≡ 0 → ⊥
some-code k h z = let i : is_code k ≡ false = ap is_code z ∙ no_zero.1 in let y : ◌≡◌ {A = ℕ} 0 1 = cc in omega arith

module _ (k t : ℕ) (known : is_code k ≡ true) (other : eqb k 1096 ≡ false) (is : code_of_type t ≡ k) where
  some-type : code_of_type t ≡ 0 → ⊥
  some-type z = some-code k known (sym is ∙ z)

  -- of run A's attributes, by the type of the code
  pub same-a : (e : Element) → any (hit k) (I.attributes_of e) ≡ is_of t e
  unfolding I.attributes_of attribute is_of any hit
  same-a (cut at) = refl
  same-a (element at u v) =
      let n : eqb t 1096 ≡ false = ne_eqb t 1096 (λ i. some-type (ap code_of_type i ∙ no-type)) in
      rw (other, n) (or-none (eqb k (code_of_type u) && true) ∙ ap (λ (b : Bool). b && true)
      (eqb-sym k (code_of_type u) ∙ ap (eqb (code_of_type u)) (sym is) ∙ sym (type-code t some-type u)))

  pub carries-a : (at : ℕ) (v : List ℕ) → carries_a (Some t) v ≡ has k (cond (l_flag v) [] (each I.attributes_of (list_elements at v)))
  unfolding carries_a list_elements any each
  carries-a at v = go (l_flag v)
    where
      go : (l : Bool)
          → (not l && any (is_of t) (elements 1 0 (drop (header_length v) v))) ≡ has k
          (cond l [] (each I.attributes_of (elements 1 (at + 2 + header_length v) (drop (header_length v) v))))
      go true = sym (has-list k t I.attributes_of same-a [])
      go false =
          sym (has-list k t I.attributes_of same-a (elements 1 (at + 2 + header_length v) (drop (header_length v) v))
          ∙ kind-moved t 1 (at + 2 + header_length v)
          (drop (header_length v) v))

-- of a TLV 238
carries-b : (o : ℕ) (v : List ℕ) → carries_b (Some 1096) v ≡ has 1096 (cond (l_flag v) [] (srlg_attribute o (srlg_values v) ∷ []))
unfolding carries_b srlg_attribute any hit
carries-b o v = go (l_flag v)
  where
    go : (l : Bool)
        → (not l && leb 4 (length (srlg_values v))) ≡ has 1096
        (cond l [] (record { code = 1096; at = o; len = length (srlg_values v); value = srlg_values v } ∷ []))
    go true = sym (has-is 1096 [])
    go false =
        sym (has-is 1096 (record { code = 1096; at = o; len = length (srlg_values v); value = srlg_values v } ∷ []) ∙ or-none (leb 4 (length (srlg_values v))))

-- of a 1122
module _ (k : ℕ) (known : is_code k ≡ true) where
  same-run : (e : Element) → any (hit k) (L.attributes_of e) ≡ is_of k e
  unfolding L.attributes_of attribute is_of any hit
  same-run (cut at) = refl
  same-run (element at u v) =
      or-none (eqb k u && (not (eqb k 1096) || leb 4 (length v))) ∙ ap (λ (b : Bool). b && (not (eqb k 1096) || leb 4 (length v))) (eqb-sym k u)

  carries-run : (at : ℕ) (v : List ℕ) → in_list 2 (Some k) (drop (L.asla_header v) v) ≡ has k (each L.attributes_of (L.inner_elements at v))
  unfolding in_list L.inner_elements
  carries-run at v =
      sym (has-list k k L.attributes_of same-run (elements 2 (at + 4 + L.asla_header v) (drop (L.asla_header v) v)) ∙ kind-moved k 2 (at + 4 + L.asla_header v)
      (drop (L.asla_header v) v))

-- ---- elements that passed their checks

-- Of one advertisement that may be there: that its masks stand asks nothing more of it.
one-such : (st b c : Bool) (p q : Advertisement → Bool) (d : Advertisement) → (b && p d ≡ true → st ≡ true) → c ≡ q d
    → ((st && any p (cond b (d ∷ []) [])) && c) ≡ any (λ d. p d && q d) (cond b (d ∷ []) [])
one-such st b c p q d h i =
    ap₂ (λ (x y : Bool). x && y) (ap (λ (x : Bool). st && x) (any-one p b d) ∙ absorb st (b && p d) h) i ∙ group b (p d) (q d) ∙ sym
    (any-one (λ d. p d && q d) b d)
  where
    group : (x y z : Bool) → ((x && y) && z) ≡ (x && (y && z))
    group true y z = refl
    group false y z = refl

-- A kind that is asked for, as the code tells it and as the definitions do; q is what is asked of an advertisement.
module _ (test : Test) (k : Option ℕ) (at t : ℕ) (v : List ℕ) (q : Advertisement → Bool) where
  pub such-a : check_a at t v ≡ accepted → carries_a k v ≡ q (advertisement v (each I.attributes_of (list_elements at v)))
      → such_in A test k (element at t v) ≡ any (λ d. passing test d && q d) (asla_advertisements (element at t v))
  unfolding such_in asla_advertisements stands live_asla
  such-a ok i = one-such (stands v) (eqb t 16 && live_asla v) (carries_a k v) (passing test) q
      (advertisement v (each I.attributes_of (list_elements at v))) stand i
    where
      stand : (eqb t 16 && live_asla v) && passing test (advertisement v (each I.attributes_of (list_elements at v))) ≡ true → stands v ≡ true
      stand e =
          let f = and_l (eqb t 16 && live_asla v) (passing test (advertisement v (each I.attributes_of (list_elements at v)))) e in
          let i = eqb-true t 16 (and_l (eqb t 16) (live_asla v) f) in
          let m = not-or (mask_too_long v) (l_for_nobody v) (and_r (eqb t 16) (live_asla v) f) in
          le-leb (header_length v) (length v) ((headed at v (sub-tlv-asla at t v i ∙ ok)).1 m)

  pub such-b : check_b at t v ≡ accepted → carries_b k (after_neighbour v) ≡ q (srlg_advertisement at (after_neighbour v))
      → such_in B test k (element at t v) ≡ any (λ d. passing test d && q d) (srlg_advertisements (element at t v))
  unfolding such_in srlg_advertisements stands
  such-b ok i = one-such (stands w) (eqb t 238 && live_srlg at w) (carries_b k w) (passing test) q (srlg_advertisement at w) stand i
    where
      w : List ℕ
      w = after_neighbour v

      stand : (eqb t 238 && live_srlg at (after_neighbour v)) && passing test (srlg_advertisement at (after_neighbour v)) ≡ true
          → stands (after_neighbour v) ≡ true
      stand e =
          let f = and_l (eqb t 238 && live_srlg at (after_neighbour v)) (passing test (srlg_advertisement at (after_neighbour v))) e in
          let i = eqb-true t 238 (and_l (eqb t 238) (live_srlg at (after_neighbour v)) f) in
          let m = live-within at (after_neighbour v) (and_r (eqb t 238) (live_srlg at (after_neighbour v)) f) in
          le-leb (header_length (after_neighbour v)) (length (after_neighbour v)) (omega (arith, (whole at t v ok i).1.listed m))

  pub such-run : L.check_top at t v ≡ accepted → in_list 2 k (drop (L.asla_header v) v) ≡ q (L.advertisement at v)
      → such_in BgpLs test k (element at t v) ≡ any (λ d. passing test d && q d) (L.advertisements_of (element at t v))
  unfolding such_in L.advertisements_of
  such-run ok i =
      one-such (leb (L.asla_header v) (length v)) (eqb t 1122 && L.not_ignored v) (in_list 2 k (drop (L.asla_header v) v)) (passing test) q
      (L.advertisement at v) stand i
    where
      stand : (eqb t 1122 && L.not_ignored v) && passing test (L.advertisement at v) ≡ true → leb (L.asla_header v) (length v) ≡ true
      stand e =
          let f = and_l (eqb t 1122 && L.not_ignored v) (passing test (L.advertisement at v)) e in
          let i = eqb-true t 1122 (and_l (eqb t 1122) (L.not_ignored v) f) in
          le-leb (L.asla_header v) (length v) ((sound at t v ok i).masks (and_r (eqb t 1122) (L.not_ignored v) f))

-- ---- runs that passed

lookup-passed : (run : R.Run) (check : ℕ → ℕ → List ℕ → Verdict) (p q : Element → Bool) (f : Element → Holder)
    → ((at t : ℕ) (v : List ℕ) → check at t v ≡ accepted → p (element at t v) ≡ q (element at t v))
    → (es : List Element) → faults run check es ≡ accepted → lookup p f nowhere es ≡ lookup q f nowhere es
unfolding lookup faults
lookup-passed run check p q f h [] ok = refl
lookup-passed run check p q f h (cut at ∷ es) ok = absurd (not-accepted 3 run at ok)
lookup-passed run check p q f h (element at t v ∷ es) ok =
    rw (h at t v (then-first (check at t v) (faults run check es) ok), lookup-passed run check p q f h es (then-second (check at t v) (faults run check es) ok))

-- What is asked of the advertisements of a run, beside the test.
abbrev Asks : Run → Option ℕ → (Advertisement → Bool) → Type 0
Asks A k q = (at : ℕ) (v : List ℕ) → carries_a k v ≡ q (advertisement v (each I.attributes_of (list_elements at v)))
Asks B k q = (at : ℕ) (v : List ℕ) → carries_b k v ≡ q (srlg_advertisement at v)
Asks C k q = ⊥
Asks BgpLs k q = (at : ℕ) (v : List ℕ) → in_list 2 k (drop (L.asla_header v) v) ≡ q (L.advertisement at v)

found_in : (run : Run) (s : List ℕ) (c : ℕ) → Ready run s c → (test : Test) (k : Option ℕ) (q : Advertisement → Bool) → Asks run k q
    → first_such run test k s ≡ first (standing run s) (λ d. passing test d && q d)
unfolding first_such first_with width_of first standing stand_a stand_b stand_run L.run_verdict
found_in A s c ok test k q i =
    lookup-passed run_a check_a (such_in A test k) (λ e. any (λ d. passing test d && q d) (asla_advertisements e)) (λ e. held_at (place run_a (offset_of e)))
    (λ at t v h. such-a test k at t v q h (i at v)) (elements 1 0 s) ok.0
found_in B s c ok test k q i =
    lookup-passed run_b check_b (such_in B test k) (λ e. any (λ d. passing test d && q d) (srlg_advertisements e)) (λ e. held_at (place run_b (offset_of e)))
    (λ at t v h. such-b test k at t v q h (i at (after_neighbour v))) (elements 1 0 s) ok.0
found_in C s c ok test k q i = absurd ok
found_in BgpLs s c ok test k q i =
    lookup-passed run_bgp_ls L.check_top (such_in BgpLs test k) (λ e. any (λ d. passing test d && q d) (L.advertisements_of e))
    (λ e. held_at (place run_bgp_ls (offset_of e)))
    (λ at t v h. such-run test k at t v q h (i at v)) (elements 2 0 s)
    (then-second (refused_if (ltb 524288 (length s)) 1) (faults run_bgp_ls L.check_top (elements 2 0 s)) ok.0)

-- No kind is asked for.
pub first-in : (run : Run) (s : List ℕ) (c : ℕ) → Ready run s c → (test : Test) → first_such run test None s ≡ first (standing run s) (passing test)
unfolding carries_a carries_b in_list
first-in run s c ok test =
    found_in run s c ok test None (λ d. true) (asks run ok) ∙ first-same (standing run s) (λ d. passing test d && true) (passing test)
    (λ d. and-true (passing test d))
  where
    asks : (run : Run) → Ready run s c → Asks run None (λ d. true)
    asks A r = λ at v. refl
    asks B r = λ at v. refl
    asks C r = r
    asks BgpLs r = λ at v. refl

-- One is, by its type.
pub with_in : (run : Run) (s : List ℕ) (k : ℕ) → Ready run s k → (test : Test) (t : ℕ) → IsType run t k
    → first_such run test (Some t) s ≡ first (standing run s) (with_kind test k)
unfolding with_kind advertisement srlg_advertisement L.advertisement
with_in run s k ok test t is = found_in run s k ok test (Some t) (λ d. has k d.attributes) (asks run ok is)
  where
    asks : (run : Run) → Ready run s k → IsType run t k → Asks run (Some t) (λ d. has k d.attributes)
    asks A r i = λ at v. carries-a k t r.1 r.2 i at v
    asks B r i = λ at v. ap (λ (n : ℕ). carries_b (Some n) v) (i ∙ r.1) ∙ carries-b _ v ∙ ap (λ (n : ℕ). has n (srlg_advertisement at v).attributes) (sym r.1)
    asks C r i = r
    asks BgpLs r i = λ at v. ap (λ (n : ℕ). in_list 2 (Some n) (drop (L.asla_header v) v)) i ∙ carries-run k r.1 at v
