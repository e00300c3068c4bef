-- Side A of a link whose run A passed its checks: every attribute, legacy or in a live ASLA, stands in the run at its place, and one of a known kind has
-- a length that is right in BGP-LS. Assumes nothing.
use mathlib.Core.Path.{◌≡◌, refl, sym, ap, ◌∙◌, subst}
use mathlib.Core.Bool.{Bool, true, false, cond, ◌&&◌, ◌||◌}
use mathlib.Core.List.Memᴰ
use mathlib.Core.List.{List, [], ◌∷◌, Memᴰ}
use Prim.Native.Nat.{ℕ, ◌+◌}
use native.Mathlib.Omega.{arith}
use borrow.Author.Tests.{eqb-true, not-true, ltb-false}
use lib.Dec.{ltb, eqb}
use lib.ListN.{length, drop}
use lib.Seq.{take-length}
use Rattle.linkstate.specs.Lists.{each, lookup, member}
use Rattle.linkstate.specs.Bytes.{bytes_at}
use Rattle.linkstate.specs.Kinds.{codes}
use Rattle.linkstate.specs.Replies.{accepted, run_a}
use Rattle.linkstate.specs.Elements.{Element, element, cut, elements, faults, faults_once}
use Rattle.linkstate.specs.Attributes.{Attribute, attribute}
use Rattle.linkstate.specs.Sides.{Advertisement, of_live}
use Rattle.isis.specs.Types.{type_in_a, types, has_type, code_of_type, wrong_in_a}
use Rattle.isis.specs.MaskHeader.{l_flag, header_length, mask_too_long, l_for_nobody, advertisement}
use Rattle.isis.specs.RunA.{list_elements, check_attribute, known_type, check_asla, check_a, attributes_of, live_asla, asla_advertisements, side_a}
use Rattle.isis.proofs.TypeLaws.{metric-type}
use Rattle.linkstate.proofs.ElementLaws.{at-place, rest-place}
use Rattle.linkstate.proofs.ListLaws.{or_l, or_r, keep-mem, each-mem}
use Rattle.linkstate.proofs.WalkLaws.{once-faults}
use Rattle.rivals.proofs.RunLaws.{faults-mem}
use Rattle.demands.specs.Demands.{in_a}
use Rattle.demands.proofs.Passed.{unfaulted}
use Rattle.demands.proofs.Lengths.{RightLength, length_in_bgp_ls, type-right, zero-is-no-code}
use Rattle.demands.proofs.SetValues.{Sound}

-- An attribute of a run A: its value stands there as it was sent, and has a right length if its kind is known.
pub record Stands (a : List ℕ) (t : Attribute) : Type 0 where
  pub bytes : bytes_at a t.at t.len ≡ in_a t.code t.value
  pub len : t.len ≡ length (in_a t.code t.value)
  pub right : member t.code codes ≡ true → RightLength t.code (length t.value)

abbrev pub AllStand : List ℕ → List Attribute → Type 0
AllStand a ts = (t : Attribute) → Memᴰ t ts → Stands a t

-- ---- attributes of elements

length_front : (b : Bool) (v : List ℕ) → length (cond b (0 ∷ v) v) ≡ length_in_bgp_ls b (length v)
unfolding length_in_bgp_ls
length_front true v = refl
length_front false v = refl

-- What was sent of a value, by its type: a zero in front of a TE metric alone.
sent_back : (b : Bool) (v : List ℕ) → cond b (drop 1 (cond b (0 ∷ v) v)) (cond b (0 ∷ v) v) ≡ v
sent_back true v = refl
sent_back false v = refl

-- Elements that stand in the run, and whose lengths are right there.
module _ (a : List ℕ) (base : ℕ) (s : List ℕ) (here : bytes_at a base (length s) ≡ s) where
  elements-stand : ((at t : ℕ) (v : List ℕ) → Memᴰ (element at t v) (elements 1 base s) → member (code_of_type t) codes ≡ true → wrong_in_a t (length v) ≡ false)
      → AllStand a (each attributes_of (elements 1 base s))
  unfolding attributes_of attribute
  elements-stand h t i = let q = each-mem attributes_of (elements 1 base s) i in go q.0 q.1 q.2
    where
      one : (at y : ℕ) (v : List ℕ) → Memᴰ (element at y v) (elements 1 base s)
          → Stands a (record { code = code_of_type y; at = at + 2; len = length v; value = cond (eqb y 18) (0 ∷ v) v })
      one at y v j =
          let back : in_a (code_of_type y) (cond (eqb y 18) (0 ∷ v) v) ≡ v = rw (← metric-type y) (sent_back (eqb y 18) v) in
          record {
            bytes = at-place 1 (omega arith) a base s here at y v j ∙ sym back;
            len = ap length (sym back);
            right = λ m. rw (length_front (eqb y 18) v) (type-right y (length v) (h at y v j m) m);
          }

      go : (e : Element) → Memᴰ e (elements 1 base s) → Memᴰ t (attributes_of e) → Stands a t
      go (cut at) j k = absurd (Memᴰ.not-nil k)
      go (element at y v) j k = rw (Memᴰ.eq_of_singleton k) (one at y v j)

attribute-right : (at t : ℕ) (v : List ℕ) → check_attribute at t v ≡ accepted → wrong_in_a t (length v) ≡ false
unfolding check_attribute
attribute-right at t v h = (unfaulted (wrong_in_a t (length v)) 4 run_a at accepted h).0

asla-is-no-kind : member (code_of_type 16) codes ≡ true → ⊥
unfolding code_of_type lookup types type_in_a has_type
asla-is-no-kind h = zero-is-no-code h

-- The list of a live ASLA, where it is read.
list-stands : (a : List ℕ) (at : ℕ) (v : List ℕ) → bytes_at a (at + 2) (length v) ≡ v → check_asla at v ≡ accepted → live_asla v ≡ true
    → AllStand a (advertisement v (each attributes_of (list_elements at v))).attributes
unfolding check_asla live_asla advertisement list_elements
list-stands a at v here h l =
    let ignored = not-true (mask_too_long v || l_for_nobody v) l in
    let masks = rw (or_l (mask_too_long v) (l_for_nobody v) ignored) at (unfaulted (ltb (length v) 2) 3 run_a at _ h).1 in
    let within = unfaulted (ltb (length v) (header_length v)) 3 run_a at _ masks in
    let list = rw (or_r (mask_too_long v) (l_for_nobody v) ignored) at within.1 in
    go (rest-place a (at + 2) (header_length v) v here (ltb-false (length v) (header_length v) within.0)) (l_flag v) list
  where
    go : bytes_at a (at + 2 + header_length v) (length (drop (header_length v) v)) ≡ drop (header_length v) v
        → (b : Bool) → cond b accepted (faults_once run_a known_type check_attribute [] (list_elements at v)) ≡ accepted → AllStand a (cond b [] (each attributes_of (list_elements at v)))
    go e true k = λ t i. absurd (Memᴰ.not-nil i)
    go e false k =
        let passed = once-faults run_a known_type check_attribute [] (list_elements at v) k in
        elements-stand a (at + 2 + header_length v) (drop (header_length v) v) e (λ o t w i m. attribute-right o t w (faults-mem run_a check_attribute (list_elements at v) passed i))

-- ---- the side

module _ (a : List ℕ) (passed : faults run_a check_a (elements 1 0 a) ≡ accepted) where
  whole : bytes_at a 0 (length a) ≡ a
  unfolding bytes_at
  whole = take-length a

  pub legacy-stands : AllStand a (side_a a).legacy
  unfolding side_a check_a
  legacy-stands = elements-stand a 0 a whole (λ at t v i m. go at t v m (eqb t 16) refl (faults-mem run_a check_a (elements 1 0 a) passed i))
    where
      go : (at t : ℕ) (v : List ℕ) → member (code_of_type t) codes ≡ true → (b : Bool) → eqb t 16 ≡ b → cond b (check_asla at v) (check_attribute at t v) ≡ accepted
          → wrong_in_a t (length v) ≡ false
      go at t v m true e k = absurd (asla-is-no-kind (subst (λ (x : ℕ). member (code_of_type x) codes ≡ true) (eqb-true t 16 e) m))
      go at t v m false e k = attribute-right at t v k

  live-stands : (d : Advertisement) → Memᴰ d (side_a a).live → AllStand a d.attributes
  unfolding side_a check_a asla_advertisements
  live-stands d i = let q = each-mem asla_advertisements (elements 1 0 a) i in go q.0 q.1 q.2
    where
      go : (e : Element) → Memᴰ e (elements 1 0 a) → Memᴰ d (asla_advertisements e) → AllStand a d.attributes
      go (cut at) j k = absurd (Memᴰ.not-nil k)
      go (element at t v) j k = live (eqb t 16) (live_asla v) refl k (faults-mem run_a check_a (elements 1 0 a) passed j)
        where
          live : (b c : Bool) → live_asla v ≡ c → Memᴰ d (cond (b && c) (advertisement v (each attributes_of (list_elements at v)) ∷ []) [])
              → cond b (check_asla at v) (check_attribute at t v) ≡ accepted → AllStand a d.attributes
          live true true e m h = rw (Memᴰ.eq_of_singleton m) (list-stands a at v (at-place 1 (omega arith) a 0 a whole at t v j) h e)
          live true false e m h = absurd (Memᴰ.not-nil m)
          live false c e m h = absurd (Memᴰ.not-nil m)

  pub chosen-stands : (p : Advertisement → Bool) → AllStand a (of_live p (side_a a))
  unfolding of_live
  chosen-stands p t i =
      let q = each-mem (λ d. d.attributes) _ i in
      live-stands q.0 (keep-mem p (side_a a).live q.1).1 t q.2

  pub legacy-sound : Sound (side_a a).legacy
  legacy-sound t i = (legacy-stands t i).right

  pub chosen-sound : (p : Advertisement → Bool) → Sound (of_live p (side_a a))
  chosen-sound p t i = (chosen-stands p t i).right
