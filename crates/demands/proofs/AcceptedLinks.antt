-- Every accepted IS-IS link has a well-formed meaning, so what holds of well-formed meanings holds of it. Each value is resolved on one side:
-- A's lengths were checked, B and C are short, and the sides' rules only choose among what stands there. Assumes nothing.
use mathlib.Core.Path.{◌≡◌, refl, sym, ◌∙◌}
use mathlib.Core.Bool.{Bool, true, false, cond, ◌||◌, false≢true}
use mathlib.Core.List.{List, Memᴰ}
use Prim.Native.Nat.{ℕ, ◌≤◌}
use native.Mathlib.Omega.{arith}
use borrow.Author.Tests.{ltb-false, eqb-true}
use lib.Dec.{ltb, eqb}
use lib.ListN.{length}
use Rattle.linkstate.specs.Lists.{keep, any, member}
use Rattle.linkstate.specs.Limits.{most_in_ab, most_in_c}
use Rattle.linkstate.specs.Kinds.{kind, kinds, for_applications, is_applications, has_code, codes, application_codes, is_link_code}
use Rattle.linkstate.specs.Masks.{others}
use Rattle.linkstate.specs.Replies.{accepted, run_a}
use Rattle.linkstate.specs.Elements.{elements, faults}
use Rattle.linkstate.specs.Attributes.{value_of}
use Rattle.linkstate.specs.Sides.{Advertisement, Side, named, of_live, general_set, application_set, rsvp_te_kind, bandwidth_kind}
use Rattle.linkstate.specs.Meaning.{Meaning, meaning, Accepted}
use Rattle.linkstate.specs.Export.{top_value}
use Rattle.linkstate.specs.WellFormed.{WellFormed}
use Rattle.isis.specs.RunA.{check_a, side_a}
use Rattle.isis.specs.RunB.{side_b}
use Rattle.isis.specs.Link.{link_verdict, side_of, link_source}
use Rattle.linkstate.proofs.ListLaws.{and_l, or_l, or_r, mem-member}
use Rattle.linkstate.proofs.WalkLaws.{then-first, then-second, unrefused}
use Rattle.rivals.proofs.Sums.{sum_of}
use Rattle.rivals.proofs.KindLaws.{application-code}
use Rattle.demands.proofs.Lengths.{limit}
use Rattle.demands.proofs.SetValues.{Right, Sound, sound-append, first-right, srlgs-right, srlgs-canonical, values_of}
use Rattle.demands.proofs.Sides.{general-has, application-has, rsvp_te-has, bandwidth-has}
use Rattle.demands.proofs.SideA.{legacy-sound, chosen-sound}
use Rattle.demands.proofs.SideB.{legacy-within, chosen-within}

-- ---- the kinds

application-code-known : {k : ℕ} → Memᴰ k application_codes → member k codes ≡ true
application-code-known i = mem-member codes (application-code i).1

srlg-is-no-link-code : is_link_code 1096 ≡ false
unfolding is_link_code any kinds kind has_code is_applications for_applications
srlg-is-no-link-code = refl

-- The TLVs of all kinds have at most 2,436 bytes, those of an application's set at most 2,384.
pub all-limits : sum_of limit codes ≡ 2436
unfolding sum_of limit codes kinds kind
all-limits = refl

pub application-limits : sum_of limit application_codes ≡ 2384
unfolding sum_of limit application_codes keep kinds kind is_applications for_applications
application-limits = refl

-- ---- values of right lengths

-- Every value of a meaning is absent or of a right length.
pub record Limited (m : Meaning) : Type 0 where
  pub top : (k : ℕ) → Memᴰ k codes → Right k (top_value m k)
  pub general : (k : ℕ) → Memᴰ k application_codes → Right k (m.general k)
  pub set : (a k : ℕ) → Memᴰ k application_codes → Right k (m.set a k)

-- A side gives values of right lengths for a kind, whichever advertisements are chosen.
record Gives (k : ℕ) (s : Side) : Type 0 where
  legacy : Right k (value_of k s.legacy)
  live : (p : Advertisement → Bool) → Right k (value_of k (of_live p s))

module _ (a b c : List ℕ) (passed : faults run_a check_a (elements 1 0 a) ≡ accepted) (short_b : length b ≤ most_in_ab) (short_c : length c ≤ most_in_c) where
  side-gives : (k : ℕ) → member k codes ≡ true → Gives k (side_of a b c k)
  unfolding side_of
  side-gives k m = go (eqb k 1096) refl
    where
      go : (t : Bool) → eqb k 1096 ≡ t → Gives k (cond t (side_b b c) (side_a a))
      go true e =
          rw (eqb-true k 1096 e)
          (record {
            legacy = srlgs-right (side_b b c).legacy (omega (arith, legacy-within b c));
            live = λ p. srlgs-right (of_live p (side_b b c)) (omega (arith, chosen-within b c p));
          })
      go false e =
          record {
            legacy = first-right k (side_a a).legacy e m (legacy-sound a passed);
            live = λ p. first-right k (of_live p (side_a a)) e m (chosen-sound a passed p);
          }

  bandwidth-right : (k : ℕ) → member k codes ≡ true → is_link_code k ≡ true → Right k (value_of k (bandwidth_kind k (side_a a)))
  bandwidth-right k m l = first-right k (bandwidth_kind k (side_a a)) (go (eqb k 1096) refl) m (bandwidth-has Sound (side_a a) (legacy-sound a passed) (chosen-sound a passed) sound-append k)
    where
      go : (t : Bool) → eqb k 1096 ≡ t → t ≡ false
      go true e = absurd (false≢true (sym srlg-is-no-link-code ∙ rw (eqb-true k 1096 e) at l))
      go false e = refl

  limited : Limited (meaning (link_source a b c))
  unfolding meaning link_source top_value
  limited =
      record {
        top = λ k i. top k (mem-member codes i) (is_link_code k) refl;
        general = λ k i. let g = side-gives k (application-code-known i) in general-has (λ ts. Right k (value_of k ts)) (side_of a b c k) g.legacy g.live;
        set = λ n k i. let g = side-gives k (application-code-known i) in application-has (λ ts. Right k (value_of k ts)) (side_of a b c k) g.legacy g.live n;
      }
    where
      top : (k : ℕ) → member k codes ≡ true → (t : Bool) → is_link_code k ≡ t
          → Right k (cond t (value_of k (bandwidth_kind k (side_a a))) (value_of k (rsvp_te_kind k (side_of a b c k))))
      top k m true e = bandwidth-right k m e
      top k m false e = let g = side-gives k m in rsvp_te-has (λ ts. Right k (value_of k ts)) (side_of a b c k) g.legacy g.live k

pub accepted-is-limited : (a b c : List ℕ) → Accepted (link_source a b c) → Limited (meaning (link_source a b c))
unfolding link_source link_verdict
accepted-is-limited a b c h =
    let long = unrefused (ltb most_in_ab (length a) || ltb most_in_ab (length b) || ltb most_in_c (length c)) 1 (then-first _ _ h) in
    let long_b = or_r (ltb most_in_ab (length a)) (ltb most_in_ab (length b)) (or_l (ltb most_in_ab (length a) || ltb most_in_ab (length b)) (ltb most_in_c (length c)) long) in
    let long_c = or_r (ltb most_in_ab (length a) || ltb most_in_ab (length b)) (ltb most_in_c (length c)) long in
    limited a b c (then-first _ _ (then-second _ _ (then-second _ _ h))) (ltb-false most_in_ab (length b) long_b) (ltb-false most_in_c (length c) long_c)

-- ---- the theorem

pub accepted-is-well-formed : (a b c : List ℕ) → Accepted (link_source a b c) → WellFormed (meaning (link_source a b c))
unfolding meaning link_source top_value
accepted-is-well-formed a b c h =
    let r = accepted-is-limited a b c h in
    record {
      named_only = λ n e. and_l (member n others) (named n (side_a a) || named n (side_b b c)) e;
      top = values_of codes (top_value (meaning (link_source a b c))) (omega (arith, all-limits)) (rw srlg-is-no-link-code (srlgs-canonical (rsvp_te_kind 1096 (side_of a b c 1096)))) r.top;
      general = values_of application_codes _ (omega (arith, application-limits)) (srlgs-canonical (general_set (side_of a b c 1096))) r.general;
      set = λ n e. values_of application_codes _ (omega (arith, application-limits)) (srlgs-canonical (application_set n (side_of a b c 1096))) (r.set n);
    }
