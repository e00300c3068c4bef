-- E9 is about something, and about no more than it says: pairs of links that it covers, in which one application's answer changes; and a pair that it does not
-- cover, for a bandwidth of the link changes in the ASLA, and with it everybody's answer. The definitions are computed on their bytes. Assumes nothing.
use mathlib.Core.Path.{◌≡◌, refl, ap, sym, ◌∙◌, subst}
use mathlib.Core.Logic.{◌⊎◌, inl, inr}
use mathlib.Core.Bool.{Bool, true, false, cond, ◌&&◌, ◌||◌, not, false≢true}
use mathlib.Core.List.{List, [], ◌∷◌, ◌++◌, map, Memᴰ}
use Prim.Native.Nat.{ℕ, ◌+◌, ◌-◌, ◌<◌}
use native.Mathlib.Omega.{arith}
use borrow.Author.Tests.{eqb-true, ltb-true}
use lib.Dec.{eqb, ltb}
use lib.Ieee.{of_bits, binary32}
use lib.ListN.{get_or, replicate}
use Rattle.linkstate.specs.Lists.{all, numbers, member}
use Rattle.linkstate.specs.Kinds.{application_codes}
use Rattle.linkstate.specs.Masks.{bit, in_masks}
use Rattle.linkstate.specs.Replies.{Reply, found, bandwidth}
use Rattle.linkstate.specs.Elements.{Element, element, cut, elements}
use Rattle.linkstate.specs.Sides.{Advertisement, names}
use Rattle.linkstate.specs.Questions.{generally, standard_no, user_no, ask}
use Rattle.linkstate.specs.Meaning.{Accepted}
use Rattle.linkstate.proofs.ListLaws.{and_l, all-mem, mem-numbers}
use Rattle.isis.specs.Types.{code_of_type}
use Rattle.isis.specs.RunA.{list_elements}
use Rattle.isis.specs.Link.{link_source}
use Rattle.isis.specs.Starred.{M, S, G, Served}
use Rattle.isis.proofs.Computing.{computing}
use Rattle.demands.specs.Isolation.{Pairwise, none, more, SameButValue, same, other_value, NamesAlone, ChangedFor, unchanged, changed}

-- ---- who is named alone

-- That nobody else is named is a computed test over the applications.
module _ (b : ℕ) (d : Advertisement) where
  named-low : (a : ℕ) → names a d ≡ true → a < 96
  unfolding names in_masks
  named-low a h = go (ltb a 64) refl h
    where
      go : (z : Bool) → ltb a 64 ≡ z → cond z (bit d.standard_mask a) (ltb a 96 && bit d.user_mask (a - 64)) ≡ true → a < 96
      go true e i = omega (arith, ltb-true a 64 e)
      go false e i = ltb-true a 96 (and_l (ltb a 96) (bit d.user_mask (a - 64)) i)

  names-alone : names b d ≡ true → all (λ a. not (names a d) || eqb a b) (numbers 0 96) ≡ true → NamesAlone b d
  names-alone n h = record { named = n; alone = λ a i. eqb-true a b (test a i) }
    where
      test : (a : ℕ) → names a d ≡ true → eqb a b ≡ true
      test a i =
          let z : 0 + a ≡ a = omega arith in
          let m = subst (λ (x : ℕ). Memᴰ x (numbers 0 96)) z (mem-numbers 96 0 a (named-low a i)) in
          rw i at (all-mem (λ a. not (names a d) || eqb a b) (numbers 0 96) h m)

-- ---- pairs that are covered

-- Two runs A that differ as E9 says for b, both accepted with B and C empty; the metrics of RSVP-TE, SR Policy, LFA, standard 6, user 0 and user 5, and the
-- length of the export, of both.
pub record Covered (b : ℕ) (a e ms ns : List ℕ) (m n : ℕ) : Type 0 where
  pub changed : Pairwise (ChangedFor b) (elements 1 0 a) (elements 1 0 e)
  pub before : Accepted (link_source a [] [])
  pub after : Accepted (link_source e [] [])
  pub served : Served a ms m
  pub serves : Served e ns n

-- An ASLA of eight bytes: a standard mask of one byte, and a metric.
unfoldable pub for_one : ℕ → ℕ → List ℕ
for_one mask metric = 0x10 ∷ 0x08 ∷ 0x01 ∷ 0x00 ∷ mask ∷ 0x12 ∷ 0x03 ∷ 0x00 ∷ 0x00 ∷ metric ∷ []

-- M S G with 0x63 for 0x14 in S: SR Policy's alone.
pub of-sr-policy : Covered 1 (M ++ S ++ G) (M ++ for_one 0x40 0x63 ++ G) (10 ∷ 20 ∷ 30 ∷ 30 ∷ 30 ∷ 30 ∷ []) (10 ∷ 99 ∷ 30 ∷ 30 ∷ 30 ∷ 30 ∷ []) 44 44
unfolding computing for_one
of-sr-policy =
    record {
      changed =
          more (unchanged _)
          (more (changed _ _ _ refl (names-alone 1 _ refl refl) refl refl (more (other_value _ _ _ _ refl refl) none)) (more (unchanged _) none));
      before = refl;
      after = refl;
      served = record { metrics = refl; export = refl };
      serves = record { metrics = refl; export = refl };
    }

-- RSVP-TE's alone, though a general ASLA stands behind it.
pub of-rsvp-te : Covered 0 (for_one 0x80 0x14 ++ G ++ S) (for_one 0x80 0x63 ++ G ++ S) (20 ∷ 20 ∷ 30 ∷ 30 ∷ 30 ∷ 30 ∷ []) (99 ∷ 20 ∷ 30 ∷ 30 ∷ 30 ∷ 30 ∷ []) 44 44
unfolding computing for_one
of-rsvp-te =
    record {
      changed =
          more (changed _ _ _ refl (names-alone 0 _ refl refl) refl refl (more (other_value _ _ _ _ refl refl) none))
          (more (unchanged _) (more (unchanged _) none));
      before = refl;
      after = refl;
      served = record { metrics = refl; export = refl };
      serves = record { metrics = refl; export = refl };
    }

-- SR Policy and LFA with equal metrics share an ASLA TLV until SR Policy's changes: LFA's answer stays though the export grows.
pub of-a-group : Covered 1 (for_one 0x40 0x14 ++ for_one 0x20 0x14) (for_one 0x40 0x63 ++ for_one 0x20 0x14) (0 ∷ 20 ∷ 20 ∷ 0 ∷ 0 ∷ 0 ∷ []) (0 ∷ 99 ∷ 20 ∷ 0 ∷ 0 ∷ 0 ∷ []) 20 40
unfolding computing for_one
of-a-group =
    record {
      changed = more (changed _ _ _ refl (names-alone 1 _ refl refl) refl refl (more (other_value _ _ _ _ refl refl) none)) (more (unchanged _) none);
      before = refl;
      after = refl;
      served = record { metrics = refl; export = refl };
      serves = record { metrics = refl; export = refl };
    }

-- ---- a pair that is not covered

place_of : Element → ℕ
place_of (element at t v) = at
place_of (cut at) = at

type_of : Element → ℕ
type_of (element at t v) = t
type_of (cut at) = 0

value_of : Element → List ℕ
value_of (element at t v) = v
value_of (cut at) = []

-- Elements whose values differ, and what E9 asks of them then.
differing : (b : ℕ) (x y : Element) → ChangedFor b x y → (value_of x ≡ value_of y) ⊎ Pairwise SameButValue (list_elements (place_of x) (value_of x)) (list_elements (place_of y) (value_of y))
unfolding place_of value_of
differing b x y (unchanged e) = inl refl
differing b x y (changed at v w live alone len header list) = inr list

differing-in-list : (x y : Element) → SameButValue x y → (value_of x ≡ value_of y) ⊎ (member (code_of_type (type_of x)) application_codes ≡ true)
unfolding type_of value_of
differing-in-list x y (same e) = inl refl
differing-in-list x y (other_value at t v w known len) = inr known

-- An ASLA for SR Policy alone with a maximum bandwidth: a kind of the link's.
unfoldable pub with_bandwidth : ℕ → List ℕ
with_bandwidth n = 0x10 ∷ 0x09 ∷ 0x01 ∷ 0x00 ∷ 0x40 ∷ 0x09 ∷ 0x04 ∷ 0x4C ∷ 0x00 ∷ 0x00 ∷ n ∷ []

-- Its value, and its list.
unfoldable asla : ℕ → List ℕ
asla n = 0x01 ∷ 0x00 ∷ 0x40 ∷ 0x09 ∷ 0x04 ∷ 0x4C ∷ 0x00 ∷ 0x00 ∷ n ∷ []

unfoldable attribute : ℕ → Element
attribute n = element 5 9 (0x4C ∷ 0x00 ∷ 0x00 ∷ n ∷ [])

elements-of : (n : ℕ) → elements 1 0 (with_bandwidth n) ≡ element 0 16 (asla n) ∷ []
unfolding computing with_bandwidth asla
elements-of n = refl

list_of : (n : ℕ) → list_elements 0 (asla n) ≡ attribute n ∷ []
unfolding computing asla attribute
list_of n = refl

no-application-kind : member (code_of_type 9) application_codes ≡ false
unfolding computing
no-application-kind = refl

last_byte : (n : ℕ) → get_or (asla n) 8 0 ≡ n
unfolding asla
last_byte n = refl

last-byte-of : (n : ℕ) → get_or (value_of (attribute n)) 3 0 ≡ n
unfolding attribute value_of
last-byte-of n = refl

front : {A : Type 0} (R : A → A → Type 0) {x y : A} {xs ys : List A} → Pairwise R (x ∷ xs) (y ∷ ys) → R x y
front R (more h r) = h

pub bandwidth-not-covered : (b : ℕ) → Pairwise (ChangedFor b) (elements 1 0 (with_bandwidth 1)) (elements 1 0 (with_bandwidth 2)) → ⊥
unfolding place_of value_of type_of attribute
bandwidth-not-covered b p = outer (differing b _ _ (front (ChangedFor b) (rw (elements-of 1, elements-of 2) at p)))
  where
    inner : (value_of (attribute 1) ≡ value_of (attribute 2)) ⊎ (member (code_of_type 9) application_codes ≡ true) → ⊥
    inner (inl e) = let z : ◌≡◌ {A = ℕ} 1 2 = sym (last-byte-of 1) ∙ ap (λ (v : List ℕ). get_or v 3 0) e ∙ last-byte-of 2 in omega arith
    inner (inr k) = false≢true (sym no-application-kind ∙ k)

    outer : (asla 1 ≡ asla 2) ⊎ Pairwise SameButValue (list_elements 0 (asla 1)) (list_elements 0 (asla 2)) → ⊥
    outer (inl e) = let z : ◌≡◌ {A = ℕ} 1 2 = sym (last_byte 1) ∙ ap (λ (v : List ℕ). get_or v 8 0) e ∙ last_byte 2 in omega arith
    outer (inr l) = inner (differing-in-list (attribute 1) (attribute 2) (front SameButValue (rw (list_of 1, list_of 2) at l)))

-- Everybody's maximum bandwidth is the one that stands there.
pub bandwidths : ℕ → List Reply
bandwidths n = map (λ whom. (ask (link_source (with_bandwidth n) [] []) whom 1089 []).reply) (generally ∷ standard_no 0 ∷ standard_no 1 ∷ standard_no 2 ∷ user_no 5 ∷ [])

pub everybodys : (bandwidths 1 ≡ replicate 5 (found (bandwidth (of_bits binary32 0x4C000001)))) × (bandwidths 2 ≡ replicate 5 (found (bandwidth (of_bits binary32 0x4C000002))))
unfolding computing with_bandwidth bandwidths
everybodys = (refl, refl)
