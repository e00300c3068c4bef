-- The SRLG numbers at the front of a list: what a call has written there is what a rule takes.
use mathlib.Core.Path.{◌≡◌, refl, sym, ap, ◌∙◌, subst}
use mathlib.Core.Bool.{Bool, true, false, cond, ◌&&◌}
use mathlib.Core.List.{List, [], ◌∷◌}
use Prim.Native.Nat.{ℕ, ◌+◌, ◌/◌, ◌≤◌, ◌<◌}
use native.Mathlib.Omega.{arith}
use borrow.Author.Tests.{eqb-true}
use lib.Dec.{eqb}
use lib.ListN.{length}
use Rattle.linkstate.specs.Lists.{each, empty, put}
use Rattle.linkstate.specs.Bytes.{words, distinct, bytes_of_words}
use Rattle.linkstate.specs.Attributes.{Attribute, of_kind, srlgs, value_of}
use Rattle.linkstate.specs.Sides.{Side, names, named, named_with_l, of_live, application_set, has_legacy, rsvp_te_kind}
use Rattle.linkstate.specs.Masks.{user}
use Rattle.linkstate.specs.Kinds.{is_link_code}
use Rattle.linkstate.specs.Questions.{Subject, generally, standard_no, user_no}
use Rattle.linkstate.proofs.ListLaws.{and_l, and_r}
use Rattle.isis.proofs.Computing.{computing}
use Rattle.octets.proofs.Laws.{put-nil}
use Rattle.srlg.proofs.Laws.{length-words}
use Rattle.isis.specs.RunB.{side_b}
use Rattle.rules.specs.declared.Rule.{Rule}
use Rattle.rules.specs.declared.Rule.TheVariants.{NamingFirst}
use Rattle.rules.specs.Rules.{application_rule, rsvp_te_rule, bandwidth_rule, subject_rule, rule_on, taken_by, set_on, given_on}
use Rattle.isis_check.proofs.Legacy.{some-numbers}
use Rattle.isis_tlvs_238.specs.declared.Which.TheVariants as W
use Rattle.isis_tlvs_238.specs.Selected.{selects, srlg_words}
use Rattle.isis_tlvs_238.proofs.Tlvs.{words-one}
use Rattle.isis_tlvs_238.specs.Runs.{Fronts, OnSideB}

-- ---- what a call has written

module _ (before after : List ℕ) (r : ℕ) (ws : List ℕ) (e : (r ≡ 0 + length ws) × (after ≡ put before 0 ws)) where
  fronts : (n : ℕ) → r ≤ 0 + n / 4 → n ≤ 2048 → n / 4 ≤ length before → Fronts before after r ws
  fronts n h l m = record { count = omega (arith, e.0); list = e.1; few = omega arith; room = omega arith }

-- of a set that is the one asked for
module _ (before after : List ℕ) (r : ℕ) (ts us : List Attribute) (same : us ≡ ts) where
  pub collected : (n : ℕ) → (r ≡ 0 + length (srlg_words ts)) × (after ≡ put before 0 (srlg_words ts)) → r ≤ 0 + n / 4 → n ≤ 2048 → n / 4 ≤ length before → Fronts before after r (srlg_words us)
  collected n e h l m = rw same (fronts before after r (srlg_words ts) e n h l m)

pub legacy-words : (b c : List ℕ) → srlg_words (side_b b c).legacy ≡ words c
unfolding side_b
legacy-words b c = words-one 0 c

module _ (b c before after : List ℕ) (r : ℕ) (us : List Attribute) (same : us ≡ (side_b b c).legacy) where
  pub from-legacy : (r ≡ 0 + length (words c)) × (after ≡ put before 0 (words c)) → length c ≤ 1024 → length c / 4 ≤ length before → Fronts before after r (srlg_words us)
  from-legacy e l m =
      subst (λ (ws : List ℕ). Fronts before after r ws) (sym (ap srlg_words same ∙ legacy-words b c))
      (fronts before after r (words c) e (length c) (omega (arith, length-words c, e.0)) (omega arith) m)

-- ---- those that name RSVP-TE, else legacy

no_words : (l : List ℕ) → length l ≤ 0 → l ≡ []
no_words [] h = refl
no_words (x ∷ l) h = absurd (omega arith)

-- whether attributes carry an SRLG at all
module _ (ts : List Attribute) where
  carries : 0 < length (srlg_words ts) → empty (value_of 1096 ts) ≡ false
  unfolding value_of srlgs srlg_words
  carries h = some-numbers (each (λ t. words t.value) (of_kind 1096 ts)) h

  carries-none : srlg_words ts ≡ [] → empty (value_of 1096 ts) ≡ true
  unfolding value_of srlgs srlg_words distinct bytes_of_words each empty
  carries-none e = rw e

module _ (s : Side) (k : ℕ) (is : k ≡ 0 + length (srlg_words (of_live (selects (W.Naming 0)) s))) where
  pub naming-carries : 0 < k → taken_by NamingFirst 1096 s ≡ of_live (selects (W.Naming 0)) s
  unfolding taken_by selects
  naming-carries h = rw (carries (of_live (names 0) s) (omega (arith, is)))

  pub naming-none : k ≤ 0 → taken_by NamingFirst 1096 s ≡ s.legacy
  unfolding taken_by selects
  naming-none h = rw (carries-none (of_live (names 0) s) (no_words (srlg_words (of_live (names 0) s)) (omega (arith, is))))

-- Nothing was written, then something.
pub nothing_then : (d e f ws vs : List ℕ) (k : ℕ) → k ≤ 0 → k ≡ 0 + length ws → e ≡ put d 0 ws → f ≡ put e 0 vs → f ≡ put d 0 vs
nothing_then d e f ws vs k z n p q = q ∙ ap (λ (l : List ℕ). put l 0 vs) (p ∙ ap (put d 0) (no_words ws (omega arith)) ∙ sym (put-nil d 0))

-- ---- rule by rule

pub by-rule : (s : Side) (rule r : Rule) (ts : List Attribute) → rule ≡ r → taken_by r 1096 s ≡ ts → taken_by rule 1096 s ≡ ts
by-rule s rule r ts g e = ap (λ (x : Rule). taken_by x 1096 s) g ∙ e

pub fronts-by : (s : Side) (before after : List ℕ) (k : ℕ) (rule r : Rule) → rule ≡ r → Fronts before after k (srlg_words (taken_by r 1096 s)) → Fronts before after k (srlg_words (taken_by rule 1096 s))
fronts-by s before after k rule r g h = subst (λ (x : Rule). Fronts before after k (srlg_words (taken_by x 1096 s))) (sym g) h

pub no-bandwidth : {A : Type 0} (rule r : Rule) → rule ≡ r → (OnSideB r → ⊥) → OnSideB rule → A
no-bandwidth rule r e f h = absurd (f (subst OnSideB e h))

-- the rule of a subject is none of a bandwidth's
of-application : (n : ℕ) (l y : Bool) → OnSideB (application_rule n l y)
unfolding application_rule
of-application n true y = tt
of-application n false true = tt
of-application n false false = tt

of-rsvp-te : (l y x : Bool) → OnSideB (rsvp_te_rule l y x)
unfolding rsvp_te_rule
of-rsvp-te true y x = tt
of-rsvp-te false true x = tt
of-rsvp-te false false true = tt
of-rsvp-te false false false = tt

of-subject : (whom : Subject) (s : Side) → OnSideB (subject_rule whom s)
unfolding subject_rule
of-subject generally s = tt
of-subject (standard_no n) s = go (eqb n 0)
  where
    go : (b : Bool) → OnSideB (cond b (rsvp_te_rule (named_with_l 0 s) (named 0 s) (has_legacy s)) (application_rule n (named_with_l n s) (named n s)))
    go true = of-rsvp-te (named_with_l 0 s) (named 0 s) (has_legacy s)
    go false = of-application n (named_with_l n s) (named n s)
of-subject (user_no n) s = of-application (user n) (named_with_l (user n) s) (named (user n) s)

srlg-apart : is_link_code 1096 ≡ false
unfolding computing
srlg-apart = refl

pub on-side-b : (whom : Subject) (s : Side) (r : Rule) → r ≡ rule_on whom 1096 s → OnSideB r
unfolding rule_on
on-side-b whom s r e = subst OnSideB (sym (e ∙ ap (λ (b : Bool). cond b (bandwidth_rule 1096 (named_with_l 0 s) (named 0 s)) (subject_rule whom s)) srlg-apart)) (of-subject whom s)

-- ---- no runs

no-set : (whom : Subject) → srlgs (given_on whom 1096 (side_b [] [])) ≡ []
unfolding computing given_on set_on
no-set generally = refl
no-set (standard_no n) = go (eqb n 0)
  where
    go : (z : Bool) → srlgs (cond z (rsvp_te_kind 1096 (side_b [] [])) (application_set n (side_b [] []))) ≡ []
    go true = refl
    go false = refl
no-set (user_no n) = refl

-- Without runs B and C nobody gets an SRLG.
pub no-srlgs : (b c : List ℕ) (whom : Subject) → (eqb (length b) 0 && eqb (length c) 0) ≡ true → srlgs (given_on whom 1096 (side_b b c)) ≡ []
no-srlgs b c whom e =
    go b c (eqb-true (length b) 0 (and_l (eqb (length b) 0) (eqb (length c) 0) e)) (eqb-true (length c) 0 (and_r (eqb (length b) 0) (eqb (length c) 0) e))
  where
    go : (x y : List ℕ) → length x ≡ 0 → length y ≡ 0 → srlgs (given_on whom 1096 (side_b x y)) ≡ []
    go [] [] h k = no-set whom
    go [] (v ∷ y) h k = let z : ⊥ = omega arith in absurd z
    go (v ∷ x) y h k = let z : ⊥ = omega arith in absurd z
