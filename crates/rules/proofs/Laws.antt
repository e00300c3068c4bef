-- What each rule takes is what Sides gives, and the rule as the code finds it.
use mathlib.Core.Path.{◌≡◌, refl, sym, ap, ap₂, ◌∙◌, subst}
use mathlib.Core.Bool.{Bool, true, false, cond, ◌&&◌, ◌||◌, not}
use mathlib.Core.Logic.{⊎_elim}
use mathlib.Core.List.{List, [], ◌∷◌, ◌++◌}
use types.Run.{OneOf}
use denote.Enum.Declared.{tag_of}
use Prim.Native.Nat.{ℕ, ◌+◌, ◌<◌}
use native.Mathlib.Omega.{arith}
use borrow.Author.Tests.{eq-eqb, ne_eqb, ltb-false}
use lib.Dec.{eqb}
use Rattle.linkstate.specs.Lists.{keep, any, each, empty}
use Rattle.linkstate.specs.Bytes.{words, distinct, bytes_of_words}
use Rattle.linkstate.specs.Masks.{user, others}
use Rattle.linkstate.specs.Kinds.{is_link_code}
use Rattle.linkstate.specs.Attributes.{Attribute, of_kind, srlgs, first_value, value_of}
use Rattle.linkstate.specs.Sides.{Advertisement, Side, names, named, named_with_l, of_live, general_set, application_set, has_legacy, takes_general, rsvp_te_kind, rsvp_te_alone, maximum_bandwidth, reservable_bandwidth, bandwidth_kind}
use Rattle.linkstate.specs.Questions.{Subject, generally, standard_no, user_no, number_too_high}
use Rattle.replies.specs.declared.Subject.{Subject as Whom}
use Rattle.replies.specs.declared.Subject.TheVariants as W
use Rattle.replies.specs.Told.{subject_of}
use Rattle.rules.specs.declared.Names.{Names}
use Rattle.rules.specs.Names.{Tells}
use Rattle.masks.specs.Applications.{in_set}
use Rattle.rules.proofs.NameLaws.{side-named, side-flagged}
use Rattle.rules.specs.declared.Rule.{Rule}
use Rattle.rules.specs.declared.Rule.TheVariants.{ByL, Naming, General, Legacy, NamingFirst, AloneFirst, LegacyFirst}
use Rattle.rules.specs.contracts.Rule.{the_type}
use Rattle.rules.specs.Rules.{application_rule, rsvp_te_rule, bandwidth_rule, subject_rule, rule_on, taken_by, set_on, given_on}

-- ---- who is not named

-- Who is named with L is named.
named-by-l : (n : ℕ) (ds : List Advertisement) → any (λ d. d.L && names n d) ds ≡ true → any (names n) ds ≡ true
unfolding any
named-by-l n [] h = h
named-by-l n (d ∷ ds) h = go d.L (names n d) h (named-by-l n ds)
  where
    go : (x y : Bool) → (x && y) || any (λ d. d.L && names n d) ds ≡ true → (any (λ d. d.L && names n d) ds ≡ true → any (names n) ds ≡ true)
        → y || any (names n) ds ≡ true
    go x true h r = refl
    go true false h r = r h
    go false false h r = r h

-- A test that only those pass that name n, where none does.
none_pass : (n : ℕ) (p q : Advertisement → Bool) → ((d : Advertisement) → p d ≡ names n d && q d) → (ds : List Advertisement) → any (names n) ds ≡ false
    → keep p ds ≡ []
unfolding any keep
none_pass n p q e [] h = refl
none_pass n p q e (d ∷ ds) h = go (names n d) (p d) (e d) h (none_pass n p q e ds)
  where
    go : (y x : Bool) → x ≡ y && q d → y || any (names n) ds ≡ false → (any (names n) ds ≡ false → keep p ds ≡ []) → cond x (d ∷ keep p ds) (keep p ds) ≡ []
    go true x f h r = absurd (let z : ◌≡◌ {A = ℕ} 0 1 = cc in omega arith)
    go false x f h r = rw f (r h)

and-true : (b : Bool) → b ≡ b && true
and-true true = refl
and-true false = refl

module _ (s : Side) (h : named 0 s ≡ false) where
  pub none-naming : of_live (names 0) s ≡ []
  unfolding of_live named each
  none-naming = ap (each (λ d. d.attributes)) (none_pass 0 (names 0) (λ d. true) (λ d. and-true (names 0 d)) s.live h)

  pub none-alone : of_live rsvp_te_alone s ≡ []
  unfolding of_live named each rsvp_te_alone
  none-alone = ap (each (λ d. d.attributes)) (none_pass 0 rsvp_te_alone (λ d. not (any (λ a. names a d) others)) (λ d. refl) s.live h)

no_value : (k : ℕ) → empty (value_of k []) ≡ true
unfolding value_of srlgs of_kind keep each words distinct bytes_of_words first_value empty
no_value k = go (eqb k 1096)
  where
    go : (b : Bool) → empty (cond b (bytes_of_words (distinct (each (λ (t : Attribute). words t.value) []))) (first_value [])) ≡ true
    go true = refl
    go false = refl

-- ---- the rules

pub application-taken : (k n : ℕ) (s : Side) → taken_by (application_rule n (named_with_l n s) (named n s)) k s ≡ application_set n s
unfolding taken_by application_rule application_set
application-taken k n s = go (named_with_l n s) (named n s)
  where
    go : (x y : Bool) → taken_by (cond x ByL (cond y (Naming n) General)) k s ≡ cond x s.legacy (cond y (of_live (names n) s) (general_set s))
    go true y = refl
    go false true = refl
    go false false = refl

pub never : (s : Side) → named_with_l 0 s ≡ true → named 0 s ≡ false → ⊥
unfolding named_with_l named
never s e f = let g = named-by-l 0 s.live e in let z : ◌≡◌ {A = ℕ} 0 1 = cc in omega arith

pub rsvp-te-taken : (k : ℕ) (s : Side) → taken_by (rsvp_te_rule (named_with_l 0 s) (named 0 s) (has_legacy s)) k s ≡ rsvp_te_kind k s
unfolding taken_by rsvp_te_rule rsvp_te_kind takes_general
rsvp-te-taken k s = go (named_with_l 0 s) refl (named 0 s) refl (has_legacy s)
  where
    live : List Attribute
    live = of_live (names 0) s

    go : (x : Bool) → named_with_l 0 s ≡ x → (y : Bool) → named 0 s ≡ y → (z : Bool)
        → taken_by (cond x ByL (cond y NamingFirst (cond z Legacy General))) k s
        ≡ cond (not (y || z)) (general_set s) (cond (x || empty (value_of k live)) s.legacy live)
    go true e true f z = refl
    go true e false f z = absurd (never s e f)
    go false e true f z = refl
    go false e false f false = refl
    go false e false f true = let z : empty (value_of k live) ≡ true = ap (λ (ts : List Attribute). empty (value_of k ts)) (none-naming s f) ∙ no_value k in rw z

pub bandwidth-taken : (k : ℕ) (s : Side) → taken_by (bandwidth_rule k (named_with_l 0 s) (named 0 s)) k s ≡ bandwidth_kind k s
unfolding taken_by bandwidth_rule bandwidth_kind maximum_bandwidth reservable_bandwidth
bandwidth-taken k s = go (eqb k 1089) (named_with_l 0 s) (named 0 s) refl
  where
    go : (b x y : Bool) → named 0 s ≡ y
        → taken_by (cond b LegacyFirst (cond x ByL (cond y AloneFirst Legacy))) k s
        ≡ cond b (s.legacy ++ of_live (λ d. not d.L) s) (cond x s.legacy (of_live rsvp_te_alone s ++ s.legacy))
    go true x y f = refl
    go false true y f = refl
    go false false true f = refl
    go false false false f = sym (ap (λ (ts : List Attribute). ts ++ s.legacy) (none-alone s f))

general-taken : (k : ℕ) (s : Side) → taken_by General k s ≡ general_set s
unfolding taken_by
general-taken k s = refl

pub subject-taken : (whom : Subject) (k : ℕ) (s : Side) → taken_by (subject_rule whom s) k s ≡ set_on whom k s
unfolding subject_rule set_on
subject-taken generally k s = general-taken k s
subject-taken (standard_no n) k s = go (eqb n 0)
  where
    go : (b : Bool)
        → taken_by (cond b (rsvp_te_rule (named_with_l 0 s) (named 0 s) (has_legacy s)) (application_rule n (named_with_l n s) (named n s))) k s ≡ cond b (rsvp_te_kind k s) (application_set n s)
    go true = rsvp-te-taken k s
    go false = application-taken k n s
subject-taken (user_no n) k s = application-taken k (user n) s

-- What the rule takes is what the subject gets.
pub rule-taken : (whom : Subject) (k : ℕ) (s : Side) → taken_by (rule_on whom k s) k s ≡ given_on whom k s
unfolding rule_on given_on
rule-taken whom k s = go (is_link_code k)
  where
    go : (b : Bool) → taken_by (cond b (bandwidth_rule k (named_with_l 0 s) (named 0 s)) (subject_rule whom s)) k s ≡ cond b (bandwidth_kind k s) (set_on whom k s)
    go true = bandwidth-taken k s
    go false = subject-taken whom k s

pub rule-takes : (whom : Subject) (k : ℕ) (s : Side) (r : Rule) → r ≡ rule_on whom k s → taken_by r k s ≡ given_on whom k s
rule-takes whom k s r e = ap (λ (x : Rule). taken_by x k s) e ∙ rule-taken whom k s

-- ---- with names that were told: l and y are what the masks say of n

module _ (s : Side) (m : Names) (t : Tells s.live m) (n : ℕ) (l y : Bool) (p : l ≡ in_set m.flagged n) (q : y ≡ in_set m.named n) (r : Rule) where
  is-l : l ≡ named_with_l n s
  is-l = p ∙ side-flagged s m t n

  is-named : y ≡ named n s
  is-named = q ∙ side-named s m t n

  pub told-application : r ≡ application_rule n l y → r ≡ application_rule n (named_with_l n s) (named n s)
  told-application e = e ∙ ap₂ (λ (a b : Bool). application_rule n a b) is-l is-named

  module _ (z : n ≡ 0) where
    te-l : l ≡ named_with_l 0 s
    te-l = is-l ∙ ap (λ (i : ℕ). named_with_l i s) z

    te-named : y ≡ named 0 s
    te-named = is-named ∙ ap (λ (i : ℕ). named i s) z

    pub told-rsvp-te : (x : Bool) → x ≡ has_legacy s → r ≡ rsvp_te_rule l y x → r ≡ rsvp_te_rule (named_with_l 0 s) (named 0 s) (has_legacy s)
    told-rsvp-te x h e = e ∙ ap₂ (λ (a b : Bool). rsvp_te_rule a b x) te-l te-named ∙ ap (rsvp_te_rule (named_with_l 0 s) (named 0 s)) h

    pub told-bandwidth : (k : ℕ) → r ≡ bandwidth_rule k l y → r ≡ bandwidth_rule k (named_with_l 0 s) (named 0 s)
    told-bandwidth k e = e ∙ ap₂ (bandwidth_rule k) te-l te-named

-- ---- a subject

module _ (s : Side) (r : Rule) where
  pub of-general : r ≡ General → r ≡ subject_rule generally s
  unfolding subject_rule
  of-general e = e

  module _ (n : ℕ) where
    pub of-rsvp-te : n ≡ 0 → r ≡ rsvp_te_rule (named_with_l 0 s) (named 0 s) (has_legacy s) → r ≡ subject_rule (standard_no n) s
    unfolding subject_rule
    of-rsvp-te z e = rw (eq-eqb n 0 z) e

    pub of-standard : (n ≡ 0 → ⊥) → r ≡ application_rule n (named_with_l n s) (named n s) → r ≡ subject_rule (standard_no n) s
    unfolding subject_rule
    of-standard z e = rw (ne_eqb n 0 z) e

    pub of-user : r ≡ application_rule (64 + n) (named_with_l (64 + n) s) (named (64 + n) s) → r ≡ subject_rule (user_no n) s
    unfolding subject_rule user
    of-user e = e

module _ (whom : Subject) (k : ℕ) (s : Side) (r : Rule) where
  pub on-link : is_link_code k ≡ true → r ≡ bandwidth_rule k (named_with_l 0 s) (named 0 s) → r ≡ rule_on whom k s
  unfolding rule_on
  on-link i e = rw i e

  pub on-subject : is_link_code k ≡ false → r ≡ subject_rule whom s → r ≡ rule_on whom k s
  unfolding rule_on
  on-subject i e = rw i e

-- ---- as the code has a subject

pub low-standard : (w : Whom) (n : ℕ) → w ≡ W.Standard n → number_too_high (subject_of w) ≡ false → n < 64
unfolding number_too_high
low-standard w n e h = let l = ltb-false 63 n (subst (λ (x : Whom). number_too_high (subject_of x) ≡ false) e h) in omega arith

pub low-user : (w : Whom) (n : ℕ) → w ≡ W.User n → number_too_high (subject_of w) ≡ false → n < 32
unfolding number_too_high
low-user w n e h = let l = ltb-false 31 n (subst (λ (x : Whom). number_too_high (subject_of x) ≡ false) e h) in omega arith

pub as-whom : (s : Side) (r : Rule) (w v : Whom) → w ≡ v → r ≡ subject_rule (subject_of v) s → r ≡ subject_rule (subject_of w) s
as-whom s r w v e = subst (λ (x : Whom). r ≡ subject_rule (subject_of x) s) (sym e)

-- ---- the rule, with what it takes

abbrev pub Decides : Subject → ℕ → Names → Bool → Rule → Type 0
Decides whom k m x r =
    ((s : Side) → Tells s.live m → x ≡ has_legacy s → taken_by r k s ≡ given_on whom k s) × ((s : Side) → Tells s.live m → x ≡ has_legacy s → r ≡ rule_on whom k s)

pub both_of : (whom : Subject) (k : ℕ) (m : Names) (x : Bool) (r : Rule) → ((s : Side) → Tells s.live m → x ≡ has_legacy s → r ≡ rule_on whom k s) → Decides whom k m x r
both_of whom k m x r e = (λ s t h. rule-takes whom k s r (e s t h), e)

-- ---- the rules of RSVP-TE that take legacy: all but two, as a match on them has it

abbrev pub FromLegacy : Rule → Type 0
FromLegacy ByL = Unit {0}
FromLegacy (Naming n) = Unit {0}
FromLegacy General = ⊥
FromLegacy Legacy = Unit {0}
FromLegacy NamingFirst = ⊥
FromLegacy AloneFirst = Unit {0}
FromLegacy LegacyFirst = Unit {0}

pub from-legacy : (r : Rule) → OneOf (0 ∷ 1 ∷ 3 ∷ 5 ∷ 6 ∷ []) (tag_of the_type r) → FromLegacy r
from-legacy ByL h = tt
from-legacy (Naming n) h = tt
from-legacy General h = ⊎_elim (λ e. omega arith) (λ h. ⊎_elim (λ e. omega arith) (λ h. ⊎_elim (λ e. omega arith) (λ h. ⊎_elim (λ e. omega arith) (λ e. omega arith) h) h) h) h
from-legacy Legacy h = tt
from-legacy NamingFirst h = ⊎_elim (λ e. omega arith) (λ h. ⊎_elim (λ e. omega arith) (λ h. ⊎_elim (λ e. omega arith) (λ h. ⊎_elim (λ e. omega arith) (λ e. omega arith) h) h) h) h
from-legacy AloneFirst h = tt
from-legacy LegacyFirst h = tt
