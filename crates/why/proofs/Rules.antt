-- The rules, branch by branch, from what the searches found. Assumes nothing.
use mathlib.Core.Path.{◌≡◌, refl, sym, ap, ◌∙◌}
use mathlib.Core.Bool.{Bool, true, false, cond, ◌||◌, not, false≢true}
use mathlib.Core.List.{List, []}
use Prim.Native.Nat.{ℕ, ◌+◌}
use borrow.Author.Tests.{eqb-true}
use lib.Dec.{eqb}
use Rattle.linkstate.specs.Lists.{any}
use Rattle.linkstate.specs.Masks.{user}
use Rattle.linkstate.specs.Replies as R
use Rattle.linkstate.specs.Replies.{accepted, refused, Refusal, unless}
use Rattle.linkstate.specs.Kinds.{is_code, is_link_code}
use Rattle.linkstate.specs.Elements.{elements}
use Rattle.linkstate.specs.Sides.{Side, general, names, named, named_with_l, of_live, has_legacy, takes_general, rsvp_te_alone}
use Rattle.linkstate.specs.BgpLs.{run_verdict, run_side}
use Rattle.linkstate.specs.Questions.{Source, Subject, generally, standard_no, user_no, before_answer}
use Rattle.linkstate.specs.Why as W
use Rattle.linkstate.specs.Why.{because, why_refused, Standing, names_with_l, has, holder, first, ◌or_else◌, legacy_why, application_why, rsvp_te_why, subject_why, carried_why, bandwidth_why, unless_ask_refused}
use Rattle.linkstate.specs.RunWhy.{stand_run, top_why}
use Rattle.isis_kinds.proofs.Computing.{computing}
use Rattle.isis.specs.RunA as I
use Rattle.isis.specs.RunA.{side_a}
use Rattle.isis.specs.RunB.{side_b}
use Rattle.isis.specs.Why.{stand_a, stand_b, stand_of, side_why}
use Rattle.replies.specs.declared.Run.{Run}
use Rattle.replies.specs.declared.Run.TheVariants.{A, B, BgpLs}
use Rattle.std.specs.Prelude.{Option, None, Some, is_some, MatchOption}
use Rattle.replies.specs.declared.Place.{Place}
use Rattle.replies.specs.declared.Subject.{Subject as Whom}
use Rattle.replies.specs.declared.Subject.TheVariants as S
use Rattle.replies.specs.Told.{told_run, subject_of}
use Rattle.advertisements.specs.declared.Test.{Test}
use Rattle.advertisements.specs.declared.Test.TheVariants as T
use Rattle.advertisements.specs.Tests.{passing, is_of}
use Rattle.advertisements.specs.Walks.{first_such, held}
use Rattle.rules.specs.declared.SideNames.{SideNames}
use Rattle.rules.specs.declared.Rule.{Rule}
use Rattle.rules.specs.declared.Rule.TheVariants.{ByL, Naming, General, Legacy, NamingFirst, AloneFirst, LegacyFirst}
use Rattle.rules.specs.Rules.{application_rule, rsvp_te_rule, bandwidth_rule, subject_rule, rule_on}
use Rattle.rules.proofs.Laws.{none-naming, none-alone, never}
use Rattle.rivals.proofs.RunLaws.{no-L}
use Rattle.isis_link.specs.Asked.{AskedInA}
use Rattle.why.specs.Runs.{is_held, standing, Ready, IsType, with_kind, number_of, is_rsvp_te, link_answer, run_answer}
use Rattle.why.specs.Rules.{general_rule, naming_why, naming_first_why, legacy_first_why, why_by, bandwidth_by}
use Rattle.why.proofs.Has.{has-is}
use Rattle.why.proofs.First.{first-held, holder-other, holder-none, holder-srlg, holder-held, holder-nowhere}
use Rattle.why.proofs.Runs.{tied, first-in, has-list, same-a}

-- ---- small answers

module _ (r : Option Place) where
  pub some-held : (p : Place) → r ≡ Some p → is_held (held r) ≡ true
  unfolding is_held
  some-held p e = rw e

  pub none-held : r ≡ None → is_held (held r) ≡ false
  unfolding is_held
  none-held e = rw e

pub is-some-held : (r : Option Place) (b : Bool) → b ≡ is_some r → is_held (held r) ≡ b
unfolding is_held
is-some-held None b e = sym e
is-some-held (Some p) b e = sym e

pub legacy-by : (run other legacy : Run) → run ≡ other → ((s : List ℕ) → (standing other s).legacy_run ≡ told_run legacy)
    → (s : List ℕ) → because W.by_legacy (W.legacy_in (told_run legacy)) ≡ legacy_why (standing run s)
unfolding legacy_why
legacy-by run other legacy e f s = rw e (ap (λ (r : Rattle.linkstate.specs.Replies.Run). because W.by_legacy (W.legacy_in r)) (sym (f s)))

-- ---- what the searches found

held_first : (p : R.Place) (o : W.Holder) → W.held_at p ≡ (W.held_at p or_else o)
unfolding ◌or_else◌
held_first p o = refl

legacy-first : (r : R.Run) (o : W.Holder) → W.legacy_in r ≡ (W.legacy_in r or_else o)
unfolding ◌or_else◌
legacy-first r o = refl

no-holder : is_held W.nowhere ≡ true → ⊥
unfolding is_held
no-holder e = false≢true e

module _ (run : Run) (b : List ℕ) (k : ℕ) (ok : Ready run b k) where
  abbrev st : Standing
  st = standing run b

  abbrev Found : Test → W.Holder → Type 0
  Found test h = h ≡ first_such run test None b

  pub with-l : (n m : ℕ) → n ≡ m → (h : W.Holder) → Found (T.WithL n) h → because W.by_l h ≡ because W.by_l (first st (names_with_l m))
  unfolding passing
  with-l n m z h e = ap (because W.by_l) (e ∙ first-in run b k ok (T.WithL n) ∙ ap (λ (i : ℕ). first st (names_with_l i)) z)

  pub naming : (n : ℕ) (h : W.Holder) → Found (T.Names n) h → named n st.side ≡ is_held h
  unfolding named passing
  naming n h e = sym (ap is_held (e ∙ first-in run b k ok (T.Names n)) ∙ first-held st (tied run b) (names n))

  has-held : (test : Test) (h : W.Holder) → h ≡ holder st k (passing test) → has k (of_live (passing test) st.side) ≡ is_held h
  has-held test h e = sym (ap is_held e ∙ holder-held st (tied run b) k (passing test))

  -- the one that holds the value, from the first that passes and has the kind
  module _ (test : Test) (h : W.Holder) (e : h ≡ first st (with_kind test k)) where
    pub holds-other : (k ≡ 1096 → ⊥) → h ≡ holder st k (passing test)
    unfolding with_kind
    holds-other n = e ∙ holder-other st (tied run b) k (passing test) n

    pub holds-none : is_held h ≡ false → h ≡ holder st k (passing test)
    unfolding with_kind
    holds-none t = e ∙ holder-none st (tied run b) k (passing test) (ap is_held (sym e) ∙ t)

    pub holds-srlg : k ≡ 1096 → is_held h ≡ true → (g : W.Holder) → Found test g → g ≡ holder st k (passing test)
    unfolding with_kind
    holds-srlg i t g eg = eg ∙ first-in run b k ok test ∙ holder-srlg st (tied run b) k (passing test) i (ap is_held (sym e) ∙ t)

  -- those that name an application
  module _ (n : ℕ) (h : W.Holder) (eh : h ≡ holder st k (passing (T.Names n))) where
    pub naming-held : is_held h ≡ true → because W.by_name h ≡ naming_why n k st
    unfolding naming_why passing
    naming-held u = ap (because W.by_name) (go h u ∙ ap (λ (x : W.Holder). x or_else first st (names n)) eh)
      where
        go : (x : W.Holder) → is_held x ≡ true → x ≡ (x or_else first st (names n))
        go (W.held_at p) v = held_first p (first st (names n))
        go (W.legacy_in r) v = legacy-first r (first st (names n))
        go W.nowhere v = absurd (no-holder v)

    pub naming-none : is_held h ≡ false → (f : W.Holder) → Found (T.Names n) f → because W.by_name f ≡ naming_why n k st
    unfolding naming_why passing ◌or_else◌
    naming-none u f ef =
        ap (because W.by_name)
        (ef ∙ first-in run b k ok (T.Names n) ∙ ap (λ (x : W.Holder). x or_else first st (names n))
        (sym (holder-nowhere st (tied run b) k (names n) (ap is_held (sym eh) ∙ u))))

  -- as the code looks for the first where none holds it
  pub naming-is : (n : ℕ) (h r : Option Place) → held h ≡ holder st k (passing (T.Names n)) → (P : Type 0) → MatchOption h P (λ x. r ≡ Some x)
      → (P → Found (T.Names n) (held r)) → because W.by_name (held r) ≡ naming_why n k st
  naming-is n None r e P m f = naming-none n (held None) e (none-held None refl) (held r) (f m)
  naming-is n (Some p) r e P m f = rw m (naming-held n (held (Some p)) e (some-held (Some p) p refl))

  -- and RSVP-TE
  module _ (h : W.Holder) (eh : h ≡ holder st k (passing (T.Names 0))) where
    pub naming-first-legacy : is_held h ≡ false → (r : W.Why) → r ≡ legacy_why st → r ≡ naming_first_why k st
    unfolding naming_first_why passing
    naming-first-legacy u r e = rw (has-held (T.Names 0) h eh ∙ u) e

    pub naming-first-held : is_held h ≡ true → because W.by_name h ≡ naming_first_why k st
    unfolding naming_first_why passing
    naming-first-held u = rw (has-held (T.Names 0) h eh ∙ u) (ap (because W.by_name) eh)

  module _ (test : Test) (h : W.Holder) (eh : h ≡ holder st k (passing test)) where
    pub carried_none : is_held h ≡ false → (r : W.Why) → r ≡ legacy_why st → r ≡ carried_why k (passing test) st
    unfolding carried_why
    carried_none u r e = rw (has-held test h eh ∙ u) e

    pub carried-is : is_held h ≡ true → because W.carried h ≡ carried_why k (passing test) st
    unfolding carried_why
    carried-is u = rw (has-held test h eh ∙ u) (ap (because W.carried) eh)

-- Whether run A's own elements have a kind, by its type.
module _ (a : List ℕ) (k t : ℕ) (ok : Ready A a k) (is : IsType A t k) (x : Bool) (e : x ≡ any (is_of t) (elements 1 0 a)) (r : W.Why) where
  in-legacy : has k (side_a a).legacy ≡ x
  unfolding side_a
  in-legacy = has-list k t I.attributes_of (same-a k t ok.1 ok.2 is) (elements 1 0 a) ∙ sym e

  pub legacy-there : x ≡ true → r ≡ legacy_why (standing A a) → r ≡ legacy_first_why k (standing A a)
  unfolding legacy_first_why standing stand_a
  legacy-there u h = rw (in-legacy ∙ u) h

  pub legacy-absent : x ≡ false → r ≡ carried_why k (passing T.WithoutL) (standing A a) → r ≡ legacy_first_why k (standing A a)
  unfolding legacy_first_why standing stand_a passing
  legacy-absent u h = rw (in-legacy ∙ u) h

-- ---- rule by rule

module _ (rule : Rule) (whom : Subject) (k : ℕ) (s : Standing) (x : W.Why) where
  pub by-l : rule ≡ ByL → x ≡ because W.by_l (first s (names_with_l (number_of whom))) → x ≡ why_by rule whom k s
  unfolding why_by
  by-l e h = rw e h

  pub by-naming : (n : ℕ) → rule ≡ Naming n → x ≡ naming_why n k s → x ≡ why_by rule whom k s
  unfolding why_by
  by-naming n e h = rw e h

  pub by-naming-first : rule ≡ NamingFirst → x ≡ naming_first_why k s → x ≡ why_by rule whom k s
  unfolding why_by
  by-naming-first e h = rw e h

  pub by-else : (rule ≡ ByL → ⊥) → ((n : ℕ) → rule ≡ Naming n → ⊥) → (rule ≡ General → ⊥) → (rule ≡ NamingFirst → ⊥) → x ≡ legacy_why s
      → x ≡ why_by rule whom k s
  unfolding why_by
  by-else l n g f h = h ∙ go rule l n g f
    where
      go : (r : Rule) → (r ≡ ByL → ⊥) → ((n : ℕ) → r ≡ Naming n → ⊥) → (r ≡ General → ⊥) → (r ≡ NamingFirst → ⊥) → legacy_why s ≡ why_by r whom k s
      go ByL l n g f = absurd (l refl)
      go (Naming i) l n g f = absurd (n i refl)
      go General l n g f = absurd (g refl)
      go NamingFirst l n g f = absurd (f refl)
      go Legacy l n g f = refl
      go AloneFirst l n g f = refl
      go LegacyFirst l n g f = refl

  pub band-legacy-first : rule ≡ LegacyFirst → x ≡ legacy_first_why k s → x ≡ bandwidth_by rule k s
  unfolding bandwidth_by
  band-legacy-first e h = rw e h

  pub band-alone-first : rule ≡ AloneFirst → x ≡ carried_why k (passing T.RsvpTeAlone) s → x ≡ bandwidth_by rule k s
  unfolding bandwidth_by passing
  band-alone-first e h = rw e h

  pub band-else : (rule ≡ LegacyFirst → ⊥) → (rule ≡ AloneFirst → ⊥) → x ≡ legacy_why s → x ≡ bandwidth_by rule k s
  unfolding bandwidth_by
  band-else l a h = h ∙ go rule l a
    where
      go : (r : Rule) → (r ≡ LegacyFirst → ⊥) → (r ≡ AloneFirst → ⊥) → legacy_why s ≡ bandwidth_by r k s
      go ByL l a = refl
      go (Naming n) l a = refl
      go General l a = refl
      go NamingFirst l a = refl
      go Legacy l a = refl
      go AloneFirst l a = absurd (a refl)
      go LegacyFirst l a = absurd (l refl)

pub by_general : (rule : Rule) (whom : Subject) (k : ℕ) (s : Standing) → rule ≡ General → (g : W.Rule) (h : W.Holder) → g ≡ general_rule whom
    → h ≡ holder s k (passing T.General) → because g h ≡ why_by rule whom k s
unfolding why_by passing
by_general rule whom k s e g h i j = rw (e, i, j)

-- ---- what is told by the rule is what the definitions tell

general-why : (k : ℕ) (s : Standing) → why_by General generally k s ≡ because W.general_asked (holder s k general)
unfolding why_by general_rule
general-why k s = refl

-- The subjects whose answer does not look at RSVP-TE's, and RSVP-TE.
module _ (k : ℕ) (s : Standing) (x : W.Why) where
  pub told-other : (w : Subject) → is_rsvp_te w ≡ false → side_why w k s ≡ subject_why x w k s
  unfolding side_why subject_why is_rsvp_te
  told-other generally u = refl
  told-other (standard_no n) u = rw u
  told-other (user_no n) u = refl

  pub told-top : (w : Subject) → is_rsvp_te w ≡ true → x ≡ subject_why x w k s
  unfolding subject_why is_rsvp_te
  told-top generally u = absurd (false≢true u)
  told-top (standard_no n) u = rw u
  told-top (user_no n) u = absurd (false≢true u)

none_has : (k : ℕ) → has k [] ≡ false
unfolding any
none_has k = has-is k []

module _ (k : ℕ) (s : Standing) where
  application-why : (whom : Subject) (n : ℕ) → number_of whom ≡ n → general_rule whom ≡ W.unnamed
      → why_by (application_rule n (named_with_l n s.side) (named n s.side)) whom k s ≡ application_why n k s
  unfolding why_by application_rule application_why naming_why
  application-why whom n z g = go (named_with_l n s.side) (named n s.side)
    where
      go : (x y : Bool) → why_by (cond x ByL (cond y (Naming n) General)) whom k s
          ≡ cond x (because W.by_l (first s (names_with_l n))) (cond y (because W.by_name (holder s k (names n) or_else first s (names n)))
          (because W.unnamed (holder s k general)))
      go true y = ap (λ (i : ℕ). because W.by_l (first s (names_with_l i))) z
      go false true = refl
      go false false = ap (λ (r : W.Rule). because r (holder s k general)) g

  rsvp-te-why : (whom : Subject) → number_of whom ≡ 0 → general_rule whom ≡ W.unnamed
      → why_by (rsvp_te_rule (named_with_l 0 s.side) (named 0 s.side) (has_legacy s.side)) whom k s ≡ rsvp_te_why k s
  unfolding why_by rsvp_te_rule rsvp_te_why naming_first_why takes_general
  rsvp-te-why whom z g = go (named_with_l 0 s.side) refl (named 0 s.side) refl (has_legacy s.side)
    where
      go : (x : Bool) → named_with_l 0 s.side ≡ x → (y : Bool) → named 0 s.side ≡ y → (l : Bool)
          → why_by (cond x ByL (cond y NamingFirst (cond l Legacy General))) whom k s
          ≡ cond (not (y || l)) (because W.unnamed (holder s k general))
          (cond x (because W.by_l (first s (names_with_l 0)))
          (cond (has k (of_live (names 0) s.side)) (because W.by_name (holder s k (names 0))) (legacy_why s)))
      go true e true f l = ap (λ (i : ℕ). because W.by_l (first s (names_with_l i))) z
      go true e false f l = absurd (never s.side e f)
      go false e true f l = refl
      go false e false f false = ap (λ (r : W.Rule). because r (holder s k general)) g
      go false e false f true =
          let n : has k (of_live (names 0) s.side) ≡ false = ap (has k) (none-naming s.side f) ∙ none_has k in
          ap (λ (b : Bool). cond b (because W.by_name (holder s k (names 0))) (legacy_why s)) (sym n)

  subject-why : (whom : Subject) → why_by (subject_rule whom s.side) whom k s ≡ side_why whom k s
  unfolding subject_rule side_why subject_why number_of general_rule
  subject-why generally = general-why k s
  subject-why (standard_no n) = go (eqb n 0) refl
    where
      go : (b : Bool) → eqb n 0 ≡ b
          → why_by (cond b (rsvp_te_rule (named_with_l 0 s.side) (named 0 s.side) (has_legacy s.side))
          (application_rule n (named_with_l n s.side) (named n s.side))) (standard_no n) k s ≡ cond b (rsvp_te_why k s) (application_why n k s)
      go true e = rsvp-te-why (standard_no n) (eqb-true n 0 e) refl
      go false e = application-why (standard_no n) n refl refl
  subject-why (user_no n) = application-why (user_no n) (user n) refl refl

  bandwidth-why : bandwidth_by (bandwidth_rule k (named_with_l 0 s.side) (named 0 s.side)) k s ≡ bandwidth_why k s
  unfolding bandwidth_by bandwidth_rule bandwidth_why legacy_first_why carried_why
  bandwidth-why = go (eqb k 1089) (named_with_l 0 s.side) (named 0 s.side) refl
    where
      go : (b x y : Bool) → named 0 s.side ≡ y
          → bandwidth_by (cond b LegacyFirst (cond x ByL (cond y AloneFirst Legacy))) k s
          ≡ cond b (cond (has k s.side.legacy) (legacy_why s) (carried_why k (λ d. not d.L) s)) (cond x (legacy_why s) (carried_why k rsvp_te_alone s))
      go true x y f = refl
      go false true y f = refl
      go false false true f = refl
      go false false false f =
          let n : has k (of_live rsvp_te_alone s.side) ≡ false = ap (has k) (none-alone s.side f) ∙ none_has k in
          ap (λ (b : Bool). cond b (because W.carried (holder s k rsvp_te_alone)) (legacy_why s)) (sym n)

-- ---- a link that passed

-- What is told by a rule does not look at C's values.
any-c : (rule : Rule) (whom : Subject) (k : ℕ) (b c : List ℕ) → why_by rule whom k (stand_b b []) ≡ why_by rule whom k (stand_b b c)
unfolding why_by naming_why naming_first_why legacy_why stand_b side_b holder first of_live
any-c ByL whom k b c = refl
any-c (Naming n) whom k b c = refl
any-c General whom k b c = refl
any-c Legacy whom k b c = refl
any-c NamingFirst whom k b c = refl
any-c AloneFirst whom k b c = refl
any-c LegacyFirst whom k b c = refl

srlg-apart : is_link_code 1096 ≡ false
unfolding computing
srlg-apart = refl

pub ready-in-a : (a : List ℕ) (whom : Subject) (k : ℕ) (m : SideNames) → AskedInA a whom k m → Ready A a k
ready-in-a a whom k m q = (q.passed, q.known, q.other)

module _ (a b c : List ℕ) (whom : Subject) (rule : Rule) (x : W.Why) where
  module _ (k : ℕ) (e : rule ≡ rule_on whom k (side_a a)) where
    pub link-bandwidth : is_link_code k ≡ true → x ≡ bandwidth_by rule k (standing A a) → x ≡ link_answer a b c whom k
    unfolding link_answer standing stand_a rule_on
    link-bandwidth i h = rw i (h ∙ ap (λ (r : Rule). bandwidth_by r k (stand_a a)) (e ∙ on-link) ∙ bandwidth-why k (stand_a a))
      where
        on-link : rule_on whom k (side_a a) ≡ bandwidth_rule k (named_with_l 0 (side_a a)) (named 0 (side_a a))
        on-link = rw i

    pub link-in-a : is_link_code k ≡ false → eqb k 1096 ≡ false → x ≡ why_by rule whom k (standing A a) → x ≡ link_answer a b c whom k
    unfolding link_answer standing stand_a stand_of rule_on
    link-in-a i o h = rw (i, o) (h ∙ ap (λ (r : Rule). why_by r whom k (stand_a a)) (e ∙ on-subject) ∙ subject-why k (stand_a a) whom)
      where
        on-subject : rule_on whom k (side_a a) ≡ subject_rule whom (side_a a)
        on-subject = rw i

  pub link-in-b : rule ≡ rule_on whom 1096 (side_b b c) → x ≡ why_by rule whom 1096 (standing B b) → x ≡ link_answer a b c whom 1096
  unfolding link_answer standing stand_of stand_b rule_on
  link-in-b e h =
      rw srlg-apart (h ∙ any-c rule whom 1096 b c ∙ ap (λ (r : Rule). why_by r whom 1096 (stand_b b c)) (e ∙ on-subject) ∙ subject-why 1096 (stand_b b c) whom)
    where
      on-subject : rule_on whom 1096 (side_b b c) ≡ subject_rule whom (side_b b c)
      on-subject = rw srlg-apart

pub as-srlg : (a b c : List ℕ) (whom : Subject) (k : ℕ) (x : W.Why) → k ≡ 1096 → x ≡ link_answer a b c whom 1096 → x ≡ link_answer a b c whom k
as-srlg a b c whom k x e h = h ∙ ap (link_answer a b c whom) (sym e)

-- ---- a run that passed

-- A kind that every run may be asked for.
metric : is_code 1092 ≡ true
unfolding computing
metric = refl

module _ (s : List ℕ) (ok : run_verdict s ≡ accepted) (n : ℕ) (h : W.Holder) (e : h ≡ first_such BgpLs (T.Names n) None s) where
  run-named : named n (run_side s) ≡ is_held h
  unfolding standing stand_run
  run-named = naming BgpLs s 1092 (ok, metric) n h e

  pub rule-named : is_held h ≡ true → Naming n ≡ application_rule n (named_with_l n (run_side s)) (named n (run_side s))
  unfolding application_rule
  rule-named t = rw (no-L s n, run-named ∙ t)

  pub rule-unnamed : is_held h ≡ false → General ≡ application_rule n (named_with_l n (run_side s)) (named n (run_side s))
  unfolding application_rule
  rule-unnamed t = rw (no-L s n, run-named ∙ t)

module _ (whom : Whom) (s : Side) (r : Rule) where
  pub rule-general : whom ≡ S.General → r ≡ General → r ≡ subject_rule (subject_of whom) s
  unfolding subject_rule
  rule-general e h = rw e h

  pub rule-standard : (n : ℕ) → whom ≡ S.Standard n → is_rsvp_te (subject_of whom) ≡ false → r ≡ application_rule n (named_with_l n s) (named n s)
      → r ≡ subject_rule (subject_of whom) s
  unfolding subject_rule is_rsvp_te
  rule-standard n e f h = let z : eqb n 0 ≡ false = rw e at f in rw (e, z) h

  pub rule-user : (n : ℕ) → whom ≡ S.User n → r ≡ application_rule (64 + n) (named_with_l (64 + n) s) (named (64 + n) s) → r ≡ subject_rule (subject_of whom) s
  unfolding subject_rule user
  rule-user n e h = rw e h

module _ (s : List ℕ) (whom : Subject) (k : ℕ) (x : W.Why) where
  pub run-bandwidth : is_link_code k ≡ true → x ≡ top_why → x ≡ run_answer s whom k
  unfolding run_answer
  run-bandwidth t h = rw t h

  module _ (f : is_link_code k ≡ false) where
    pub run-rsvp-te : is_rsvp_te whom ≡ true → x ≡ top_why → x ≡ run_answer s whom k
    unfolding run_answer
    run-rsvp-te t h = rw f (h ∙ told-top k (stand_run s) top_why whom t)

    pub run-other : is_rsvp_te whom ≡ false → (rule : Rule) → rule ≡ subject_rule whom (run_side s) → x ≡ why_by rule whom k (standing BgpLs s)
        → x ≡ run_answer s whom k
    unfolding run_answer standing stand_run
    run-other t rule e h =
        rw f (h ∙ ap (λ (r : Rule). why_by r whom k (stand_run s)) e ∙ subject-why k (stand_run s) whom ∙ told-other k (stand_run s) top_why whom t)

-- ---- the entries

module _ (s : Source) (whom : Subject) (k : ℕ) (w : W.Why) where
  pub why-refused : (x : Refusal) → before_answer s whom k ≡ refused x → why_refused x ≡ unless_ask_refused s whom k w
  unfolding unless_ask_refused unless
  why-refused x e = rw e

  pub why-told : (r : W.Why) → before_answer s whom k ≡ accepted → r ≡ w → r ≡ unless_ask_refused s whom k w
  unfolding unless_ask_refused unless
  why-told r e h = rw e h
