-- The classes of a side's subjects, from the classes of its sources (rules W2 to W10). Assumes nothing.
use Prim.Native.Nat.{ℕ, ◌+◌, ◌-◌, ◌*◌, ◌≤◌, ◌<◌}
use mathlib.Core.Path.{◌≡◌, refl, sym, ◌∙◌, ap, ap₂, subst}
use mathlib.Core.Bool.{Bool, true, false, cond, ◌&&◌, ◌||◌, not, or-true, and-false}
use mathlib.Core.Logic.{◌⊎◌, inl, inr}
use mathlib.Core.List.{List, [], ◌∷◌}
use native.Mathlib.Omega.{arith}
use borrow.Author.Tests.{eqb-true, eqb-false, ltb-true, ltb-false, not-false}
use lib.Dec.{eqb, ltb}
use lib.ListN.{length, get_or, set}
use Rattle.linkstate.specs.Lists.{keep, each, empty}
use Rattle.linkstate.specs.Masks.{in_number}
use Rattle.linkstate.specs.Bytes.{distinct, bytes_of_words, four}
use Rattle.linkstate.specs.Attributes.{Attribute, of_kind, srlgs, value_of}
use Rattle.linkstate.specs.Sides.{Side, names, named, named_with_l, of_live, general_set, application_set, has_legacy, takes_general, rsvp_te_kind}
use Rattle.linkstate.proofs.ListLaws.{any-keep, empty-nil}
use Rattle.masks.specs.Sets.{turned_place}
use Rattle.masks.specs.declared.Applications.{Applications}
use Rattle.masks.specs.Applications.{in_set}
use Rattle.rules.specs.declared.Names.{Names}
use Rattle.rules.specs.Names.{Tells}
use Rattle.rules.specs.Rules.{rsvp_te_rule}
use Rattle.rules.proofs.NameLaws.{side-named, side-flagged}
use Rattle.rules.proofs.Laws.{never}
use Rattle.srlg_ranks.specs.Ranks.{keep_from, in_words, picked}
use Rattle.srlg_sources.specs.Classes.{class_numbers, Classed, class_of}
use Rattle.srlg_table.proofs.Sizes.{low_bit, high_bit}
use Rattle.srlg_table.proofs.Tabling.{none_row}
use Rattle.srlg_classes.specs.declared.First.{First}
use Rattle.srlg_classes.specs.declared.Classes.{Classes}
use Rattle.srlg_classes.specs.Owned.{class_at, without, plain, in_named, HasBits, Firsts, NamedOwn, FirstOwn, class_by, rsvp_class}
use Rattle.srlg_classes.specs.Sided.{Sourced, Has, Classified}
use Rattle.srlg_classes.proofs.Numbers.{has-numbers, classed, classed-none, has-none}

-- ---- applications by their bits

turned-low : (n : ℕ) → n < 128 → turned_place n < 128
unfolding turned_place
turned-low n h = omega arith

turned-standard : (n : ℕ) → n < 64 → turned_place n < 64
unfolding turned_place
turned-standard n h = omega arith

turned-user : (n : ℕ) → 64 ≤ n → turned_place n ≡ 64 + turned_place (n - 64)
unfolding turned_place
turned-user n h = omega arith

-- A number's membership in two masks as sent is its bit's.
pub both_words : (m : Applications) (n : ℕ) → n < 128 → in_set m n ≡ in_words (m.standard ∷ m.user ∷ []) (turned_place n)
unfolding in_set
both_words m n h = go (ltb n 64) refl
  where
    go : (b : Bool) → ltb n 64 ≡ b → cond b (in_number m.standard (turned_place n)) (in_number m.user (turned_place (n - 64))) ≡ in_words (m.standard ∷ m.user ∷ []) (turned_place n)
    go true e = sym (low_bit m.standard m.user (turned_place n) (turned-standard n (ltb-true n 64 e)))
    go false e =
        let l = ltb-false n 64 e in
        sym (ap (in_words (m.standard ∷ m.user ∷ [])) (turned-user n l) ∙ high_bit m.standard m.user (turned_place (n - 64)) (turned-standard (n - 64) (omega arith)))

-- ---- no numbers

no_words : (ts : List Attribute) → srlgs ts ≡ [] → empty (value_of 1096 ts) ≡ true
unfolding value_of bytes_of_words each empty
no_words ts e = rw e

some_words : (ts : List Attribute) → (srlgs ts ≡ [] → ⊥) → empty (value_of 1096 ts) ≡ false
unfolding value_of bytes_of_words each empty four
some_words ts n = go (srlgs ts) n
  where
    go : (l : List ℕ) → (l ≡ [] → ⊥) → empty (each four l) ≡ false
    go [] n = absurd (n refl)
    go (x ∷ l) n = refl

not_named : (n : ℕ) (side : Side) → named n side ≡ false → srlgs (of_live (names n) side) ≡ []
unfolding named of_live srlgs of_kind keep each distinct
not_named n side e =
    let z : keep (names n) side.live ≡ [] = empty-nil (keep (names n) side.live) (not-false (empty (keep (names n) side.live)) (sym (any-keep (names n) side.live) ∙ e)) in
    rw z

-- ---- all numbers of subjects

module _ (values : List ℕ) (rows : List (List ℕ)) (n words : ℕ) (side : Side) (names_of : Names) (so : Sourced values rows n side) (tells : Tells side.live names_of) (short : length values ≤ 64 * words) where
  abbrev L : ℕ → Bool
  L a = in_words (names_of.flagged.standard ∷ names_of.flagged.user ∷ []) (turned_place a)

  abbrev P : ℕ → Bool
  P a = in_words (names_of.named.standard ∷ names_of.named.user ∷ []) (turned_place a)

  is-flagged : (a : ℕ) → a < 128 → L a ≡ named_with_l a side
  is-flagged a h = sym (both_words names_of.flagged a h) ∙ side-flagged side names_of tells a

  is-named : (a : ℕ) → a < 128 → P a ≡ named a side
  is-named a h = sym (both_words names_of.named a h) ∙ side-named side names_of tells a

  is_plain : (a : ℕ) → plain names_of (turned_place a) ≡ P a && not (L a)
  unfolding plain without
  is_plain a = refl

  module _ (classes : List (List ℕ)) (count : ℕ) where
    abbrev Of : ℕ → List Attribute → Type 0
    Of c ts = Has values rows classes count c (srlgs ts)

    -- What an application gets, by how it is named.
    pub application-class : (a c : ℕ) → a < 128
        → (L a ≡ true → HasBits rows words classes count c (in_words (get_or rows 0 [])))
        → (L a ≡ false → P a ≡ true → HasBits rows words classes count c (in_named rows n (turned_place a)))
        → (L a ≡ false → P a ≡ false → HasBits rows words classes count c (in_words (get_or rows 1 [])))
        → Of c (application_set a side)
    unfolding application_set picked
    application-class a c h legacy own general = go (L a) refl (P a) refl
      where
        go : (l : Bool) → L a ≡ l → (p : Bool) → P a ≡ p → Of c (cond (named_with_l a side) side.legacy (cond (named a side) (of_live (names a) side) (general_set side)))
        go true e p f =
            let z : named_with_l a side ≡ true = sym (is-flagged a h) ∙ e in
            rw z (has-numbers rows words classes count c (in_words (get_or rows 0 [])) values (srlgs side.legacy) short (legacy e) (so.by_l a z))
        go false e true f =
            let z : named_with_l a side ≡ false = sym (is-flagged a h) ∙ e in
            let y : named a side ≡ true = sym (is-named a h) ∙ f in
            rw (z, y) (has-numbers rows words classes count c (in_named rows n (turned_place a)) values (srlgs (of_live (names a) side)) short (own e f) (so.naming a h))
        go false e false f =
            let z : named_with_l a side ≡ false = sym (is-flagged a h) ∙ e in
            let y : named a side ≡ false = sym (is-named a h) ∙ f in
            rw (z, y) (has-numbers rows words classes count c (in_words (get_or rows 1 [])) values (srlgs (general_set side)) short (general e f) so.general)

    pub general-class : (c : ℕ) → HasBits rows words classes count c (in_words (get_or rows 1 [])) → Of c (general_set side)
    unfolding picked
    general-class c has = has-numbers rows words classes count c (in_words (get_or rows 1 [])) values (srlgs (general_set side)) short has so.general

    -- What RSVP-TE gets.
    pub rsvp-legacy : (c : ℕ) → HasBits rows words classes count c (in_words (get_or rows 0 [])) → takes_general side ≡ false → (L 0 ≡ true) ⊎ (srlgs (of_live (names 0) side) ≡ []) → Of c (rsvp_te_kind 1096 side)
    unfolding rsvp_te_kind picked
    rsvp-legacy c has t (inl e) =
        let z : named_with_l 0 side ≡ true = sym (is-flagged 0 (omega arith)) ∙ e in
        rw (t, z) (has-numbers rows words classes count c (in_words (get_or rows 0 [])) values (srlgs side.legacy) short has (so.by_l 0 z))
    rsvp-legacy c has t (inr e) =
        rw (t, no_words (of_live (names 0) side) e, or-true (named_with_l 0 side)) (has-numbers rows words classes count c (in_words (get_or rows 0 [])) values (srlgs side.legacy) short has (so.bare e))

    pub rsvp-own : (c : ℕ) → HasBits rows words classes count c (in_named rows n (turned_place 0)) → takes_general side ≡ false → L 0 ≡ false → (srlgs (of_live (names 0) side) ≡ [] → ⊥) → Of c (rsvp_te_kind 1096 side)
    unfolding rsvp_te_kind
    rsvp-own c has t e some =
        let z : named_with_l 0 side ≡ false = sym (is-flagged 0 (omega arith)) ∙ e in
        rw (t, z, some_words (of_live (names 0) side) some) (has-numbers rows words classes count c (in_named rows n (turned_place 0)) values (srlgs (of_live (names 0) side)) short has (so.naming 0 (omega arith)))

    pub rsvp-general : (c : ℕ) → HasBits rows words classes count c (in_words (get_or rows 1 [])) → takes_general side ≡ true → Of c (rsvp_te_kind 1096 side)
    unfolding rsvp_te_kind
    rsvp-general c has t = rw t (general-class c has)

    -- Whether it takes the general ones, by whether it is named and whether legacy has a value.
    pub takes-by : (p x : Bool) → P 0 ≡ p → has_legacy side ≡ x → takes_general side ≡ not (p || x)
    unfolding takes_general
    takes-by p x f h = ap₂ (λ (y z : Bool). not (y || z)) (sym (is-named 0 (omega arith)) ∙ f) h

    pub flagged-named : L 0 ≡ true → P 0 ≡ true
    flagged-named e = go (P 0) refl
      where
        go : (b : Bool) → P 0 ≡ b → b ≡ true
        go true f = refl
        go false f = absurd (never side (sym (is-flagged 0 (omega arith)) ∙ e) (sym (is-named 0 (omega arith)) ∙ f))

-- ---- the classes, put together

class-of-at : (own : List (List ℕ)) (a : ℕ) → class_of own a ≡ class_at own (turned_place a)
unfolding class_of class_at
class-of-at own a = refl

nobody : (s u t v a : ℕ) → in_words (s ∷ u ∷ []) a ≡ true → in_words (t ∷ v ∷ []) a ≡ false → without s u t v a ≡ true
unfolding without
nobody s u t v a e f = rw (e, f)

no-values : (p : ℕ → Bool) (values : List ℕ) → length values ≤ 0 → keep_from p 0 values ≡ []
unfolding keep_from
no-values p [] h = refl
no-values p (v ∷ values) h = absurd (omega arith)

by_name : (a : ℕ) (side : Side) → (named_with_l a side ≡ true → [] ≡ srlgs side.legacy) → [] ≡ srlgs (of_live (names a) side) → [] ≡ srlgs (general_set side) → [] ≡ srlgs (application_set a side)
unfolding application_set
by_name a side l o g = go (named_with_l a side) refl (named a side)
  where
    go : (b : Bool) → named_with_l a side ≡ b → (p : Bool) → [] ≡ srlgs (cond b side.legacy (cond p (of_live (names a) side) (general_set side)))
    go true e p = l e
    go false e true = o
    go false e false = g

rsvp-bare : (side : Side) → srlgs (of_live (names 0) side) ≡ [] → [] ≡ srlgs side.legacy → [] ≡ srlgs (general_set side) → [] ≡ srlgs (rsvp_te_kind 1096 side)
unfolding rsvp_te_kind
rsvp-bare side e l g = rw (no_words (of_live (names 0) side) e, or-true (named_with_l 0 side)) (go (takes_general side))
  where
    go : (t : Bool) → [] ≡ srlgs (cond t (general_set side) side.legacy)
    go true = g
    go false = l

seven : turned_place 0 ≡ 7
unfolding turned_place
seven = refl

module _ (rows : List (List ℕ)) (n words : ℕ) (who : Applications) (names_of : Names) (c₁ h₁ : List (List ℕ)) (b₁ : List ℕ) (first : First) (own₀ own₁ : List (List ℕ)) (c₂ h₂ : List (List ℕ)) (b₂ : List ℕ) (own₂ : List (List ℕ)) (count : ℕ)
    (firsts : Firsts rows n words c₁ h₁ b₁ first) (given : FirstOwn who names_of first own₀ own₁) (own : NamedOwn rows n words names_of c₁ own₁ c₂ h₂ b₂ own₂ first.count count) where
  stays : (c : ℕ) (p : ℕ → Bool) → HasBits rows words c₁ first.count c p → HasBits rows words c₂ count c p
  stays c p so = record { low = omega (arith, so.low, own.more); bits = rw (own.kept c so.low) so.bits }

  general-bits : HasBits rows words c₂ count first.general (in_words (get_or rows 1 []))
  general-bits = stays first.general (in_words (get_or rows 1 [])) firsts.general

  legacy-bits : HasBits rows words c₂ count first.legacy (in_words (get_or rows 0 []))
  legacy-bits = stays first.legacy (in_words (get_or rows 0 [])) firsts.legacy

  module _ (values : List ℕ) (side : Side) (so : Sourced values rows n side) (tells : Tells side.live names_of) (x : Bool) (old : x ≡ has_legacy side) (short : length values ≤ 64 * words) (few : words ≤ 16) (in_rows : n ≤ length rows)
      (r : Classes) (is-general : r.general ≡ first.general) (is-rsvp : r.rsvp ≡ rsvp_class names_of x own₂ first) (is-count : r.count ≡ count) where
    abbrev LL : ℕ → Bool
    LL a = in_words (names_of.flagged.standard ∷ names_of.flagged.user ∷ []) (turned_place a)

    abbrev PP : ℕ → Bool
    PP a = in_words (names_of.named.standard ∷ names_of.named.user ∷ []) (turned_place a)

    table : Classed values rows c₂ count
    table = classed values rows n words c₂ h₂ b₂ count own.table so.ascends short few in_rows so.within

    application : (a : ℕ) → a < 128 → in_set who a ≡ true → Has values rows c₂ count (class_of own₂ a) (srlgs (application_set a side))
    application a h asked = application-class values rows n words side names_of so tells short c₂ count a (class_of own₂ a) h legacy mine general
      where
        at : ℕ
        at = turned_place a

        low : at < 128
        low = turned-low a h

        same_class : class_of own₂ a ≡ class_at own₂ at
        same_class = class-of-at own₂ a

        bits : (c : ℕ) (p : ℕ → Bool) → class_at own₂ at ≡ c → HasBits rows words c₂ count c p → HasBits rows words c₂ count (class_of own₂ a) p
        bits c p e has = rw (same_class ∙ e) has

        not_plain : (l p : Bool) → LL a ≡ l → PP a ≡ p → p && not l ≡ false → class_at own₂ at ≡ class_at own₁ at
        not_plain l p e f g = own.outside at low (is_plain values rows n words side names_of so tells short a ∙ ap₂ (λ (x y : Bool). x && not y) f e ∙ g)

        legacy : LL a ≡ true → HasBits rows words c₂ count (class_of own₂ a) (in_words (get_or rows 0 []))
        legacy e = bits first.legacy (in_words (get_or rows 0 [])) (not_plain true (PP a) e refl (and-false (PP a)) ∙ given.flagged at low e) legacy-bits

        mine : LL a ≡ false → PP a ≡ true → HasBits rows words c₂ count (class_of own₂ a) (in_named rows n at)
        mine e f = rw same_class (own.inside at low (is_plain values rows n words side names_of so tells short a ∙ ap₂ (λ (x y : Bool). x && not y) f e))

        general : LL a ≡ false → PP a ≡ false → HasBits rows words c₂ count (class_of own₂ a) (in_words (get_or rows 1 []))
        general e f =
            bits first.general (in_words (get_or rows 1 []))
            (not_plain false false e f refl ∙ given.others at low e (nobody who.standard who.user names_of.named.standard names_of.named.user at (sym (both_words who a h) ∙ asked) f))
            general-bits

    -- whether RSVP-TE takes the general ones
    takes : (p y : Bool) → PP 0 ≡ p → x ≡ y → takes_general side ≡ not (p || y)
    takes p y f g = takes-by values rows n words side names_of so tells short c₂ count p y f (sym old ∙ g)

    rsvp : (l p y : Bool) → LL 0 ≡ l → PP 0 ≡ p → x ≡ y
        → Has values rows c₂ count (class_by (rsvp_te_rule l p y) (class_at own₂ 7) first) (srlgs (rsvp_te_kind 1096 side))
    unfolding rsvp_te_rule
    rsvp true p y e f g =
        rsvp-legacy values rows n words side names_of so tells short c₂ count first.legacy legacy-bits
        (takes true y (flagged-named values rows n words side names_of so tells short c₂ count e) g) (inl e)
    rsvp false false true e f g =
        rsvp-legacy values rows n words side names_of so tells short c₂ count first.legacy legacy-bits (takes false true f g)
        (inr (not_named 0 side (sym (is-named values rows n words side names_of so tells short 0 (omega arith)) ∙ f)))
    rsvp false false false e f g = rsvp-general values rows n words side names_of so tells short c₂ count first.general general-bits (takes false false f g)
    rsvp false true y e f g = named-one (eqb (class_at own₂ 7) 0) refl
      where
        has : HasBits rows words c₂ count (class_at own₂ 7) (in_named rows n (turned_place 0))
        has =
            subst (λ (b : ℕ). HasBits rows words c₂ count (class_at own₂ b) (in_named rows n (turned_place 0))) seven
            (own.inside (turned_place 0) (turned-low 0 (omega arith)) (is_plain values rows n words side names_of so tells short 0 ∙ ap₂ (λ (x y : Bool). x && not y) f e))

        own-numbers : Has values rows c₂ count (class_at own₂ 7) (srlgs (of_live (names 0) side))
        own-numbers = has-numbers rows words c₂ count (class_at own₂ 7) (in_named rows n (turned_place 0)) values (srlgs (of_live (names 0) side)) short has (so.naming 0 (omega arith))

        named-one : (z : Bool) → eqb (class_at own₂ 7) 0 ≡ z → Has values rows c₂ count (cond z first.legacy (class_at own₂ 7)) (srlgs (rsvp_te_kind 1096 side))
        named-one true h =
            let q = eqb-true (class_at own₂ 7) 0 h in
            rsvp-legacy values rows n words side names_of so tells short c₂ count first.legacy legacy-bits (takes true y f g)
            (inr (sym own-numbers.numbers ∙ ap (λ (c : ℕ). class_numbers values rows (get_or c₂ c [])) q ∙ table.none.1))
        named-one false h =
            rsvp-own values rows n words side names_of so tells short c₂ count (class_at own₂ 7) has (takes true y f g) e
            (λ z. eqb-false (class_at own₂ 7) 0 h (table.different (class_at own₂ 7) 0 own-numbers.low table.none.0 (own-numbers.numbers ∙ z ∙ sym table.none.1)))

    pub settled : Classified values rows c₂ own₂ (in_set who) side r
    unfolding rsvp_class
    settled =
        rw is-count
        record {
          table = table;
          application = λ a p h asked. application a h asked;
          general = rw is-general (general-class values rows n words side names_of so tells short c₂ count first.general general-bits);
          rsvp = rw (is-rsvp, both_words names_of.flagged 0 (omega arith), both_words names_of.named 0 (omega arith)) (rsvp (LL 0) (PP 0) x refl refl refl);
        }

-- ---- without numbers

pub settled-none : (rows classes own : List (List ℕ)) (n : ℕ) (who : Applications) (names_of : Names) (r : Classes) (values : List ℕ) (side : Side) → length values ≤ 64 * 0 → 0 < length classes → ((a : ℕ) → a < 128 → class_at own a ≡ 0)
    → r.general ≡ 0 → r.rsvp ≡ 0 → r.count ≡ 1 → Sourced values rows n side → Tells side.live names_of → Classified values rows (set classes 0 none_row) own (in_set who) side r
unfolding picked keep_from
settled-none rows classes own n who names_of r values side short room none eg er ec so tells =
    rw ec
    record {
      table = classed-none values rows classes (omega arith) room;
      application = λ a p h asked. has-none values rows classes (class_of own a) (srlgs (application_set a side)) (class-of-at own a ∙ none (turned_place a) (turned-low a h)) room (applied a h);
      general = has-none values rows classes r.general (srlgs (general_set side)) eg room (sym (nothing (in_words (get_or rows 1 []))) ∙ so.general);
      rsvp = has-none values rows classes r.rsvp (srlgs (rsvp_te_kind 1096 side)) er room reserved;
    }
  where
    nothing : (p : ℕ → Bool) → keep_from p 0 values ≡ []
    nothing p = no-values p values (omega arith)

    no_own : (a : ℕ) → a < 128 → [] ≡ srlgs (of_live (names a) side)
    no_own a h = sym (nothing (in_named rows n (turned_place a))) ∙ so.naming a h

    applied : (a : ℕ) → a < 128 → [] ≡ srlgs (application_set a side)
    applied a h = by_name a side (λ e. sym (nothing (in_words (get_or rows 0 []))) ∙ so.by_l a e) (no_own a h) (sym (nothing (in_words (get_or rows 1 []))) ∙ so.general)

    reserved : [] ≡ srlgs (rsvp_te_kind 1096 side)
    reserved =
        rsvp-bare side (sym (no_own 0 (omega arith))) (sym (nothing (in_words (get_or rows 0 []))) ∙ so.bare (sym (no_own 0 (omega arith))))
        (sym (nothing (in_words (get_or rows 1 []))) ∙ so.general)
