-- E9 over any two sides whose advertisements differ only in what b alone is given: whoever is not b gets the same of every kind, and the link's bandwidths stay.
-- Assumes nothing.
use mathlib.Core.Path.{◌≡◌, refl, sym, ap, ap₂, ◌∙◌, subst}
use mathlib.Core.Bool.{Bool, true, false, cond, ◌&&◌, ◌||◌, not}
use mathlib.Core.List.{List, [], ◌∷◌, ◌++◌, Memᴰ}
use Prim.Native.Nat.{ℕ}
use borrow.Author.Tests.{eqb-true, not-true}
use lib.Dec.{eqb}
use Rattle.linkstate.specs.Lists.{keep, any, all, each, empty, member}
use Rattle.linkstate.specs.Bytes.{words, distinct, bytes_of_words}
use Rattle.linkstate.specs.Kinds.{application_codes}
use Rattle.linkstate.specs.Attributes.{Attribute, of_kind, srlgs, first_value, value_of}
use Rattle.linkstate.specs.Sides.{Advertisement, Side, general, names, named, named_with_l, of_live, general_set, application_set, has_legacy, takes_general, rsvp_te_kind, rsvp_te_alone, maximum_bandwidth, reservable_bandwidth, bandwidth_kind}
use Rattle.linkstate.proofs.ListLaws.{keep_append, all-mem}
use Rattle.linkstate.proofs.Computing.{computing}
use Rattle.rivals.proofs.Shortest.{not-general}
use Rattle.demands.specs.Isolation.{Pairwise, none, more, NamesAlone}

-- ---- kinds

-- No kind has code 0.
no_zero : all (λ k. not (eqb k 0)) application_codes ≡ true
unfolding computing
no_zero = refl

pub not-zero : {k : ℕ} → Memᴰ k application_codes → eqb k 0 ≡ false
not-zero {k} m = not-true (eqb k 0) (all-mem (λ k. not (eqb k 0)) application_codes no_zero m)

pub kind-append : (k : ℕ) (ts us : List Attribute) → of_kind k (ts ++ us) ≡ of_kind k ts ++ of_kind k us
unfolding of_kind
kind-append k ts us = keep_append (λ t. eqb k t.code) ts us

-- Parts that are the same of a kind are so together.
pub kind-joined : (k : ℕ) (ts us xs ys : List Attribute) → of_kind k ts ≡ of_kind k us → of_kind k xs ≡ of_kind k ys → of_kind k (ts ++ xs) ≡ of_kind k (us ++ ys)
kind-joined k ts us xs ys h i = kind-append k ts xs ∙ ap₂ ◌++◌ h i ∙ sym (kind-append k us ys)

-- A value is told by the attributes of its kind.
pub value_same : (k : ℕ) (ts us : List Attribute) → of_kind k ts ≡ of_kind k us → value_of k ts ≡ value_of k us
unfolding value_of srlgs
value_same k ts us h = go (eqb k 1096) refl
  where
    numbers : List Attribute → List ℕ
    numbers xs = bytes_of_words (distinct (each (λ t. words t.value) xs))

    go : (c : Bool) → eqb k 1096 ≡ c → cond c (numbers (of_kind 1096 ts)) (first_value (of_kind k ts)) ≡ cond c (numbers (of_kind 1096 us)) (first_value (of_kind k us))
    go true e = ap numbers (subst (λ (x : ℕ). of_kind x ts ≡ of_kind x us) (eqb-true k 1096 e) h)
    go false e = ap first_value h

any-ext : {A : Type 0} (p q : A → Bool) (xs : List A) → ((x : A) → Memᴰ x xs → p x ≡ q x) → any p xs ≡ any q xs
unfolding any
any-ext p q [] h = refl
any-ext p q (x ∷ xs) h = ap₂ ◌||◌ (h x (Memᴰ.head refl)) (any-ext p q xs (λ y i. h y (Memᴰ.tail i)))

-- ---- advertisements

-- An advertisement of an L-flag, two masks and attributes.
abbrev pub with : Bool → List ℕ → List ℕ → List Attribute → Advertisement
with l s u ts = record { L = l; standard_mask = s; user_mask = u; attributes = ts }

-- Attributes that are the same but for the applications' kinds.
abbrev pub SameOthers : List Attribute → List Attribute → Type 0
SameOthers ts us = (k : ℕ) → member k application_codes ≡ false → of_kind k ts ≡ of_kind k us

-- Two advertisements: the same, or of the same L-flag and masks, which name b alone.
pub data Altered (b : ℕ) : Advertisement → Advertisement → Type 0 where
  unaltered : (d : Advertisement) → Altered b d d
  altered : (l : Bool) (s u : List ℕ) (ts us : List Attribute) → NamesAlone b (with l s u []) → SameOthers ts us → Altered b (with l s u ts) (with l s u us)

-- A test that asks an advertisement for its L-flag and masks alone.
abbrev OfMasks : (Advertisement → Bool) → Type 0
OfMasks p = (l : Bool) (s u : List ℕ) (ts us : List Attribute) → p (with l s u ts) ≡ p (with l s u us)

-- The attributes of those that pass a test.
chosen : (Advertisement → Bool) → List Advertisement → List Attribute
chosen p ds = each (λ d. d.attributes) (keep p ds)

chosen_more : (p : Advertisement → Bool) (d : Advertisement) (ds : List Advertisement) → chosen p (d ∷ ds) ≡ cond (p d) (d.attributes ++ chosen p ds) (chosen p ds)
unfolding chosen each keep
chosen_more p d ds = go (p d)
  where
    go : (c : Bool) → each (λ d. d.attributes) (cond c (d ∷ keep p ds) (keep p ds)) ≡ cond c (d.attributes ++ each (λ d. d.attributes) (keep p ds)) (each (λ d. d.attributes) (keep p ds))
    go true = refl
    go false = refl

module _ (b : ℕ) (p : Advertisement → Bool) (f : OfMasks p) where
  any_same : (ds es : List Advertisement) → Pairwise (Altered b) ds es → any p ds ≡ any p es
  unfolding any
  any_same [] [] none = refl
  any_same [] (e ∷ es) q = elim q [ ]
  any_same (d ∷ ds) [] q = elim q [ ]
  any_same (d ∷ ds) (e ∷ es) (more h r) = ap₂ ◌||◌ (one d e h) (any_same ds es r)
    where
      one : (d e : Advertisement) → Altered b d e → p d ≡ p e
      one d e (unaltered x) = refl
      one d e (altered l s u ts us n o) = f l s u ts us

  -- A test that b's own do not pass chooses the same attributes;
  chosen-same : ((l : Bool) (s u : List ℕ) (ts : List Attribute) → NamesAlone b (with l s u []) → p (with l s u ts) ≡ false)
      → (ds es : List Advertisement) → Pairwise (Altered b) ds es → chosen p ds ≡ chosen p es
  unfolding chosen each keep
  chosen-same g [] [] none = refl
  chosen-same g [] (e ∷ es) q = elim q [ ]
  chosen-same g (d ∷ ds) [] q = elim q [ ]
  chosen-same g (d ∷ ds) (e ∷ es) (more h r) = chosen_more p d ds ∙ go d e h (chosen-same g ds es r) ∙ sym (chosen_more p e es)
    where
      go : (d e : Advertisement) → Altered b d e → chosen p ds ≡ chosen p es
          → cond (p d) (d.attributes ++ chosen p ds) (chosen p ds) ≡ cond (p e) (e.attributes ++ chosen p es) (chosen p es)
      go d e (unaltered x) i = ap (λ (ts : List Attribute). cond (p x) (x.attributes ++ ts) ts) i
      go d e (altered l s u ts us n o) i = rw (g l s u ts n, g l s u us n) i

  -- any such test chooses the same but for the applications' kinds.
  others_same : (k : ℕ) → member k application_codes ≡ false → (ds es : List Advertisement) → Pairwise (Altered b) ds es → of_kind k (chosen p ds) ≡ of_kind k (chosen p es)
  unfolding chosen each keep
  others_same k m [] [] none = refl
  others_same k m [] (e ∷ es) q = elim q [ ]
  others_same k m (d ∷ ds) [] q = elim q [ ]
  others_same k m (d ∷ ds) (e ∷ es) (more h r) = ap (of_kind k) (chosen_more p d ds) ∙ go d e h (others_same k m ds es r) ∙ ap (of_kind k) (sym (chosen_more p e es))
    where
      by : (c : Bool) (ts us : List Attribute) → of_kind k ts ≡ of_kind k us → of_kind k (chosen p ds) ≡ of_kind k (chosen p es)
          → of_kind k (cond c (ts ++ chosen p ds) (chosen p ds)) ≡ of_kind k (cond c (us ++ chosen p es) (chosen p es))
      by true ts us h i = kind-joined k ts us (chosen p ds) (chosen p es) h i
      by false ts us h i = i

      go : (d e : Advertisement) → Altered b d e → of_kind k (chosen p ds) ≡ of_kind k (chosen p es)
          → of_kind k (cond (p d) (d.attributes ++ chosen p ds) (chosen p ds)) ≡ of_kind k (cond (p e) (e.attributes ++ chosen p es) (chosen p es))
      go d e (unaltered x) i = by (p x) x.attributes x.attributes refl i
      go d e (altered l s u ts us n o) i = rw (f l s u us ts) (by (p (with l s u ts)) ts us (o k m) i)

-- ---- sides

-- Two sides: legacy attributes that are the same of every kind, and advertisements that differ only in what b alone is given.
pub record AlikeBut (b : ℕ) (s t : Side) : Type 0 where
  pub legacy : (k : ℕ) → eqb k 0 ≡ false → of_kind k s.legacy ≡ of_kind k t.legacy
  pub live : Pairwise (Altered b) s.live t.live

kind-cond : (k : ℕ) (c : Bool) (ts us xs ys : List Attribute) → of_kind k ts ≡ of_kind k us → of_kind k xs ≡ of_kind k ys → of_kind k (cond c ts xs) ≡ of_kind k (cond c us ys)
kind-cond k true ts us xs ys h i = h
kind-cond k false ts us xs ys h i = i

module _ (b : ℕ) (s t : Side) (alike : AlikeBut b s t) where
  pub named-same : (n : ℕ) → named n s ≡ named n t
  unfolding named names
  named-same n = any_same b (names n) (λ l x u ts us. refl) s.live t.live alike.live

  flagged-same : (n : ℕ) → named_with_l n s ≡ named_with_l n t
  unfolding named_with_l names
  flagged-same n = any_same b (λ d. d.L && names n d) (λ l x u ts us. refl) s.live t.live alike.live

  naming-same : (n : ℕ) → (n ≡ b → ⊥) → of_live (names n) s ≡ of_live (names n) t
  unfolding of_live chosen names
  naming-same n other = chosen-same b (names n) (λ l x u ts us. refl) (λ l x u ts a. go l x u ts a (names n (with l x u ts)) refl) s.live t.live alike.live
    where
      go : (l : Bool) (x u : List ℕ) (ts : List Attribute) → NamesAlone b (with l x u []) → (c : Bool) → names n (with l x u ts) ≡ c → c ≡ false
      go l x u ts a true e = absurd (other (a.alone n e))
      go l x u ts a false e = refl

  pub general-same : general_set s ≡ general_set t
  unfolding general_set of_live chosen general names
  general-same =
      chosen-same b general (λ l x u ts us. refl) (λ l x u ts a. not-general (with l x u ts) b a.named) s.live t.live alike.live

  module _ (k : ℕ) (known : eqb k 0 ≡ false) where
    pub application-same : (n : ℕ) → (n ≡ b → ⊥) → of_kind k (application_set n s) ≡ of_kind k (application_set n t)
    unfolding application_set
    application-same n other =
        rw (flagged-same n, named-same n, naming-same n other, general-same) (kind-cond k (named_with_l n t) _ _ _ _ (alike.legacy k known) refl)

    takes_same : takes_general s ≡ takes_general t
    unfolding takes_general has_legacy
    takes_same =
        rw (
          named-same 0,
          any-ext (λ k. not (empty (value_of k s.legacy))) (λ k. not (empty (value_of k t.legacy))) application_codes
              (λ c m. ap (λ (v : List ℕ). not (empty v)) (value_same c s.legacy t.legacy (alike.legacy c (not-zero m)))),
        )

    pub rsvp_te-same : (b ≡ 0 → ⊥) → of_kind k (rsvp_te_kind k s) ≡ of_kind k (rsvp_te_kind k t)
    unfolding rsvp_te_kind
    rsvp_te-same other =
        rw (takes_same, general-same, flagged-same 0, naming-same 0 (λ e. other (sym e)))
        (kind-cond k (takes_general t) _ _ _ _ refl (kind-cond k (named_with_l 0 t || empty (value_of k (of_live (names 0) t))) _ _ _ _ (alike.legacy k known) refl))

    pub bandwidth-same : member k application_codes ≡ false → of_kind k (bandwidth_kind k s) ≡ of_kind k (bandwidth_kind k t)
    unfolding bandwidth_kind maximum_bandwidth reservable_bandwidth of_live chosen rsvp_te_alone names
    bandwidth-same m =
        let old = alike.legacy k known in
        let read = others_same b (λ d. not d.L) (λ l x u ts us. refl) k m s.live t.live alike.live in
        let own = others_same b rsvp_te_alone (λ l x u ts us. refl) k m s.live t.live alike.live in
        rw (flagged-same 0)
        (kind-cond k (eqb k 1089) _ _ _ _ (kind-joined k _ _ _ _ old read) (kind-cond k (named_with_l 0 t) _ _ _ _ old (kind-joined k _ _ _ _ own old)))
