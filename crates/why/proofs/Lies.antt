-- Two theorems on what is told. The value that a question finds among those that pass a test lies in the advertisement that is told (`lies`).
-- RSVP-TE's rule is the one that gives it its set (`rsvp-te-agrees`). Assumes nothing.
use mathlib.Core.Path.{◌≡◌, refl, sym, ap, ◌∙◌, subst}
use mathlib.Core.Bool.{Bool, true, false, cond, ◌&&◌, ◌||◌, not, false≢true}
use mathlib.Core.List.{List, [], ◌∷◌, ◌++◌, Memᴰ}
use Prim.Native.Nat.{ℕ}
use native.Mathlib.Omega.{arith}
use borrow.Author.Tests.{eqb-true, ne_eqb}
use lib.Dec.{eqb}
use Rattle.std.specs.Prelude.{is_none}
use Rattle.octets.specs.Spans.{found_in}
use Rattle.linkstate.specs.Lists.{keep, any, each, empty, lookup}
use Rattle.linkstate.specs.Replies.{Place, accepted}
use Rattle.linkstate.specs.Bytes.{bytes_of_words, four}
use Rattle.linkstate.specs.Kinds.{is_code}
use Rattle.linkstate.specs.Elements.{Element}
use Rattle.linkstate.specs.Attributes.{Attribute, of_kind, srlgs, value_of}
use Rattle.linkstate.specs.Sides.{Advertisement, Side, names, named_with_l, of_live, general_set, takes_general, rsvp_te_kind}
use Rattle.linkstate.specs.Why.{Holder, held_at, nowhere, Standing, offset_of, first, has, holder}
use Rattle.linkstate.proofs.ListLaws.{keep-mem, each-mem, keep_append, each_append, empty-nil}
use Rattle.isis.specs.RunA.{side_a}
use Rattle.isis.specs.Link.{link_verdict, side_of}
use Rattle.isis.proofs.TypeLaws.{none-wrong}
use Rattle.isis_grids.specs.declared.Which.TheVariants.{Naming}
use Rattle.isis_grids.specs.Selected.{selects}
use Rattle.isis_grids.proofs.Grids.{All}
use Rattle.isis_grids.proofs.Places.{Stands, value_none, live-stands}
use Rattle.isis_link.proofs.Checks.{a-passed}
use Rattle.why.proofs.Has.{has-live}
use Rattle.why.proofs.First.{Tied, holder-other}

-- ---- the value

-- An attribute of an advertisement that passes, in the element that is told.
pub record Lies (s : Standing) (p : Advertisement → Bool) (t : Attribute) (told : Place) (es : List Element) : Type 0 where
  pub holds : Element
  pub there : Memᴰ holds es
  pub offset : told ≡ s.spot (offset_of holds)
  pub advertised : Advertisement
  pub live : Memᴰ advertised (s.live holds)
  pub passes : p advertised ≡ true
  pub value : Memᴰ t advertised.attributes

module _ (s : Standing) (k : ℕ) (other : k ≡ 1096 → ⊥) (p : Advertisement → Bool) (t : Attribute) (told : Place) where
  abbrev of_all : List Advertisement → List Attribute
  of_all ds = of_kind k (each (λ d. d.attributes) (keep p ds))

  abbrev both : Advertisement → Bool
  both d = p d && has k d.attributes

  none-there : (ds : List Advertisement) → any both ds ≡ false → of_all ds ≡ []
  unfolding has
  none-there ds h =
      empty-nil (of_all ds) (twice (empty (of_all ds)) (rw (ne_eqb k 1096 other) at (has-live k p ds ∙ h)))
    where
      twice : (b : Bool) → not b ≡ false → b ≡ true
      twice true e = refl
      twice false e = sym e

  append : (ds es : List Advertisement) → of_all (ds ++ es) ≡ of_all ds ++ of_all es
  unfolding of_kind
  append ds es =
      ap (λ (l : List Advertisement). of_kind k (each (λ d. d.attributes) l)) (keep_append p ds es) ∙ ap (of_kind k)
      (each_append (λ d. d.attributes) (keep p ds) (keep p es))
      ∙ keep_append (λ t. eqb k t.code) (each (λ d. d.attributes) (keep p ds)) (each (λ d. d.attributes) (keep p es))

  -- the first attribute of the kind, where an advertisement passes and has it
  head_in : (ds : List Advertisement) (us ts : List Attribute) → any both ds ≡ true → of_all ds ++ us ≡ t ∷ ts
      → (d : Advertisement) × Memᴰ d ds × (p d ≡ true) × Memᴰ t d.attributes
  unfolding has of_kind empty
  head_in ds us ts h e = from (go (of_all ds) refl (rw (ne_eqb k 1096 other) at (has-live k p ds ∙ h)) e)
    where
      go : (l : List Attribute) → of_all ds ≡ l → not (empty l) ≡ true → l ++ us ≡ t ∷ ts → Memᴰ t (of_all ds)
      go [] i n f = absurd (false≢true n)
      go (x ∷ l) i n f = let q : t ≡ x = cc in subst (Memᴰ t) (sym i) (Memᴰ.head q)

      from : Memᴰ t (of_all ds) → (d : Advertisement) × Memᴰ d ds × (p d ≡ true) × Memᴰ t d.attributes
      from m =
          let q = each-mem (λ d. d.attributes) (keep p ds) (keep-mem (λ u. eqb k u.code) (each (λ d. d.attributes) (keep p ds)) m).1 in
          let r = keep-mem p ds q.1 in
          (q.0, r.1, r.0, q.2)

  abbrev found : List Element → Holder
  found es = lookup (λ e. any both (s.live e)) (λ e. held_at (s.spot (offset_of e))) nowhere es

  lies_in : (es : List Element) (ts : List Attribute) → found es ≡ held_at told → of_all (each s.live es) ≡ t ∷ ts → Lies s p t told es
  unfolding lookup each
  lies_in [] ts h e = absurd (let z : ◌≡◌ {A = ℕ} 0 1 = cc in omega arith)
  lies_in (x ∷ es) ts h e = go (any both (s.live x)) refl h (λ i j. lies_in es ts i j)
    where
      go : (b : Bool) → any both (s.live x) ≡ b → cond b (held_at (s.spot (offset_of x))) (found es) ≡ held_at told
          → (found es ≡ held_at told → of_all (each s.live es) ≡ t ∷ ts → Lies s p t told es) → Lies s p t told (x ∷ es)
      go true i f r =
          let q = head_in (s.live x) (of_all (each s.live es)) ts i (sym (append (s.live x) (each s.live es)) ∙ e) in
          record { holds = x; there = Memᴰ.head refl; offset = cc; advertised = q.0; live = q.1; passes = q.2; value = q.3 }
      go false i f r =
          let q = r f (ap (λ (l : List Attribute). l ++ of_all (each s.live es)) (sym (none-there (s.live x) i)) ∙ sym
          (append (s.live x) (each s.live es)) ∙ e) in
          record {
            holds = q.holds;
            there = Memᴰ.tail
                q.there;
            offset = q.offset;
            advertised = q.advertised;
            live = q.live;
            passes = q.passes;
            value = q.value;
          }

  pub lies : Tied s → (ts : List Attribute) → holder s k p ≡ held_at told → of_kind k (of_live p s.side) ≡ t ∷ ts → Lies s p t told s.elements
  unfolding first of_live
  lies tied ts h e = lies_in s.elements ts (holder-other s tied k p other ∙ h) (ap of_all (sym tied) ∙ e)

-- ---- RSVP-TE

-- Of kinds in run A: no value of an accepted run is empty.
same-a : (a : List ℕ) (k : ℕ) (ts : List Attribute) → All (Stands a) ts → is_code k ≡ true → eqb k 1096 ≡ false → empty (value_of k ts) ≡ not (has k ts)
unfolding has found_in empty
same-a a k ts st known n = value_none a k ts n (none-wrong k known n) st ∙ rw n (go (of_kind k ts))
  where
    go : (l : List Attribute) → is_none (found_in l) ≡ not (not (empty l))
    go [] = refl
    go (t ∷ l) = refl

-- Of SRLG: numbers have bytes.
same-b : (ts : List Attribute) → empty (value_of 1096 ts) ≡ not (has 1096 ts)
unfolding has value_of empty bytes_of_words each four
same-b ts = go (srlgs ts)
  where
    go : (ws : List ℕ) → empty (bytes_of_words ws) ≡ not (not (empty ws))
    go [] = refl
    go (w ∷ ws) = refl

pub rsvp-te-agrees : (a b c : List ℕ) (k : ℕ) → link_verdict a b c ≡ accepted → is_code k ≡ true
    → (s : Side) → s ≡ side_of a b c k
    → rsvp_te_kind k s ≡ cond (takes_general s) (general_set s) (cond (named_with_l 0 s || not (has k (of_live (names 0) s))) s.legacy (of_live (names 0) s))
unfolding rsvp_te_kind side_of selects
rsvp-te-agrees a b c k ok known s e =
    ap (λ (x : Bool). cond (takes_general s) (general_set s) (cond (named_with_l 0 s || x) s.legacy (of_live (names 0) s))) (go (eqb k 1096) refl)
  where
    go : (x : Bool) → eqb k 1096 ≡ x → empty (value_of k (of_live (names 0) s)) ≡ not (has k (of_live (names 0) s))
    go true i =
        subst (λ (n : ℕ). empty (value_of n (of_live (names 0) s)) ≡ not (has n (of_live (names 0) s))) (sym (eqb-true k 1096 i)) (same-b (of_live (names 0) s))
    go false i =
        let q : side_a a ≡ s = sym (e ∙ rw i) in
        same-a a k (of_live (names 0) s) (subst (λ (r : Side). All (Stands a) (of_live (names 0) r)) q (live-stands a (a-passed a b c ok) (Naming 0))) known i
