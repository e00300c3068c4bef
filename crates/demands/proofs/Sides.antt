-- Who gets what, over any side. An application's set depends only on the legacy attributes and on the advertisements that name it, if any does;
-- one L-flag among these, wherever it stands, gives legacy; general advertisements name nobody and serve only those whom none names. Assumes nothing.
use mathlib.Core.Path.{◌≡◌, refl, sym, ap, ap₂, ◌∙◌}
use mathlib.Core.Bool.{Bool, true, false, cond, ◌&&◌, ◌||◌, not, false≢true}
use mathlib.Core.List.{List, ◌++◌, Memᴰ}
use Prim.Native.Nat.{ℕ}
use lib.Dec.{eqb}
use Rattle.linkstate.specs.Lists.{keep, any, each, empty}
use Rattle.linkstate.specs.Attributes.{Attribute, value_of}
use Rattle.linkstate.specs.Sides.{Advertisement, Side, general, names, named, named_with_l, of_live, general_set, application_set, takes_general, rsvp_te_kind, rsvp_te_alone, maximum_bandwidth, reservable_bandwidth, bandwidth_kind}
use Rattle.linkstate.proofs.ListLaws.{and-false, mem-any, any-no, keep-mem}
use Rattle.rivals.proofs.Shortest.{not-general}
use Rattle.demands.proofs.MoreLists.{of-cond, any_false, any-kept, keep-kept}

-- ---- what every set has

-- What the legacy attributes have, and the live ones however they are chosen, every set of the side has.
module _ (Q : List Attribute → Type 0) (s : Side) (legacy : Q s.legacy) (live : (p : Advertisement → Bool) → Q (of_live p s)) where
  pub general-has : Q (general_set s)
  unfolding general_set
  general-has = live general

  pub application-has : (a : ℕ) → Q (application_set a s)
  unfolding application_set
  application-has a = of-cond Q (named_with_l a s) _ _ legacy (of-cond Q (named a s) _ _ (live (names a)) general-has)

  pub rsvp_te-has : (k : ℕ) → Q (rsvp_te_kind k s)
  unfolding rsvp_te_kind
  rsvp_te-has k =
      of-cond Q (takes_general s) _ _ general-has (of-cond Q (named_with_l 0 s || empty (value_of k (of_live (names 0) s))) _ _ legacy (live (names 0)))

  pub bandwidth-has : ((ts us : List Attribute) → Q ts → Q us → Q (ts ++ us)) → (k : ℕ) → Q (bandwidth_kind k s)
  unfolding bandwidth_kind maximum_bandwidth reservable_bandwidth
  bandwidth-has join k =
      of-cond Q (eqb k 1089) _ _ (join _ _ legacy (live (λ d. not d.L)))
      (of-cond Q (named_with_l 0 s) _ _ legacy (join _ _ (live rsvp_te_alone) legacy))

-- ---- who is named

-- Whoever is named with L is named.
named-by-L : (a : ℕ) (s : Side) → named a s ≡ false → named_with_l a s ≡ false
unfolding named named_with_l
named-by-L a s h = any-no (λ d. d.L && names a d) s.live (λ d i. rw (any_false (names a) s.live h i) (and-false d.L))

-- A general advertisement names nobody.
pub general-names-nobody : (a : ℕ) (d : Advertisement) → general d ≡ true → names a d ≡ false
general-names-nobody a d h = go (names a d) refl
  where
    go : (b : Bool) → names a d ≡ b → b ≡ false
    go true e = absurd (false≢true (sym (not-general d a e) ∙ h))
    go false e = refl

-- ---- what an application gets

-- Rules 1 and 2: what a named application gets, by the advertisements that name it.
by_naming : List Attribute → List Advertisement → List Attribute
by_naming legacy ds = cond (any (λ d. d.L) ds) legacy (each (λ d. d.attributes) ds)

named-gets : (a : ℕ) (s : Side) → named a s ≡ true → application_set a s ≡ by_naming s.legacy (keep (names a) s.live)
unfolding application_set named_with_l of_live by_naming
named-gets a s n = rw (n, any-kept (λ d. d.L) (names a) s.live)

-- The advertisements that do not name a named application play no part in its set.
pub only-naming-count : (a : ℕ) (s t : Side) → s.legacy ≡ t.legacy → keep (names a) s.live ≡ keep (names a) t.live → named a s ≡ true
    → application_set a s ≡ application_set a t
unfolding named
only-naming-count a s t l k n = named-gets a s n ∙ ap₂ by_naming l k ∙ sym (named-gets a t also)
  where
    also : any (names a) t.live ≡ true
    also = any-kept (λ d. true) (names a) t.live ∙ ap (any (λ d. true)) (sym k) ∙ sym (any-kept (λ d. true) (names a) s.live) ∙ n

-- So the general ones can be left out.
pub general-left-out : (a : ℕ) (s : Side) → named a s ≡ true
    → application_set a s ≡ application_set a (record { legacy = s.legacy; live = keep (λ d. not (general d)) s.live })
general-left-out a s n = only-naming-count a s _ refl (sym (keep-kept (names a) (λ d. not (general d)) s.live (λ d h. go d (general d) refl h))) n
  where
    go : (d : Advertisement) (b : Bool) → general d ≡ b → names a d ≡ true → not b ≡ true
    go d true e h = absurd (false≢true (sym (general-names-nobody a d e) ∙ h))
    go d false e h = refl

-- One advertisement that names it with L, wherever it stands, gives exactly the legacy attributes.
pub L-gives-legacy : (a : ℕ) (s : Side) (d : Advertisement) → Memᴰ d s.live → d.L ≡ true → names a d ≡ true → application_set a s ≡ s.legacy
unfolding application_set named_with_l
L-gives-legacy a s d i l n = rw (mem-any (λ e. e.L && names a e) s.live i (ap₂ ◌&&◌ l n))

-- Named, and never with L: exactly the attributes of those that name it.
pub named-without-L : (a : ℕ) (s : Side) → named a s ≡ true → ((d : Advertisement) → Memᴰ d s.live → names a d ≡ true → d.L ≡ false)
    → application_set a s ≡ of_live (names a) s
unfolding by_naming of_live
named-without-L a s n h =
    named-gets a s n ∙ rw (any-no (λ d. d.L) (keep (names a) s.live) (λ d i. let q = keep-mem (names a) s.live i in h d q.1 q.0))

-- Rule 3: nobody names it.
pub unnamed-gets-general : (a : ℕ) (s : Side) → named a s ≡ false → application_set a s ≡ general_set s
unfolding application_set
unnamed-gets-general a s n = rw (named-by-L a s n, n)
