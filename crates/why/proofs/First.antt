-- The first advertisement that passes a test: when there is one, and where it holds a value. Assumes nothing.
use mathlib.Core.Path.{◌≡◌, refl, sym, ap, ◌∙◌}
use mathlib.Core.Bool.{Bool, true, false, cond, ◌&&◌, ◌||◌}
use mathlib.Core.List.{List, [], ◌∷◌}
use Prim.Native.Nat.{ℕ}
use borrow.Author.Tests.{eq-eqb, ne_eqb}
use lib.Dec.{eqb}
use Rattle.linkstate.specs.Lists.{any, each, lookup}
use Rattle.linkstate.specs.Elements.{Element}
use Rattle.linkstate.specs.Sides.{Advertisement, of_live}
use Rattle.linkstate.specs.Why.{Holder, held_at, nowhere, Standing, offset_of, first, has, holder}
use Rattle.linkstate.proofs.ListLaws.{and_l}
use Rattle.why.specs.Runs.{is_held}
use Rattle.why.proofs.Has.{any_same, any-more, any-each, and-true, has-live}

-- What a search answers is an advertisement or nothing.
held_any : (p : Element → Bool) (f : Element → Holder) → ((e : Element) → is_held (f e) ≡ true) → (es : List Element)
    → is_held (lookup p f nowhere es) ≡ any p es
unfolding lookup any is_held
held_any p f h [] = refl
held_any p f h (e ∷ es) = go (p e) (held_any p f h es)
  where
    go : (b : Bool) → is_held (lookup p f nowhere es) ≡ any p es → is_held (cond b (f e) (lookup p f nowhere es)) ≡ b || any p es
    go true g = h e
    go false g = g

none_any : (p : Element → Bool) (f : Element → Holder) (es : List Element) → any p es ≡ false → lookup p f nowhere es ≡ nowhere
unfolding lookup any
none_any p f [] h = refl
none_any p f (e ∷ es) h = go (p e) h (none_any p f es)
  where
    go : (b : Bool) → (b || any p es) ≡ false → (any p es ≡ false → lookup p f nowhere es ≡ nowhere) → cond b (f e) (lookup p f nowhere es) ≡ nowhere
    go true g r = cc
    go false g r = r g

pub lookup-same : {A B : Type 0} (p q : A → Bool) (f : A → B) (o : B) → ((x : A) → p x ≡ q x) → (xs : List A) → lookup p f o xs ≡ lookup q f o xs
unfolding lookup
lookup-same p q f o h [] = refl
lookup-same p q f o h (x ∷ xs) = rw (h x, lookup-same p q f o h xs)

-- A side's live advertisements are those of its elements.
abbrev pub Tied : Standing → Type 0
Tied s = s.side.live ≡ each s.live s.elements

module _ (s : Standing) where
  pub first-same : (p q : Advertisement → Bool) → ((d : Advertisement) → p d ≡ q d) → first s p ≡ first s q
  unfolding first
  first-same p q h =
      lookup-same (λ e. any p (s.live e)) (λ e. any q (s.live e)) (λ e. held_at (s.spot (offset_of e))) nowhere (λ e. any_same p q h (s.live e))
      s.elements

  module _ (tied : Tied s) (p : Advertisement → Bool) where
    pub first-held : is_held (first s p) ≡ any p s.side.live
    unfolding first is_held
    first-held =
        held_any (λ e. any p (s.live e)) (λ e. held_at (s.spot (offset_of e))) (λ e. refl) s.elements ∙ any-each p s.live s.elements ∙ ap
        (any p) (sym tied)

    pub first-none : is_held (first s p) ≡ false → first s p ≡ nowhere
    unfolding first
    first-none h =
        none_any (λ e. any p (s.live e)) (λ e. held_at (s.spot (offset_of e))) s.elements
        (any-each p s.live s.elements ∙ ap (any p) (sym tied) ∙ sym first-held ∙ h)

  -- The one that holds the value, from the first that passes and has the kind.
  module _ (tied : Tied s) (k : ℕ) (p : Advertisement → Bool) where
    abbrev both : Advertisement → Bool
    both d = p d && has k d.attributes

    pub both-held : is_held (first s both) ≡ has k (of_live p s.side)
    unfolding of_live
    both-held = first-held tied both ∙ sym (has-live k p s.side.live)

    pub holder-other : (k ≡ 1096 → ⊥) → first s both ≡ holder s k p
    unfolding holder
    holder-other n = rw (ne_eqb k 1096 n) (go (has k (of_live p s.side)) refl)
      where
        go : (b : Bool) → has k (of_live p s.side) ≡ b → first s both ≡ cond b (first s both) nowhere
        go true e = refl
        go false e = first-none tied both (both-held ∙ e)

    pub holder-none : is_held (first s both) ≡ false → first s both ≡ holder s k p
    unfolding holder
    holder-none h = let n = sym both-held ∙ h in rw n (first-none tied both h)

    pub holder-srlg : k ≡ 1096 → is_held (first s both) ≡ true → first s p ≡ holder s k p
    unfolding holder
    holder-srlg e h = let n = sym both-held ∙ h in rw (n, eq-eqb k 1096 e) (first-same p (λ d. p d && true) (λ d. sym (and-true (p d))))

    -- and when there is one
    pub holder-held : is_held (holder s k p) ≡ has k (of_live p s.side)
    unfolding holder is_held
    holder-held = go (eqb k 1096) refl (has k (of_live p s.side)) refl
      where
        go : (c : Bool) → eqb k 1096 ≡ c → (b : Bool) → has k (of_live p s.side) ≡ b
            → is_held (cond b (first s (λ d. p d && (c || has k d.attributes))) nowhere) ≡ b
        go c i false e = refl
        go false i true e = both-held ∙ e
        go true i true e =
            first-held tied (λ d. p d && true)
            ∙ any-more both (λ d. p d && true) (λ d h. and-true (p d) ∙ and_l (p d) (has k d.attributes) h) s.side.live
            (sym (first-held tied both) ∙ both-held ∙ e)

    pub holder-nowhere : is_held (holder s k p) ≡ false → holder s k p ≡ nowhere
    unfolding holder
    holder-nowhere h = let n = sym holder-held ∙ h in rw n
