-- The first of a kind in joined lists: the first list's, else the other's.
use mathlib.Core.Path.{◌≡◌, refl, sym, ap, ◌∙◌}
use mathlib.Core.Bool.{true, false}
use mathlib.Core.List.{List, [], ◌∷◌, ◌++◌}
use Prim.Native.Nat.{ℕ}
use lib.Dec.{eqb}
use Rattle.std.specs.Prelude.{Option, Some, None, is_some, MatchOption}
use Rattle.std.specs.Option.{option_or}
use Rattle.linkstate.specs.Lists.{keep}
use Rattle.linkstate.specs.Attributes.{Attribute, of_kind}
use Rattle.linkstate.proofs.ListLaws.{keep_append}
use Rattle.octets.specs.declared.Span.{Span}
use Rattle.octets.specs.Spans.{found_in}

-- Where there is a value it counts, else the other.
module _ {A : Type 0} where
  some-or : (o p : Option A) → is_some o ≡ true → o ≡ option_or o p
  some-or None p h = cc
  some-or (Some x) p h = refl

  none-or : (o p : Option A) → is_some o ≡ false → p ≡ option_or o p
  none-or None p h = refl
  none-or (Some x) p h = cc

  or-none : (o : Option A) → o ≡ option_or o None
  or-none None = refl
  or-none (Some x) = refl

module _ (k : ℕ) (xs ys : List Attribute) where
  pub found-append : found_in (of_kind k (xs ++ ys)) ≡ option_or (found_in (of_kind k xs)) (found_in (of_kind k ys))
  unfolding of_kind found_in
  found-append = ap found_in (keep_append (λ t. eqb k t.code) xs ys) ∙ go (of_kind k xs)
    where
      go : (ts : List Attribute) → found_in (ts ++ of_kind k ys) ≡ option_or (found_in ts) (found_in (of_kind k ys))
      go [] = refl
      go (t ∷ ts) = refl

  module _ (o : Option Span) (e : o ≡ found_in (of_kind k xs)) where
    joined : option_or o (found_in (of_kind k ys)) ≡ found_in (of_kind k (xs ++ ys))
    joined = ap (λ p. option_or p (found_in (of_kind k ys))) e ∙ sym found-append

    pub found_first : is_some o ≡ true → o ≡ found_in (of_kind k (xs ++ ys))
    found_first h = some-or o (found_in (of_kind k ys)) h ∙ joined

    pub found-later : is_some o ≡ false → found_in (of_kind k ys) ≡ found_in (of_kind k (xs ++ ys))
    found-later h = none-or o (found_in (of_kind k ys)) h ∙ joined

    pub found_nowhere : ys ≡ [] → o ≡ found_in (of_kind k (xs ++ ys))
    unfolding found_in of_kind keep
    found_nowhere h = or-none o ∙ ap (λ ts. option_or o (found_in (of_kind k ts))) (sym h) ∙ joined

    pub found_none : ys ≡ [] → is_some o ≡ false → None ≡ found_in (of_kind k (xs ++ ys))
    unfolding found_in of_kind keep
    found_none h g = ap (λ ts. found_in (of_kind k ts)) (sym h) ∙ found-later g

    -- as `or_else` has it, where the closure finds what the other list has
    pub found-or-else : {P : Type 0} (r : Option Span) → MatchOption o P (λ x. r ≡ Some x) → (P → r ≡ found_in (of_kind k ys)) → r ≡ found_in (of_kind k (xs ++ ys))
    found-or-else {P} r h f = go o h ∙ joined
      where
        go : (o : Option Span) → MatchOption o P (λ x. r ≡ Some x) → r ≡ option_or o (found_in (of_kind k ys))
        go None p = f p
        go (Some x) p = p
