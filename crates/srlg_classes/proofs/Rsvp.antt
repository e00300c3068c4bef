-- The class of RSVP-TE, as the code asks for its rule. Assumes nothing.
use mathlib.Core.Path.{◌≡◌, refl, sym, ap, ap₂, ◌∙◌}
use mathlib.Core.Bool.{Bool, cond}
use mathlib.Core.List.{List, [], ◌∷◌}
use Prim.Native.Nat.{ℕ}
use borrow.Author.Tests.{eq-eqb, ne_eqb}
use types.Run.{OneOf}
use denote.Enum.Declared.{tag_of}
use Rattle.masks.specs.Applications.{in_set}
use Rattle.rules.specs.declared.Names.{Names}
use Rattle.rules.specs.declared.Rule.{Rule}
use Rattle.rules.specs.declared.Rule.TheVariants.{ByL, Naming, General, Legacy, NamingFirst, AloneFirst, LegacyFirst}
use Rattle.rules.specs.Rules.{rsvp_te_rule}
use Rattle.rules.specs.contracts.Rule.{the_type}
use Rattle.rules.proofs.Laws.{FromLegacy, from-legacy}
use Rattle.srlg_classes.specs.declared.First.{First}
use Rattle.srlg_classes.specs.Owned.{class_at, class_by, rsvp_class}

-- Every rule but two takes legacy's.
class-other : (r : Rule) (c : ℕ) (first : First) → FromLegacy r → first.legacy ≡ class_by r c first
class-other ByL c first h = refl
class-other (Naming n) c first h = refl
class-other General c first h = absurd h
class-other Legacy c first h = refl
class-other NamingFirst c first h = absurd h
class-other AloneFirst c first h = refl
class-other LegacyFirst c first h = refl

module _ (named : Names) (x : Bool) (own : List (List ℕ)) (first : First) (l n : Bool) (is : l ≡ in_set named.flagged 0) (iu : n ≡ in_set named.named 0) (r : Rule) (e : r ≡ rsvp_te_rule l n x) where
  by-rule : (q : Rule) → r ≡ q → class_by q (class_at own 7) first ≡ rsvp_class named x own first
  unfolding rsvp_class
  by-rule q i = ap (λ (y : Rule). class_by y (class_at own 7) first) (sym i ∙ e ∙ ap₂ (λ (y z : Bool). rsvp_te_rule y z x) is iu)

  module _ (i : r ≡ NamingFirst) (c : ℕ) (w : c ≡ class_at own 7) where
    pub no_own : c ≡ 0 → first.legacy ≡ rsvp_class named x own first
    no_own z = sym (ap (λ (b : Bool). cond b first.legacy (class_at own 7)) (eq-eqb (class_at own 7) 0 (sym w ∙ z))) ∙ by-rule NamingFirst i

    pub own-one : (c ≡ 0 → ⊥) → c ≡ rsvp_class named x own first
    own-one z = w ∙ sym (ap (λ (b : Bool). cond b first.legacy (class_at own 7)) (ne_eqb (class_at own 7) 0 (λ q. z (w ∙ q)))) ∙ by-rule NamingFirst i

  pub general-one : r ≡ General → first.general ≡ rsvp_class named x own first
  general-one i = by-rule General i

  pub legacy-one : OneOf (0 ∷ 1 ∷ 3 ∷ 5 ∷ 6 ∷ []) (tag_of the_type r) → first.legacy ≡ rsvp_class named x own first
  legacy-one h = class-other r (class_at own 7) first (from-legacy r h) ∙ by-rule r refl
