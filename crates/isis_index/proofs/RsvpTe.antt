-- The slot of RSVP-TE's set, by its rule. Assumes nothing.
use mathlib.Core.Path.{◌≡◌, refl, sym, ap, ap₂, ◌∙◌, subst}
use mathlib.Core.Bool.{Bool, true, false}
use mathlib.Core.List.{List, [], ◌∷◌}
use Prim.Native.Nat.{ℕ}
use native.Mathlib.Omega.{arith}
use types.Run.{OneOf}
use denote.Enum.Declared.{tag_of}
use Rattle.rules.specs.declared.Names.{Names}
use Rattle.masks.specs.Applications.{in_set}
use Rattle.rules.specs.declared.Rule.{Rule}
use Rattle.rules.specs.declared.Rule.TheVariants.{ByL, Naming, General, Legacy, NamingFirst, AloneFirst, LegacyFirst}
use Rattle.rules.specs.Rules.{rsvp_te_rule}
use Rattle.rules.specs.contracts.Rule.{the_type}
use Rattle.rules.proofs.Laws.{FromLegacy, from-legacy}
use Rattle.set_table.specs.Tables.{slot_at, Given}
use Rattle.isis_index.specs.Settled.{from_old, slot_by, filled_by, rule_by, rsvp_te_slot, filled_slot}

-- Every rule but two takes legacy's slot, and every rule but one leaves the slots as they are.
slot-other : (r : Rule) (s : ℕ) → FromLegacy r → (1 ≡ slot_by r s) × (1 ≡ filled_by r s)
slot-other ByL s h = (refl, refl)
slot-other (Naming n) s h = (refl, refl)
slot-other General s h = absurd h
slot-other Legacy s h = (refl, refl)
slot-other NamingFirst s h = absurd h
slot-other AloneFirst s h = (refl, refl)
slot-other LegacyFirst s h = (refl, refl)

-- Who comes first by the rule is named.
pub first-named : (l n x : Bool) → rsvp_te_rule l n x ≡ NamingFirst → n ≡ true
unfolding rsvp_te_rule
first-named true n x e = let z : ◌≡◌ {A = ℕ} 0 1 = cc in absurd (omega arith)
first-named false true x e = refl
first-named false false true e = let z : ◌≡◌ {A = ℕ} 0 1 = cc in absurd (omega arith)
first-named false false false e = let z : ◌≡◌ {A = ℕ} 0 1 = cc in absurd (omega arith)

-- As the code asks for the rule.
module _ (named : Names) (x : Bool) (owns : List (List ℕ)) (l n : Bool) (is : l ≡ in_set named.flagged 0) (iu : n ≡ in_set named.named 0) (r : Rule) (e : r ≡ rsvp_te_rule l n x) where
  rule-is : r ≡ rule_by named x
  rule-is = e ∙ ap₂ (λ (y z : Bool). rsvp_te_rule y z x) is iu

  -- the slot of RSVP-TE, and the one that is filled up
  abbrev Told : ℕ → ℕ → Type 0
  Told s f = (s ≡ rsvp_te_slot named x owns) × (f ≡ filled_slot named x owns)

  by-rule : (q : Rule) → r ≡ q → Told (slot_by q (slot_at owns 7)) (filled_by q (slot_at owns 7))
  by-rule q i = (ap (λ (y : Rule). slot_by y (slot_at owns 7)) (sym i ∙ rule-is), ap (λ (y : Rule). filled_by y (slot_at owns 7)) (sym i ∙ rule-is))

  pub own-slot : r ≡ NamingFirst → Told (slot_at owns 7) (slot_at owns 7)
  own-slot i = by-rule NamingFirst i

  pub own-named : r ≡ NamingFirst → in_set named.named 0 ≡ true
  own-named i = sym iu ∙ first-named l n x (sym e ∙ i)

  pub general-slot : r ≡ General → Told 0 1
  general-slot i = by-rule General i

  pub old-slot : OneOf (0 ∷ 1 ∷ 3 ∷ 5 ∷ 6 ∷ []) (tag_of the_type r) → Told 1 1
  old-slot h = let o = slot-other r (slot_at owns 7) (from-legacy r h) in let t = by-rule r refl in (o.0 ∙ t.0, o.1 ∙ t.1)

-- Values given to a slot, by another name of it.
pub given_to : {sets after : List (List ℕ)} {s t : ℕ} → s ≡ t → Given sets after (from_old sets s) → Given sets after (from_old sets t)
given_to {sets} {after} e g = subst (λ (i : ℕ). Given sets after (from_old sets i)) e g
