-- The groups of a meaning: each named application has one leader, which is named, has the same set, and leads itself.
use mathlib.Core.Path.{◌≡◌, refl, ap, ◌∙◌, subst}
use mathlib.Core.Logic.{◌⊎◌, inl, inr}
use mathlib.Core.Bool.{Bool, true, false, cond, ◌&&◌, not}
use mathlib.Core.List.Memᴰ
use mathlib.Core.List.{List, [], ◌∷◌, map, Memᴰ}
use Prim.Native.Nat.{ℕ}
use borrow.Author.Tests.{eqb-true, eq-eqb}
use lib.Dec.{eqb}
use Rattle.linkstate.specs.Lists.{keep, all, lookup, empty, member, same_rows}
use Rattle.linkstate.specs.Kinds.{application_codes}
use Rattle.linkstate.specs.Masks.{others}
use Rattle.linkstate.specs.Meaning.{Meaning, row}
use Rattle.linkstate.specs.Export.{leader, in_group, leaders, asla_value, general_values, group_value, asla_values}
use Rattle.linkstate.specs.WellFormed.{Values, WellFormed}
use Rattle.linkstate.proofs.ListLaws.{and_l, and_r, mem-any, first-mem, keep-mem, keep-no, keep-number, map-mem, member-mem, mem-member, rows_refl, rows_eq, different}
use Rattle.rivals.proofs.KindLaws.{others-different}

-- The leader depends on the set's values only.
pub leader-row : (m : Meaning) (a b : ℕ) → row (m.set a) ≡ row (m.set b) → leader m a ≡ leader m b
unfolding leader
leader-row m a b e = ap (λ (x : List (List ℕ)). lookup (λ c. m.named c && same_rows (row (m.set c)) x) (λ c. c) 0 others) e

module _ (m : Meaning) (ok : WellFormed m) where
  pub leader-facts : (a : ℕ) → m.named a ≡ true → Memᴰ (leader m a) others × (m.named (leader m a) ≡ true) × (row (m.set (leader m a)) ≡ row (m.set a))
  unfolding leader
  leader-facts a n =
      let test : ℕ → Bool = λ b. m.named b && same_rows (row (m.set b)) (row (m.set a)) in
      let self : test a ≡ true = rw (n, rows_refl (row (m.set a))) in
      let k = first-mem test others 0 (mem-any test others (member-mem a others (ok.named_only a n)) self) in
      (k.0, and_l (m.named (leader m a)) _ k.1, rows_eq (row (m.set (leader m a))) (row (m.set a)) (and_r (m.named (leader m a)) _ k.1))

  -- Who leads a group is in it.
  pub leads-itself : (c a : ℕ) → in_group m c a ≡ true → in_group m c c ≡ true
  unfolding in_group
  leads-itself c a g =
      let n = and_l (m.named a) (eqb (leader m a) c) g in
      let e : leader m a ≡ c = eqb-true (leader m a) c (and_r (m.named a) (eqb (leader m a) c) g) in
      let k = leader-facts a n in
      subst (λ (x : ℕ). m.named x && eqb (leader m x) x ≡ true) e (rw (k.1, leader-row m (leader m a) a k.2, eq-eqb (leader m a) (leader m a) refl))

  -- An application is in one group, if it is named.
  pub one-group : (a : ℕ) → keep (λ c. in_group m c a) others ≡ cond (m.named a) (leader m a ∷ []) []
  unfolding in_group different
  one-group a = go (m.named a) refl
    where
      go : (b : Bool) → m.named a ≡ b → keep (λ c. b && eqb (leader m a) c) others ≡ cond b (leader m a ∷ []) []
      go true e = keep-number (leader m a) others (and_r (not (member 0 others)) (different others) others-different) ∙ rw (mem-member others (leader-facts a e).0)
      go false e = keep-no (λ c. false) others (λ c h. refl)

  -- Every 1122 of the export carries a set with right values.
  pub asla-is : {v : List ℕ} → Memᴰ v (asla_values m) → (p : ℕ → Bool) × (f : ℕ → List ℕ) × (v ≡ asla_value p f) × Values application_codes f
  unfolding asla_values general_values group_value leaders in_group
  asla-is {v} h = go (Memᴰ.append_cases (general_values m) h)
    where
      gen : (b : Bool) → Memᴰ v (cond b [] (asla_value (λ a. false) m.general ∷ [])) → v ≡ asla_value (λ a. false) m.general
      gen true k = elim k [ ]
      gen false k = Memᴰ.eq_of_singleton k

      go : Memᴰ v (general_values m) ⊎ Memᴰ v (map (group_value m) (leaders m)) → (p : ℕ → Bool) × (f : ℕ → List ℕ) × (v ≡ asla_value p f) × Values application_codes f
      go (inl k) = ((λ a. false), m.general, gen (all empty (row m.general)) k, ok.general)
      go (inr k) =
          let q = map-mem (group_value m) (leaders m) k in
          let i = keep-mem (λ a. in_group m a a) others q.1 in
          (in_group m q.0, m.set q.0, q.2, ok.set q.0 (and_l (m.named q.0) (eqb (leader m q.0) q.0) i.0))
