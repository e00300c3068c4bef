-- What is tested of a type without its rule. Assumes nothing.
use mathlib.Core.Path.{◌≡◌, refl, sym, ap, ap₂, ◌∙◌}
use mathlib.Core.Bool.{Bool, true, false, ◌&&◌, not, false≢true}
use Prim.Native.Nat.{ℕ, ◌%◌, ◌<◌}
use borrow.Author.Tests.{eqb-true}
use lib.Dec.{T, eqb}
use Rattle.linkstate.specs.Masks.{in_number}
use Rattle.linkstate.proofs.ListLaws.{and_l, and_r}
use Rattle.masks.proofs.Steps.{every, every-at}
use Rattle.isis.specs.Types.{wrong_in_a}
use Rattle.isis.specs.RunA.{known_type}
use Rattle.kinds.specs.declared.Kind.{Kind}
use Rattle.kinds.specs.declared.Rule.{Rule}
use Rattle.kinds.specs.Rules.{is_known}
use Rattle.isis_kinds.specs.Rules.{rule_of_type}
use Rattle.isis_kinds.proofs.Computing.{computing}
use Rattle.isis_kinds.proofs.Laws.{TypeOf, kind-read, four-in-a}
use Rattle.isis.specs.Types.{code_of_type}
use Rattle.linkstate.specs.Kinds.{link_codes}
use Rattle.kinds.specs.Rules.{grid_codes}
use Rattle.kinds.specs.declared.Kind.TheVariants.{Link, Application, Srlg, Asla, Unknown}
use mathlib.Core.List.{List}
use lib.ListN.{get_or}

-- None of the first codes of a table is 0.
some_code : (codes : List ℕ) (n : ℕ) → T (every (λ i. not (eqb (get_or codes i 0) 0)) n) → (i : ℕ) → i < n → not (eqb (get_or codes i 0) 0) ≡ true
some_code codes n all i h = from_T (every-at (λ i. not (eqb (get_or codes i 0) 0)) n all i h)
  where
    from_T : {b : Bool} → T b → b ≡ true
    from_T {b = true} h = refl
    from_T {b = false} h = absurd h

-- The types that are known, by the kind of their rule: it has a code, which is not 0.
known_kind : (k : Kind) (c : ℕ) → TypeOf k c → is_known k ≡ not (eqb c 0)
unfolding computing
known_kind (Link i) c h = rw h.1 (sym (some_code link_codes 3 tt i h.0))
known_kind (Application i) c h = rw h.1 (sym (some_code grid_codes 10 tt i h.0))
known_kind Srlg c h = absurd h
known_kind Asla c h = rw h
known_kind Unknown c h = rw h

pub known_by : (r : Rule) (t : ℕ) → r ≡ rule_of_type t → is_known r.kind ≡ known_type t
unfolding known_type
known_by r t e = known_kind r.kind (code_of_type t) (kind-read t r r.kind e refl)

-- The types whose bits are set are those that four bytes do not fit.
module _ (bits t : ℕ) (clear : in_number bits (t % 64) ≡ false) where
  other-than : (k : ℕ) → in_number bits (k % 64) ≡ true → eqb t k ≡ false
  other-than k h = go (eqb t k) refl
    where
      go : (b : Bool) → eqb t k ≡ b → b ≡ false
      go true e = absurd (false≢true (sym clear ∙ ap (λ (i : ℕ). in_number bits (i % 64)) (eqb-true t k e) ∙ h))
      go false e = refl

  pub four-fits : in_number bits 11 ≡ true → in_number bits 18 ≡ true → in_number bits 34 ≡ true → (n : ℕ) → n ≡ 4 → false ≡ wrong_in_a t n
  four-fits a b c n e = sym (rw (other-than 11 a, other-than 18 b, other-than 34 c)) ∙ four-in-a t n e

-- A type in a length that fits it.
pub pair_fits : (x y : ℕ) → wrong_in_a x y ≡ false → (t n : ℕ) → eqb n y && eqb t x ≡ true → false ≡ wrong_in_a t n
pair_fits x y h t n e = sym (ap₂ wrong_in_a (eqb-true t x (and_r (eqb n y) (eqb t x) e)) (eqb-true n y (and_l (eqb n y) (eqb t x) e)) ∙ h)
