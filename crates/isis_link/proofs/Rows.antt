-- The row of a kind in what a rule takes on side A, rule by rule.
use mathlib.Core.Path.{◌≡◌, refl, sym, ap, ◌∙◌}
use mathlib.Core.Bool.{Bool, true, false, cond}
use mathlib.Core.List.{List, ◌++◌}
use Prim.Native.Nat.{ℕ}
use lib.Dec.{eqb}
use Rattle.linkstate.specs.Lists.{empty}
use Rattle.linkstate.specs.Replies.{accepted, run_a}
use Rattle.linkstate.specs.Elements.{elements, faults}
use Rattle.linkstate.specs.Kinds.{is_code}
use Rattle.linkstate.specs.Attributes.{Attribute, value_of}
use Rattle.linkstate.specs.Sides.{names, of_live}
use Rattle.isis.specs.Types.{code_of_type}
use Rattle.isis.specs.RunA.{check_a, side_a}
use Rattle.rules.specs.declared.Rule.{Rule}
use Rattle.rules.specs.declared.Rule.TheVariants.{NamingFirst}
use Rattle.linkstate.specs.Questions.{Subject, given}
use Rattle.isis.specs.Link.{link_source}
use Rattle.isis.proofs.TypeLaws.{none-wrong}
use Rattle.rules.specs.declared.SideNames.{SideNames}
use Rattle.rules.specs.Rules.{taken_by, given_on}
use Rattle.isis_grids.specs.declared.Which.TheVariants as W
use Rattle.isis_grids.specs.Grid.{row_of}
use Rattle.isis_grids.specs.Selected.{selects}
use Rattle.std.specs.Prelude.{Option, Some, None, is_none}
use Rattle.std.specs.Option.{option_or}
use Rattle.octets.specs.declared.Span.{Span}
use Rattle.octets.proofs.Spans.{found-append}
use Rattle.isis_grids.proofs.Places.{live-stands, value_none}
use Rattle.isis_link.specs.Asked.{AskedInA}
use Rattle.isis_link.proofs.Given.{given-in-a}
use Rattle.isis_link.proofs.ValueLaws.{some-type}

-- What a rule takes is a list with the same row.
pub takes : (a : List ℕ) (k : ℕ) (rule r : Rule) (ts : List Attribute) (row : Option Span) → rule ≡ r → row_of k ts ≡ row_of k (taken_by r k (side_a a))
    → row ≡ row_of k ts → row ≡ row_of k (taken_by rule k (side_a a))
takes a k rule r ts row g e h = h ∙ e ∙ ap (λ (x : Rule). row_of k (taken_by x k (side_a a))) (sym g)

-- RSVP-TE takes the one list or the other, by whether the first has a value: of one kind these are the two lists joined.
pub naming-first : (a : List ℕ) → faults run_a check_a (elements 1 0 a) ≡ accepted → (k : ℕ) → is_code k ≡ true → eqb k 1096 ≡ false
    → row_of k (of_live (selects (W.Naming 0)) (side_a a) ++ (side_a a).legacy) ≡ row_of k (taken_by NamingFirst k (side_a a))
unfolding taken_by selects
naming-first a ok k known other =
    let live = of_live (names 0) (side_a a) in
    let e : empty (value_of k live) ≡ is_none (row_of k live) = value_none a k live other (none-wrong k known other) (live-stands a ok (W.Naming 0)) in
    found-append k live (side_a a).legacy
    ∙ go (row_of k live) refl
    ∙ ap (λ (b : Bool). row_of k (cond b (side_a a).legacy live)) (sym e)
  where
    go : (row : Option Span) → row_of k (of_live (names 0) (side_a a)) ≡ row
        → option_or row (row_of k (side_a a).legacy) ≡ row_of k (cond (is_none row) (side_a a).legacy (of_live (names 0) (side_a a)))
    go None e = refl
    go (Some span) e = sym e

-- ---- a code and its type

module _ (k t : ℕ) (is : code_of_type t ≡ k) where
  pub type-known : is_code k ≡ true → (code_of_type t ≡ 0 → ⊥) × (is_code (code_of_type t) ≡ true)
  type-known known = (λ z. some-type k known (sym is ∙ z), ap is_code is ∙ known)

  pub type-other : eqb k 1096 ≡ false → eqb (code_of_type t) 1096 ≡ false
  type-other other = ap (λ (c : ℕ). eqb c 1096) is ∙ other

  -- the row that was looked for by the type is that of what the subject is given
  pub row-given : (a b c : List ℕ) (whom : Subject) (m : SideNames) → AskedInA a whom k m → (r : Rule) → taken_by r k (side_a a) ≡ given_on whom k (side_a a)
      → (row : Option Span) → row ≡ row_of (code_of_type t) (taken_by r (code_of_type t) (side_a a)) → row ≡ row_of k (given (link_source a b c) whom k)
  row-given a b c whom m q r e row h = h ∙ ap (λ (x : ℕ). row_of x (taken_by r x (side_a a))) is ∙ ap (row_of k) (e ∙ sym (given-in-a a b c whom k q.other))
