-- The value of a row that a question to an accepted link is given stands in run A, with a length that can be read.
use mathlib.Core.Path.{◌≡◌, refl, sym, ap, ◌∙◌, subst}
use mathlib.Core.Bool.{Bool, true, false, cond}
use mathlib.Core.List.{List, [], ◌∷◌}
use Prim.Native.Nat.{ℕ}
use native.Mathlib.Omega.{arith}
use borrow.Author.Tests.{eqb-true}
use lib.Dec.{eqb}
use Rattle.linkstate.specs.Lists.{empty}
use Rattle.linkstate.specs.Bytes.{bytes_at}
use Rattle.linkstate.specs.Kinds as T
use Rattle.linkstate.specs.Kinds.{Form, is_code, form_of}
use Rattle.linkstate.specs.Replies.{accepted, run_a, place}
use Rattle.linkstate.specs.Elements.{elements, faults}
use Rattle.linkstate.specs.Attributes.{Attribute, of_kind, value_of, reading_as}
use Rattle.linkstate.specs.Sides.{names, of_live, general_set}
use Rattle.linkstate.specs.Questions.{Subject, given}
use Rattle.isis_kinds.proofs.Computing.{computing}
use Rattle.isis.specs.RunA.{check_a, side_a}
use Rattle.isis.specs.Link.{link_source}
use Rattle.isis.proofs.TypeLaws.{wrong_of_code, none-wrong}
use Rattle.isis_kinds.proofs.Lengths.{readable-in-a}
use Rattle.rules.specs.declared.Rule.{Rule}
use Rattle.rules.specs.declared.Rule.TheVariants.{ByL, Naming, General, Legacy, NamingFirst, AloneFirst, LegacyFirst}
use Rattle.rules.specs.Rules.{taken_by, rule_on}
use Rattle.rules.proofs.Laws.{rule-taken}
use Rattle.answering.specs.Standing.{standing}
use Rattle.answering.proofs.ReadingLaws.{own-bytes, zero-in-front}
use Rattle.answering.proofs.RowLaws.{StandsIn}
use Rattle.isis_grids.specs.declared.Which.TheVariants as W
use Rattle.isis_grids.specs.Grid.{bgpls_value}
use Rattle.isis_grids.specs.Selected.{selects}
use Rattle.isis_grids.proofs.Grids.{All, all_append}
use Rattle.isis_grids.proofs.Places.{Stands, legacy-stands, live-stands, First, absent, present, first-of, some_bytes, within}
use Rattle.rules.specs.declared.SideNames.{SideNames}
use Rattle.isis_link.specs.Asked.{AskedInA}
use Rattle.isis_link.proofs.Given.{given-in-a}

-- No code is 0.
no_zero : is_code 0 ≡ false
unfolding computing
no_zero = refl

pub some-type : (k : ℕ) → is_code k ≡ true → k ≡ 0 → ⊥
some-type k h z = let i : is_code k ≡ false = ap is_code z ∙ no_zero in let y : ◌≡◌ {A = ℕ} 0 1 = cc in omega arith

metric-form : form_of 1092 ≡ T.whole_number
unfolding computing
metric-form = refl

-- ---- what stands in the run

all-cond : (P : Attribute → Type 0) (b : Bool) (ts us : List Attribute) → All P ts → All P us → All P (cond b ts us)
all-cond P true ts us h g = h
all-cond P false ts us h g = g

module _ (a : List ℕ) (ok : faults run_a check_a (elements 1 0 a) ≡ accepted) where
  -- What a rule takes on side A stands there.
  taken-stands : (r : Rule) (k : ℕ) → All (Stands a) (taken_by r k (side_a a))
  unfolding taken_by general_set selects
  taken-stands ByL k = legacy-stands a ok
  taken-stands (Naming n) k = live-stands a ok (W.Naming n)
  taken-stands General k = live-stands a ok W.General
  taken-stands Legacy k = legacy-stands a ok
  taken-stands NamingFirst k = all-cond (Stands a) (empty (value_of k (of_live (names 0) (side_a a)))) _ _ (legacy-stands a ok) (live-stands a ok (W.Naming 0))
  taken-stands AloneFirst k =
      all_append (Stands a) (of_live (selects W.RsvpTeAlone) (side_a a)) (side_a a).legacy (live-stands a ok W.RsvpTeAlone) (legacy-stands a ok)
  taken-stands LegacyFirst k =
      all_append (Stands a) (side_a a).legacy (of_live (selects W.WithoutL) (side_a a)) (legacy-stands a ok) (live-stands a ok W.WithoutL)

  pub given-stands : (b c : List ℕ) (whom : Subject) (k : ℕ) → eqb k 1096 ≡ false → All (Stands a) (given (link_source a b c) whom k)
  given-stands b c whom k s = subst (All (Stands a)) (rule-taken whom k (side_a a) ∙ sym (given-in-a a b c whom k s)) (taken-stands (rule_on whom k (side_a a)) k)

-- The first value of a kind, if there is one.
module _ (a : List ℕ) (whom : Subject) (k : ℕ) (m : SideNames) (q : AskedInA a whom k m) (b c : List ℕ) where
  reads : (t : Attribute) → t.code ≡ k → Stands a t → reading_as (form_of k) (place run_a) t ≡ reading_as (form_of k) (place run_a) (standing a t.at t.len)
  unfolding bgpls_value
  reads t j st = go (eqb k 1092) refl (st.value ∙ ap (λ (x : ℕ). bgpls_value x (bytes_at a t.at t.len)) j)
    where
      go : (z : Bool) → eqb k 1092 ≡ z → t.value ≡ cond z (0 ∷ bytes_at a t.at t.len) (bytes_at a t.at t.len)
          → reading_as (form_of k) (place run_a) t ≡ reading_as (form_of k) (place run_a) (standing a t.at t.len)
      go true z v =
          subst (λ (f : Form). reading_as f (place run_a) t ≡ reading_as f (place run_a) (standing a t.at t.len)) (sym (ap form_of (eqb-true k 1092 z) ∙ metric-form))
          (zero-in-front a (place run_a) t v)
      go false z v = own-bytes a (place run_a) t (form_of k) v

  pub stands-first : (t : Attribute) (us : List Attribute) → of_kind k (given (link_source a b c) whom k) ≡ t ∷ us → StandsIn a (place run_a) k t
  unfolding wrong_of_code
  stands-first t us e = go (first-of a k (given (link_source a b c) whom k) (given-stands a q.passed b c whom k q.other))
    where
      at : Stands a t → t.code ≡ k → StandsIn a (place run_a) k t
      at st j =
          record {
            code = j;
            within = within a t st (some_bytes a t st (ap (λ (x : ℕ). wrong_of_code x 0) j ∙ none-wrong k q.known q.other));
            readable = readable-in-a k t.len q.known q.other (sym (ap (λ (x : ℕ). wrong_of_code x t.len) j) ∙ st.right);
            reads = reads t j st;
          }

      go : First a k (given (link_source a b c) whom k) → StandsIn a (place run_a) k t
      go (absent i) = let z : [] ≡ t ∷ us = sym i ∙ e in cc
      go (present u vs i j st) =
          let same : u ≡ t = cc in
          at (subst (Stands a) same st) (ap (λ (x : Attribute). x.code) (sym same) ∙ j)
