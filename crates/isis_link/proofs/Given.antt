-- What a question to a link is given is what the rules give on the side that the kind stands on.
use mathlib.Core.Path.{◌≡◌, refl, sym, ap, ◌∙◌}
use mathlib.Core.Bool.{Bool, true, false, cond}
use mathlib.Core.List.{List}
use Prim.Native.Nat.{ℕ}
use native.Mathlib.Omega.{arith}
use borrow.Author.Tests.{eqb-true}
use lib.Dec.{eqb}
use Rattle.linkstate.specs.Kinds.{is_link_code}
use Rattle.linkstate.specs.Sides.{bandwidth_kind}
use Rattle.linkstate.specs.Questions.{Subject, generally, standard_no, user_no, set_of, given}
use Rattle.linkstate.proofs.Computing.{computing}
use Rattle.isis.specs.RunA.{side_a}
use Rattle.isis.specs.RunB.{side_b}
use Rattle.isis.specs.Link.{link_source, side_of}
use Rattle.rules.specs.Rules.{set_on, given_on}

-- SRLG is no bandwidth of the link.
srlg-apart : is_link_code 1096 ≡ false
unfolding computing
srlg-apart = refl

link_apart : (k : ℕ) → is_link_code k ≡ true → eqb k 1096 ≡ false
link_apart k h = go (eqb k 1096) refl
  where
    go : (b : Bool) → eqb k 1096 ≡ b → b ≡ false
    go true e = let i : is_link_code k ≡ false = ap is_link_code (eqb-true k 1096 e) ∙ srlg-apart in absurd (let z : ◌≡◌ {A = ℕ} 0 1 = cc in omega arith)
    go false e = refl

module _ (a b c : List ℕ) where
  side-a : (k : ℕ) → eqb k 1096 ≡ false → side_of a b c k ≡ side_a a
  unfolding side_of
  side-a k e = rw e

  set_on_lem : (whom : Subject) (k : ℕ) → set_of (link_source a b c) whom k ≡ set_on whom k (side_of a b c k)
  unfolding set_of set_on link_source
  set_on_lem generally k = refl
  set_on_lem (standard_no n) k = refl
  set_on_lem (user_no n) k = refl

  pub given-on : (whom : Subject) (k : ℕ) → given (link_source a b c) whom k ≡ given_on whom k (side_of a b c k)
  unfolding given given_on link_source
  given-on whom k = go (is_link_code k) refl
    where
      go : (x : Bool) → is_link_code k ≡ x
          → cond x (bandwidth_kind k (side_a a)) (set_of (link_source a b c) whom k) ≡ cond x (bandwidth_kind k (side_of a b c k)) (set_on whom k (side_of a b c k))
      go true e = ap (bandwidth_kind k) (sym (side-a k (link_apart k e)))
      go false e = set_on_lem whom k

  -- on side A, and on side B
  pub given-in-a : (whom : Subject) (k : ℕ) → eqb k 1096 ≡ false → given (link_source a b c) whom k ≡ given_on whom k (side_a a)
  given-in-a whom k e = given-on whom k ∙ ap (given_on whom k) (side-a k e)

  pub given-in-b : (whom : Subject) → given_on whom 1096 (side_b b c) ≡ set_of (link_source a b c) whom 1096
  unfolding given_on side_of
  given-in-b whom = ap (λ (x : Bool). cond x (bandwidth_kind 1096 (side_b b c)) (set_on whom 1096 (side_b b c))) srlg-apart ∙ sym (set_on_lem whom 1096)
