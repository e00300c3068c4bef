-- Demand 2, the link's own answers: every question to an accepted IS-IS link is answered by what the link means. Assumes nothing.
use mathlib.Core.Path.{◌≡◌, refl, sym, ap, ◌∙◌}
use mathlib.Core.Bool.{Bool, true, false, cond, ◌||◌, false≢true}
use mathlib.Core.List.Memᴰ
use mathlib.Core.List.{List, [], ◌∷◌, ◌++◌, Memᴰ}
use mathlib.Core.Logic.{◌⊎◌, inl, inr}
use Prim.Native.Nat.{ℕ}
use borrow.Author.Tests.{eqb-true}
use lib.Dec.{eqb}
use lib.ListN.{length}
use Rattle.linkstate.specs.Lists.{empty, member}
use Rattle.linkstate.specs.Kinds.{codes, is_code, is_link_code, wrong_at_top}
use Rattle.linkstate.specs.Masks.{user, others}
use Rattle.linkstate.specs.Replies.{accepted, run_a}
use Rattle.linkstate.specs.Elements.{elements, faults}
use Rattle.linkstate.specs.Attributes.{Attribute, of_kind}
use Rattle.linkstate.specs.Sides.{named, general_set, application_set}
use Rattle.linkstate.specs.Questions.{Subject, generally, standard_no, user_no, set_of, given}
use Rattle.linkstate.specs.Meaning.{meaning, Accepted}
use Rattle.isis.specs.RunA.{check_a, side_a}
use Rattle.isis.specs.RunB.{side_b}
use Rattle.isis.specs.Link.{link_verdict, side_of, link_source}
use Rattle.linkstate.proofs.ListLaws.{or_l, or_r, keep-mem, mem-member}
use Rattle.linkstate.proofs.WalkLaws.{then-first, then-second}
use Rattle.rivals.specs.Reads.{AnsweredBy}
use Rattle.rivals.proofs.KindLaws.{code-mem, top-bytes}
use Rattle.rivals.proofs.SourceReads.{Held, source-reads, source-lists}
use Rattle.demands.specs.Demands.{in_a}
use Rattle.demands.proofs.MoreLists.{of-cond}
use Rattle.demands.proofs.Sides.{general-has, application-has, rsvp_te-has, bandwidth-has, unnamed-gets-general}
use Rattle.demands.proofs.SideA.{Stands, AllStand, legacy-stands, chosen-stands}

-- An application that neither side names gets the general set, whichever side the kind stands on.
pub unnamed : (a b c : List ℕ) (k n : ℕ) → member n others ≡ true → (link_source a b c).names n ≡ false → (link_source a b c).application n k ≡ (link_source a b c).general k
unfolding link_source side_of
unnamed a b c k n h e = go (rw h at e) (eqb k 1096)
  where
    go : named n (side_a a) || named n (side_b b c) ≡ false → (z : Bool) → application_set n (cond z (side_b b c) (side_a a)) ≡ general_set (cond z (side_b b c) (side_a a))
    go i true = unnamed-gets-general n (side_b b c) (or_r (named n (side_a a)) (named n (side_b b c)) i)
    go i false = unnamed-gets-general n (side_a a) (or_l (named n (side_a a)) (named n (side_b b c)) i)

-- ---- what a question other than for SRLG is given stands in run A

module _ (a : List ℕ) (passed : faults run_a check_a (elements 1 0 a) ≡ accepted) (b c : List ℕ) (k : ℕ) (d : eqb k 1096 ≡ false) where
  joined : (ts us : List Attribute) → AllStand a ts → AllStand a us → AllStand a (ts ++ us)
  joined ts us f g t i = go (Memᴰ.append_cases ts i)
    where
      go : Memᴰ t ts ⊎ Memᴰ t us → Stands a t
      go (inl j) = f t j
      go (inr j) = g t j

  set-stands : (whom : Subject) → AllStand a (set_of (link_source a b c) whom k)
  unfolding set_of link_source side_of
  set-stands generally = rw d (general-has (AllStand a) (side_a a) (legacy-stands a passed) (chosen-stands a passed))
  set-stands (standard_no n) =
      rw d
      (of-cond (AllStand a) (eqb n 0) _ _ (rsvp_te-has (AllStand a) (side_a a) (legacy-stands a passed) (chosen-stands a passed) k)
      (application-has (AllStand a) (side_a a) (legacy-stands a passed) (chosen-stands a passed) n))
  set-stands (user_no n) = rw d (application-has (AllStand a) (side_a a) (legacy-stands a passed) (chosen-stands a passed) (user n))

  given-stands : (whom : Subject) → AllStand a (given (link_source a b c) whom k)
  unfolding given link_source
  given-stands whom =
      of-cond (AllStand a) (is_link_code k) _ _ (bandwidth-has (AllStand a) (side_a a) (legacy-stands a passed) (chosen-stands a passed) joined k) (set-stands whom)

  held : is_code k ≡ true → (whom : Subject) (t : Attribute) → Memᴰ t (of_kind k (given (link_source a b c) whom k)) → Held (link_source a b c) in_a k t
  unfolding of_kind link_source empty
  held known whom t i =
      let q = keep-mem (λ t. eqb k t.code) (given (link_source a b c) whom k) i in
      let e : k ≡ t.code = eqb-true k t.code q.0 in
      let st = given-stands whom t q.1 in
      let m = code-mem k known in
      let right : wrong_at_top k (length t.value) ≡ false = rw e (st.right (rw e at (mem-member codes m))).fit in
      record {
        code = sym e;
        some = has-bytes t.value right (top-bytes m d);
        bytes = st.bytes ∙ ap (λ (x : ℕ). in_a x t.value) (sym e);
        len = st.len ∙ ap (λ (x : ℕ). length (in_a x t.value)) (sym e);
      }
    where
      has-bytes : (v : List ℕ) → wrong_at_top k (length v) ≡ false → wrong_at_top k 0 ≡ true → empty v ≡ false
      has-bytes [] r w = absurd (false≢true (sym r ∙ w))
      has-bytes (x ∷ v) r w = refl

none-sent : (k : ℕ) → in_a k [] ≡ []
none-sent k = go (eqb k 1092)
  where
    go : (z : Bool) → cond {A = List ℕ} z [] [] ≡ []
    go true = refl
    go false = refl

pub a-passed : (a b c : List ℕ) → Accepted (link_source a b c) → faults run_a check_a (elements 1 0 a) ≡ accepted
unfolding link_source link_verdict
a-passed a b c h = then-first _ _ (then-second _ _ (then-second _ _ h))

pub link-answers : (a b c : List ℕ) → Accepted (link_source a b c) → AnsweredBy (link_source a b c) in_a (meaning (link_source a b c))
link-answers a b c ok =
    record {
      reads = λ whom n k known list.
          source-reads (link_source a b c) ok whom n k known in_a (none-sent k) (λ d t i. held a (a-passed a b c ok) b c k d known whom t i) list (unnamed a b c k);
      names = source-lists (link_source a b c) ok;
    }
