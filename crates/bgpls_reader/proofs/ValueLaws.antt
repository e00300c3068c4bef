-- What a question to an accepted BGP-LS run is about, and that the first value of a kind stands where it was found, with a length that can be read.
use mathlib.Core.Path.{◌≡◌, refl, sym, ap, ap₂, ◌∙◌, subst}
use mathlib.Core.Bool.{Bool, true, false, not}
use mathlib.Core.List.{List, [], ◌∷◌, Memᴰ}
use Prim.Native.Nat.{ℕ, ◌+◌, ◌≤◌, ◌<◌}
use native.Mathlib.Omega.{arith}
use borrow.Author.Tests.{ne_eqb, eqb-true, ltb-false}
use lib.Dec.{eqb}
use lib.ListN.{length, drop, length-take, length-drop}
use Rattle.linkstate.specs.Lists.{empty}
use Rattle.linkstate.specs.Bytes.{bytes_at}
use Rattle.linkstate.specs.Kinds.{is_code, is_link_code, form_of, wrong_at_top, wrong_inside}
use Rattle.linkstate.specs.Replies.{run_bgp_ls, accepted, place}
use Rattle.linkstate.specs.Attributes.{Attribute, of_kind}
use Rattle.linkstate.specs.Sides.{general_set, application_set}
use Rattle.linkstate.specs.Meaning.{Accepted}
use Rattle.linkstate.specs.Questions.{number_too_high, set_of, given}
use Rattle.linkstate.specs.BgpLs.{run_verdict, run_side, run_source}
use Rattle.linkstate.specs.Masks.{user}
use Rattle.linkstate.proofs.Computing.{computing}
use Rattle.kinds.specs.declared.Kind.{Kind}
use Rattle.kinds.specs.declared.Kind.TheVariants.{Link, Application, Srlg, Asla, Unknown}
use Rattle.kinds.specs.declared.Size.{Size}
use Rattle.kinds.specs.Rules.{rule_of_code, fits_in, wrong_inside_by, is_link}
use Rattle.kinds.proofs.Laws.{wrong-at-top, wrong-inside, code-link}
use Rattle.replies.specs.declared.Subject.{Subject as Whom}
use Rattle.replies.specs.declared.Subject.TheVariants.{General, Standard, User}
use Rattle.replies.specs.Told.{subject_of}
use Rattle.answering.proofs.ReadingLaws.{own-bytes}
use Rattle.answering.proofs.Lengths.{readable-in-bgpls}
use Rattle.answering.proofs.RowLaws.{StandsIn}
use Rattle.bgpls_find.specs.declared.Set.{Set}
use Rattle.bgpls_find.specs.declared.Set.TheVariants as Sets
use Rattle.bgpls_find.specs.Sets.{attributes_in}
use Rattle.linkstate.proofs.ListLaws.{keep-mem}
use Rattle.rivals.proofs.Reader.{From, at_top, in-asla, given-from, Stands, top_right, inner-fits, of-kind}

-- ---- the set that a question is about

module _ (r : List ℕ) (k : ℕ) (whom : Whom) where
  pub asks-top : is_link_code k ≡ true → attributes_in Sets.Top r ≡ given (run_source r) (subject_of whom) k
  unfolding attributes_in given run_source
  asks-top e = rw e

  module _ (e : is_link_code k ≡ false) where
    pub asks-general : (s : Set) → whom ≡ General → attributes_in s r ≡ general_set (run_side r) → attributes_in s r ≡ given (run_source r) (subject_of whom) k
    unfolding given run_source set_of
    asks-general s w h = rw (e, w) h

    pub asks-rsvp-te : (n : ℕ) → whom ≡ Standard n → n ≡ 0 → attributes_in Sets.Top r ≡ given (run_source r) (subject_of whom) k
    unfolding attributes_in given run_source set_of
    asks-rsvp-te n w z = rw (e, w, z)

    pub asks-standard : (n : ℕ) (s : Set) → whom ≡ Standard n → (n ≡ 0 → ⊥) → attributes_in s r ≡ application_set n (run_side r)
        → attributes_in s r ≡ given (run_source r) (subject_of whom) k
    unfolding given run_source set_of
    asks-standard n s w z h = rw (e, w, ne_eqb n 0 z) h

    pub asks-user : (n : ℕ) (s : Set) → whom ≡ User n → attributes_in s r ≡ application_set (64 + n) (run_side r)
        → attributes_in s r ≡ given (run_source r) (subject_of whom) k
    unfolding given run_source set_of user
    asks-user n s w h = rw (e, w) h

-- An application number that is not too high.
pub low-user : (whom : Whom) (n : ℕ) → whom ≡ User n → number_too_high (subject_of whom) ≡ false → n ≤ 31
unfolding number_too_high
low-user whom n e h = omega (arith, ltb-false 31 n (sym (ap (λ (w : Whom). number_too_high (subject_of w)) e) ∙ h))

-- ---- the first of a kind

no-asla-code : is_code 1122 ≡ false
unfolding computing
no-asla-code = refl

nothing-empty : empty {A = ℕ} [] ≡ true
unfolding empty
nothing-empty = refl

-- Inside a 1122 a kind of applications has the lengths that it has at the top.
inside-as-top : (k : Kind) (s : Size) (n : ℕ) → is_link k ≡ false → wrong_inside_by k s n ≡ not (fits_in s n)
unfolding is_link wrong_inside_by
inside-as-top (Link i) s n e = absurd (let z : ◌≡◌ {A = ℕ} 0 1 = cc in omega arith)
inside-as-top (Application i) s n e = refl
inside-as-top Srlg s n e = refl
inside-as-top Asla s n e = refl
inside-as-top Unknown s n e = refl

inside-top : (k n : ℕ) → is_link_code k ≡ false → wrong_inside k n ≡ wrong_at_top k n
inside-top k n e =
    wrong-inside k n ∙ inside-as-top (rule_of_code k).kind (rule_of_code k).size n (sym (code-link k) ∙ e) ∙ sym (wrong-at-top k n)

asla-no-code : (k : ℕ) → is_code k ≡ true → eqb k 1122 ≡ false
asla-no-code k c = go (eqb k 1122) refl
  where
    go : (b : Bool) → eqb k 1122 ≡ b → eqb k 1122 ≡ false
    go true e = absurd (let z : is_code 1122 ≡ true = sym (ap is_code (eqb-true k 1122 e)) ∙ c in let y : ◌≡◌ {A = ℕ} 0 1 = cc (no-asla-code) in omega arith)
    go false e = e

-- The first value of a kind, in an accepted run.
module _ (r : List ℕ) (ok : run_verdict r ≡ accepted) (whom : Whom) (low : number_too_high (subject_of whom) ≡ false) (k : ℕ) (c : is_code k ≡ true)
    (d : eqb k 1096 ≡ false) where
  accepted-run : Accepted (run_source r)
  unfolding run_source
  accepted-run = ok

  module _ (t : Attribute) (us : List Attribute) (f : of_kind k (given (run_source r) (subject_of whom) k) ≡ t ∷ us) where
    member : Memᴰ t (of_kind k (given (run_source r) (subject_of whom) k))
    member = subst (λ (xs : List Attribute). Memᴰ t xs) (sym f) (Memᴰ.head refl)

    facts : Stands r t × (t.code ≡ k) × (empty t.value ≡ false)
    facts = of-kind r accepted-run (subject_of whom) low k c [] t d member

    right : wrong_at_top k t.len ≡ false
    unfolding of_kind
    right =
        let q = keep-mem (λ t. eqb k t.code) (given (run_source r) (subject_of whom) k) member in
        go (given-from r k (subject_of whom) q.1)
      where
        at : (wrong_at_top t.code (length t.value) ≡ false) → wrong_at_top k t.len ≡ false
        at h = sym (ap₂ (λ (x y : ℕ). wrong_at_top x y) facts.1 (sym facts.0.len)) ∙ h

        go : From r k t → wrong_at_top k t.len ≡ false
        go (at_top i) = at (top_right r accepted-run i (ap (λ (x : ℕ). eqb x 1122) facts.1 ∙ asla-no-code k c))
        go (in-asla a l i j) =
            at (sym (inside-top t.code (length t.value) (ap is_link_code facts.1 ∙ l)) ∙ (inner-fits r accepted-run i j).1)

    some : 0 < t.len
    some = go t.value refl
      where
        go : (v : List ℕ) → t.value ≡ v → 0 < t.len
        go [] e = absurd (let z : ◌≡◌ {A = ℕ} 0 1 = cc (sym (ap empty e) ∙ facts.2, nothing-empty) in omega arith)
        go (b ∷ bs) e = omega (arith, ap length e, facts.0.len)

    pub stands-first : StandsIn r (place run_bgp_ls) k t
    unfolding wrong_at_top bytes_at
    stands-first =
        record {
          code = facts.1;
          within = omega (arith, some, facts.0.len, ap length facts.0.bytes, length-take t.len (drop t.at r), length-drop t.at r);
          readable = readable-in-bgpls k t.len c d right;
          reads = own-bytes r (place run_bgp_ls) t (form_of k) (sym facts.0.bytes);
        }
