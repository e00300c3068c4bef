-- What an accepted link gives to those who read its runs, and its named applications from the numbers of both sides.
use mathlib.Core.Path.{◌≡◌, refl, sym, ap, ap₂, ◌∙◌, subst}
use mathlib.Core.Bool.{Bool, true, false, ◌&&◌, ◌||◌, not}
use mathlib.Core.List.{List}
use Prim.Native.Nat.{ℕ, zero, suc, ◌+◌, ◌-◌, ◌^◌, ◌<◌}
use native.Mathlib.Omega.{arith}
use native.Mathlib.Nat.{div-eq_of_lt}
use borrow.Author.Tests.{eqb-true, ne_eqb, le-ltb}
use lib.Dec.{eqb}
use lib.ListN.{length}
use Rattle.linkstate.specs.Lists.{empty, member, numbers}
use Rattle.linkstate.specs.Masks.{user, others, in_number}
use Rattle.linkstate.specs.Replies.{run_a, Verdict, Asked, absent, unless, accepted, listed, place}
use Rattle.linkstate.specs.Sides.{Side, named}
use Rattle.linkstate.proofs.Retired.{named-retired, user-among}
use Rattle.linkstate.specs.Attributes.{Attribute, srlgs}
use Rattle.linkstate.specs.Questions.{Subject, set_of, given, before_answer, unwritten, bytes_of_first, srlg_answer, answer, ask, list_named}
use Rattle.isis.specs.RunA.{side_a}
use Rattle.isis.specs.RunB.{side_b}
use Rattle.isis.specs.Link.{link_verdict, link_source}
use Rattle.masks.proofs.Laws.{is_number}
use Rattle.rivals.proofs.KindLaws.{standard-other}
use Rattle.rules.specs.declared.Names.{Names}
use Rattle.rules.specs.Names.{Tells, Joins, Given}
use Rattle.masks.specs.declared.Applications.{Applications}
use Rattle.masks.specs.Applications.{in_set, at_place}
use Rattle.masks.proofs.Sets.{place-low, place-high}
use Rattle.rules.proofs.NameLaws.{side-named}
use Rattle.answering.proofs.Entries.{ask-answered}
use Rattle.rules.specs.Rules.{given_on}
use Rattle.isis_check.specs.declared.Sides.{Sides}
use Rattle.std.specs.Prelude.{Result, Ok}
use Rattle.replies.specs.declared.Refusal.{Refusal}
use Rattle.isis_check.specs.Sides.{OfSides}
use Rattle.isis_link.proofs.Checks.{b-passed, b-short, c-short}
use Rattle.isis_link.proofs.Given.{given-in-b}
use Rattle.isis_tlvs_238.specs.Runs.{Passed}
use Rattle.isis_tlvs_238.proofs.Words.{no-srlgs}

pub passed : (a b c : List ℕ) → link_verdict a b c ≡ accepted → Passed b c
passed a b c ok = record { checked = b-passed a b c ok; short_b = b-short a b c ok; short_c = c-short a b c ok }

-- A verdict that was told of the link is its source's.
pub of-link : (a b c : List ℕ) (v : Verdict) → v ≡ link_verdict a b c → v ≡ (link_source a b c).verdict
unfolding link_source
of-link a b c v e = e

-- Places lie in run A, and the bytes are its own.
pub answered : (a b c : List ℕ) (whom : Subject) (k : ℕ) (list : List ℕ) (x : Asked) → before_answer (link_source a b c) whom k ≡ accepted
    → x ≡ answer (place run_a) k (given (link_source a b c) whom k) list → x ≡ ask (link_source a b c) whom k list
unfolding link_source
answered a b c whom k list x e h = h ∙ of-run
  where
    of-run : answer (place run_a) k (given (link_source a b c) whom k) list ≡ ask (link_source a b c) whom k list
    of-run = ask-answered (link_source a b c) whom k list e

pub source-bytes : (a b c v : List ℕ) (ts : List Attribute) → v ≡ bytes_of_first a ts → v ≡ bytes_of_first (link_source a b c).bytes ts
unfolding link_source
source-bytes a b c v ts e = e

-- ---- named

and_comm : (x y : Bool) → x && y ≡ y && x
and_comm true true = refl
and_comm true false = refl
and_comm false true = refl
and_comm false false = refl

-- The applications other than RSVP-TE, by their numbers.
rsvp_te-apart : member 0 others ≡ false
unfolding member others numbers
rsvp_te-apart = refl

standard-is : (n : ℕ) → n < 64 → member n others ≡ not (eqb n 0)
standard-is n h = go (eqb n 0) refl
  where
    go : (z : Bool) → eqb n 0 ≡ z → member n others ≡ not z
    go true e = ap (λ (i : ℕ). member i others) (eqb-true n 0 e) ∙ rsvp_te-apart
    go false e = standard-other n (le-ltb 63 n (omega arith)) e

user-is : (n : ℕ) (s t : Side) → member (user n) others && (named (user n) s || named (user n) t) ≡ (named (user n) s || named (user n) t)
unfolding user
user-is n s t = user-among n (named (64 + n) s || named (64 + n) t) (λ l. ap₂ (λ (x y : Bool). x || y) (named-retired (64 + n) (omega arith) s) (named-retired (64 + n) (omega arith) t))

-- 1 is the set of RSVP-TE alone.
pub in_one : (n : ℕ) → in_number 1 n ≡ eqb n 0
unfolding in_number
in_one zero = refl
in_one (suc n) = rw (div-eq_of_lt (big n)) (sym (ne_eqb (suc n) 0 (λ e. omega arith)))
  where
    big : (n : ℕ) → 1 < 2 ^ suc n
    big zero = omega arith
    big (suc n) = let h = big n in omega (arith, Prim.Native.Nat.pow.suc 2 (suc n))

-- Two numbers that hold what the two sides name, without RSVP-TE, are those of the link.
module _ (a b c : List ℕ) (standard users : ℕ) where
  pub lists : accepted ≡ link_verdict a b c → standard < 2 ^ 64 → users < 2 ^ 64
      → ((n : ℕ) → n < 64 → in_number standard n ≡ (named n (side_a a) || named n (side_b b c)) && not (eqb n 0))
      → ((n : ℕ) → n < 64 → in_number users n ≡ named (user n) (side_a a) || named (user n) (side_b b c))
      → listed standard users ≡ list_named (link_source a b c)
  unfolding list_named link_source unless
  lists v ls lu hs hu =
      rw (← v)
      (ap₂ listed
      (is_number standard (λ n. member n others && (named n (side_a a) || named n (side_b b c))) ls
      (λ n h. hs n h ∙ and_comm (named n (side_a a) || named n (side_b b c)) (not (eqb n 0)) ∙ ap
      (λ (x : Bool). x && (named n (side_a a) || named n (side_b b c))) (sym (standard-is n h))))
      (is_number users (λ n. member (user n) others && (named (user n) (side_a a) || named (user n) (side_b b c))) lu
      (λ n h. hu n h ∙ sym (user-is n (side_a a) (side_b b c)))))

-- What the sides tell, as the checks have it.
pub told_names : (a b c : List ℕ) (r : Result Sides Refusal) → Given (OfSides a b c) r → (s : Sides) → r ≡ Ok s → OfSides a b c s
told_names a b c r h s e = subst (Given (OfSides a b c)) e h

-- What is in the numbers, from what each step says of them: m is whom either side names, with the bytes of masks.
module _ (a b c : List ℕ) (x y m : Names) (p : Tells (side_a a).live x) (q : Tells (side_b b c).live y) (j : Joins x y m) where
  either : (n : ℕ) → in_set m.named n ≡ named n (side_a a) || named n (side_b b c)
  either n = j.named n ∙ ap₂ (λ (u v : Bool). u || v) (side-named (side_a a) x p n) (side-named (side_b b c) y q n)

  module _ (who : Applications) (ht : (n : ℕ) → at_place who n ≡ in_set m.named n) where
    pub standard-in : (s : ℕ) → ((n : ℕ) → in_number s n ≡ in_number who.standard n && not (in_number 1 n))
        → (n : ℕ) → n < 64 → in_number s n ≡ (named n (side_a a) || named n (side_b b c)) && not (eqb n 0)
    standard-in s hs n h = hs n ∙ ap₂ (λ (u v : Bool). u && not v) (sym (place-low who n h) ∙ ht n ∙ either n) (in_one n)

    pub user-in : (n : ℕ) → n < 64 → in_number who.user n ≡ named (user n) (side_a a) || named (user n) (side_b b c)
    unfolding user
    user-in n h = sym (place-high who n) ∙ ht (64 + n) ∙ either (64 + n)

-- Without runs B and C there is no SRLG to answer with.
pub none-there : (b c : List ℕ) (whom : Subject) (list : List ℕ) → (eqb (length b) 0 && eqb (length c) 0) ≡ true
    → record { reply = absent; list = list } ≡ srlg_answer (srlgs (given_on whom 1096 (side_b b c))) list
unfolding srlg_answer unwritten empty
none-there b c whom list e = sym (ap (λ (ns : List ℕ). srlg_answer ns list) (no-srlgs b c whom e))

-- What the code answers SRLG with, of the link.
pub srlg-of-link : (a b c : List ℕ) (whom : Subject) (list : List ℕ) (x : Asked) → x ≡ srlg_answer (srlgs (given_on whom 1096 (side_b b c))) list
    → x ≡ srlg_answer (srlgs (set_of (link_source a b c) whom 1096)) list
srlg-of-link a b c whom list x e = e ∙ ap (λ (ts : List Attribute). srlg_answer (srlgs ts) list) (given-in-b a b c whom)
