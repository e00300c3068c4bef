-- One law for each way in which a check of a BGP-LS run can go.
use mathlib.Core.Path.{◌≡◌, refl, sym, ap, ap₂, ◌∙◌}
use mathlib.Core.Bool.{Bool, true, false, ◌&&◌, ◌||◌, not, and-true, or-false, false≢true}
use mathlib.Core.List.{List, []}
use Prim.Native.Nat.{ℕ, ◌+◌, ◌%◌, ◌≤◌, ◌<◌}
use native.Mathlib.Omega.{arith}
use borrow.Author.Tests.{lt-ltb, le-ltb, le-leb, eq-eqb}
use lib.Dec.{leb, eqb}
use lib.ListN.{length}
use Rattle.linkstate.specs.Replies.{accepted, refused, refusal_at, run_a, fault, fault_of_call, refused_if, ◌then◌, run_bgp_ls}
use Rattle.linkstate.specs.Elements.{Element, elements, faults, faults_once}
use Rattle.linkstate.specs.Lists.{keep}
use Rattle.linkstate.specs.Kinds.{kinds, fits, has_code, is_applications, wrong_inside, wrong_at_top}
use Rattle.linkstate.proofs.Computing.{computing}
use Rattle.linkstate.specs.BgpLs.{sabm_length, udabm_length, asla_header, is_mask_length, not_ignored, check_inner, known_inside, check_asla, check_top, run_verdict}
use Rattle.frames.proofs.Walks.{walking}
use Rattle.repeats.proofs.Once.{Once}
use Rattle.kinds.specs.declared.Kind.{Kind}
use Rattle.kinds.specs.declared.Kind.TheVariants.{Link, Application, Srlg, Asla, Unknown}
use Rattle.kinds.specs.declared.Size.{Size}
use Rattle.kinds.specs.declared.Rule.{Rule}
use Rattle.kinds.specs.Rules.{rule_of_code, fits_in, wrong_inside_by, is_link, is_of_sets}
use Rattle.kinds.proofs.Laws.{any-kept, wrong-inside, wrong-at-top, code-of-sets}

-- ---- lengths

-- Four bytes are wrong for few codes.
pub inside-four : (c n : ℕ) → n ≡ 4 → eqb c 1115 ≡ wrong_inside c n
unfolding computing
inside-four c n e = sym (ap (wrong_inside c) e ∙ any-kept (has_code c) (λ q. not (fits q.bgpls_size 4)) (keep is_applications kinds) ∙ or-false (eqb c 1115))

-- Of two codes the length is told at once.
pub inside-srlg : (c n : ℕ) → c ≡ 1096 → not (eqb (n % 4) 0) ≡ wrong_inside c n
unfolding computing
inside-srlg c n e =
    sym (ap (λ (x : ℕ). wrong_inside x n) e ∙ or-false (not (eqb (n % 4) 0 && leb 0 n))
    ∙ ap (λ (b : Bool). not (eqb (n % 4) 0 && b)) (le-leb 0 n (omega arith)) ∙ ap not (and-true (eqb (n % 4) 0)))

pub inside-delays : (c n : ℕ) → c ≡ 1115 → not (eqb n 8) ≡ wrong_inside c n
unfolding computing
inside-delays c n e = sym (ap (λ (x : ℕ). wrong_inside x n) e ∙ or-false (not (eqb n 8)))

pub top-four : (c n : ℕ) → n ≡ 4 → eqb c 1091 || eqb c 1115 ≡ wrong_at_top c n
unfolding computing
top-four c n e =
    sym (ap (wrong_at_top c) e ∙ any-kept (has_code c) (λ q. not (fits q.bgpls_size 4)) kinds ∙ ap (λ (b : Bool). eqb c 1091 || b) (or-false (eqb c 1115)))

-- ---- an inner element

-- By the rule of its code, whose kind is k.
pub inside-by : (r : Rule) (c n : ℕ) (k : Kind) → r ≡ rule_of_code c → r.kind ≡ k → wrong_inside c n ≡ wrong_inside_by k r.size n
inside-by r c n k e f =
    wrong-inside c n ∙ ap (λ (q : Rule). wrong_inside_by q.kind q.size n) (sym e) ∙ ap (λ (q : Kind). wrong_inside_by q r.size n) f

-- A kind of the link is unknown there.
pub inside-link : (k : Kind) (z : Size) (n : ℕ) → is_link k ≡ true → false ≡ wrong_inside_by k z n
unfolding wrong_inside_by is_link
inside-link (Link i) z n h = refl
inside-link (Application i) z n h = absurd (false≢true h)
inside-link Srlg z n h = absurd (false≢true h)
inside-link Asla z n h = absurd (false≢true h)
inside-link Unknown z n h = absurd (false≢true h)

pub inside-other : (k : Kind) (z : Size) (n : ℕ) → is_link k ≡ false → not (fits_in z n) ≡ wrong_inside_by k z n
unfolding wrong_inside_by is_link
inside-other (Link i) z n h = absurd (false≢true (sym h))
inside-other (Application i) z n h = refl
inside-other Srlg z n h = refl
inside-other Asla z n h = refl
inside-other Unknown z n h = refl

module _ (o t : ℕ) (v : List ℕ) where
  pub inner-right : wrong_inside t (length v) ≡ false → check_inner o t v ≡ accepted
  unfolding check_inner
  inner-right h = rw h

  pub inner-wrong : wrong_inside t (length v) ≡ true → check_inner o t v ≡ fault 4 run_bgp_ls o
  unfolding check_inner
  inner-wrong h = rw h

-- Known there by the kind of its rule.
pub known_by : (r : Rule) (c : ℕ) (k : Kind) → r ≡ rule_of_code c → r.kind ≡ k → is_of_sets k ≡ known_inside c
unfolding known_inside
known_by r c k e f = sym (code-of-sets c ∙ ap (λ (q : Rule). is_of_sets q.kind) (sym e) ∙ ap is_of_sets f)

-- A check of a list, with those that are left.
pub two_bytes : 0 < 2
two_bytes = omega arith

abbrev pub Listed : ℕ → List ℕ → ℕ → List Element → Type 0
Listed base s = Once run_bgp_ls known_inside check_inner 2 two_bytes base s 0 (faults_once run_bgp_ls known_inside check_inner [] (elements 2 base s))

-- ---- a 1122

-- By the mask lengths s and u that stand in its first two bytes.
module _ (v : List ℕ) (s u : ℕ) (e : s ≡ sabm_length v) (f : u ≡ udabm_length v) where
  pub header-live : is_mask_length s && is_mask_length u ≡ not_ignored v
  unfolding not_ignored
  header-live = ap₂ (λ (x y : ℕ). is_mask_length x && is_mask_length y) e f

  pub header-size : 4 + s + u ≡ asla_header v
  unfolding asla_header
  header-size = ap₂ (λ (x y : ℕ). 4 + x + y) e f

pub top-asla : (at t : ℕ) (v : List ℕ) → t ≡ 1122 → check_asla at v ≡ check_top at t v
unfolding check_top
top-asla at t v e = rw (eq-eqb t 1122 e)

-- ---- a top-level element

-- By the rule of its code.
pub top-by : (r : Rule) (c n : ℕ) → r ≡ rule_of_code c → wrong_at_top c n ≡ not (fits_in r.size n)
top-by r c n e = wrong-at-top c n ∙ ap (λ (q : Rule). not (fits_in q.size n)) (sym e)

-- ---- a run

pub run_long : (r : List ℕ) → 524288 < length r → refused (refusal_at 1 run_a 0) ≡ run_verdict r
unfolding run_verdict refused_if fault_of_call fault ◌then◌
run_long r h = rw (lt-ltb 524288 (length r) h)

pub run-begun : {es : List Element} (r : List ℕ) → es ≡ elements 2 0 r → length r ≤ 524288 → faults run_bgp_ls check_top es ≡ run_verdict r
unfolding run_verdict refused_if ◌then◌
run-begun r e h = rw (e, le-ltb 524288 (length r) h)

pub ruleset run_walk = (walking, run_long, run-begun)
