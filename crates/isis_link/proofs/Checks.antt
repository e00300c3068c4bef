-- What the checks before an answer leave, part by part.
use mathlib.Core.Path.{◌≡◌, sym, ap, ◌∙◌, subst}
use mathlib.Core.Bool.{false, ◌||◌}
use mathlib.Core.List.{List}
use Prim.Native.Nat.{ℕ, ◌≤◌}
use borrow.Author.Tests.{ltb-false}
use lib.Dec.{eqb, ltb}
use lib.ListN.{length}
use Rattle.linkstate.specs.Replies.{Verdict, accepted, refused, run_a, run_b, ◌then◌}
use Rattle.linkstate.specs.Elements.{elements, faults}
use Rattle.linkstate.specs.Questions.{Subject, before_answer}
use Rattle.linkstate.proofs.ListLaws.{or_l, or_r}
use Rattle.linkstate.proofs.WalkLaws.{then-first, then-second, unrefused}
use Rattle.isis.specs.RunA.{check_a}
use Rattle.isis.specs.RunB.{check_b}
use Rattle.isis.specs.Link.{link_verdict, link_source}
use Rattle.replies.specs.declared.Refusal.{Refusal as Fault}
use Rattle.replies.specs.Told.{told_refusal, told_checked}
use Rattle.answering.proofs.Entries.{Question, question-low, question-known, by-question, by_bytes, by-nothing}
use Rattle.isis_check.specs.declared.Sides.{Sides}
use Rattle.std.specs.Prelude.{Result, Ok, Err}
use Rattle.rules.specs.Names.{Given}
use Rattle.isis_check.specs.Sides.{ChecksLink}
use Rattle.isis_link.specs.Asked.{Asked, ChecksAsked, AskedInA}

-- ---- an accepted link

module _ (a b c : List ℕ) (ok : link_verdict a b c ≡ accepted) where
  sizes : (ltb 2048 (length a) || ltb 2048 (length b)) || ltb 1024 (length c) ≡ false
  unfolding link_verdict
  sizes = unrefused _ 1 (then-first _ _ ok)

  runs : (faults run_a check_a (elements 1 0 a) then faults run_b check_b (elements 1 0 b)) ≡ accepted
  unfolding link_verdict
  runs = then-second _ _ (then-second _ _ ok)

  pub a-passed : faults run_a check_a (elements 1 0 a) ≡ accepted
  a-passed = then-first _ _ runs

  pub b-passed : faults run_b check_b (elements 1 0 b) ≡ accepted
  b-passed = then-second _ _ runs

  pub b-short : length b ≤ 2048
  b-short =
      ltb-false 2048 (length b) (or_r (ltb 2048 (length a)) (ltb 2048 (length b))
      (or_l (ltb 2048 (length a) || ltb 2048 (length b)) (ltb 1024 (length c)) sizes))

  pub c-short : length c ≤ 1024
  c-short = ltb-false 1024 (length c) (or_r (ltb 2048 (length a) || ltb 2048 (length b)) (ltb 1024 (length c)) sizes)

-- ---- the checks

module _ (a b c : List ℕ) (whom : Subject) (k : ℕ) where
  source-verdict : (v : Verdict) → v ≡ link_verdict a b c → v ≡ (link_source a b c).verdict
  unfolding link_source
  source-verdict v e = e

  pub refused-first : (x : Fault) → refused (told_refusal x) ≡ Question (link_source a b c) whom k → ChecksAsked a b c whom k (Err x)
  refused-first x q = record { told = sym (by-question (link_source a b c) whom k (told_refusal x) q); asked = tt }

  pub as-link : (r : Result Sides Fault) → accepted ≡ Question (link_source a b c) whom k → ChecksLink a b c r → ChecksAsked a b c whom k r
  as-link (Err x) q h =
      record { told = sym (by_bytes (link_source a b c) whom k (told_refusal x) q (source-verdict (refused (told_refusal x)) h.told)); asked = tt }
  as-link (Ok s) q h =
      record {
        told = sym (by-nothing (link_source a b c) whom k q (source-verdict accepted h.told));
        asked =
            record {
              link = sym h.told;
              low = question-low (link_source a b c) whom k (sym q);
              known = question-known (link_source a b c) whom k (sym q);
              sides = h.names;
            };
      }

  -- as the entries have them
  module _ (r : Result Sides Fault) (h : ChecksAsked a b c whom k r) where
    pub asked-refused : (x : Fault) → r ≡ Err x → before_answer (link_source a b c) whom k ≡ refused (told_refusal x)
    asked-refused x e = sym h.told ∙ ap told_checked e

    module _ (s : Sides) (e : r ≡ Ok s) where
      pub asked-passed : before_answer (link_source a b c) whom k ≡ accepted
      asked-passed = sym h.told ∙ ap told_checked e

      pub asked-with : Asked a b c whom k s
      asked-with = subst (λ (x : Result Sides Fault). Given (Asked a b c whom k) x) e h.asked

pub asked-in-a : (a b c : List ℕ) (whom : Subject) (k : ℕ) (s : Sides) → Asked a b c whom k s → eqb k 1096 ≡ false → AskedInA a whom k s.a
asked-in-a a b c whom k s q o = record { passed = a-passed a b c q.link; low = q.low; known = q.known; other = o; tells = q.sides.in_a }
