-- Each way that a shared step of a question can go.
use mathlib.Core.Path.{◌≡◌, refl, sym, ap, ◌∙◌}
use mathlib.Core.Bool.{Bool, true, false, not}
use mathlib.Core.List.{List, [], ◌∷◌}
use Prim.Native.Nat.{ℕ, ◌-◌, ◌≤◌, ◌<◌}
use native.Mathlib.Omega.{arith}
use borrow.Author.Tests.{lt-ltb, le-ltb}
use lib.ListN.{length, take, drop}
use Rattle.linkstate.specs.Lists.{empty, put}
use Rattle.linkstate.specs.Kinds.{is_code, is_link_code}
use Rattle.linkstate.specs.Replies.{accepted, refused, Refusal, refusal_at, fault, fault_of_call, refused_if, ◌then◌, unless, run_a, count, absent, found, ask_refused, Asked}
use Rattle.linkstate.specs.Questions.{srlg_answer, unwritten}
use Rattle.kinds.specs.declared.Rule.{Rule}
use Rattle.kinds.specs.Rules.{rule_of_code, is_known, is_link}
use Rattle.kinds.proofs.Laws.{code-known, code-link}

-- Whether a code is known is told by its rule's kind.
pub known-by-kind : (c : ℕ) (r : Rule) → r ≡ rule_of_code c → is_known r.kind ≡ is_code c
known-by-kind c r e = ap (λ (x : Rule). is_known x.kind) e ∙ sym (code-known c)

pub link-by-kind : (c : ℕ) (r : Rule) → r ≡ rule_of_code c → is_link r.kind ≡ is_link_code c
link-by-kind c r e = ap (λ (x : Rule). is_link x.kind) e ∙ sym (code-link c)

-- 6, then 7, then nothing.
module _ (high known : Bool) where
  pub refused-by-6 : (x : Refusal) → x ≡ refusal_at 6 run_a 0 → high ≡ true → refused x ≡ (refused_if high 6 then refused_if (not known) 7)
  unfolding refused_if fault_of_call fault ◌then◌
  refused-by-6 x e h = rw (h, e)

  pub refused-by-7 : (x : Refusal) → x ≡ refusal_at 7 run_a 0 → high ≡ false → known ≡ false → refused x ≡ (refused_if high 6 then refused_if (not known) 7)
  unfolding refused_if fault_of_call fault ◌then◌
  refused-by-7 x e h k = rw (h, k, e)

  pub no-refusal : high ≡ false → known ≡ true → accepted ≡ (refused_if high 6 then refused_if (not known) 7)
  unfolding refused_if ◌then◌
  no-refusal h k = rw (h, k)

-- SRLGs: none, too many, and as many as fit.
nothing : (ns : List ℕ) → length ns ≡ 0 → empty ns ≡ true
unfolding empty
nothing [] e = refl
nothing (n ∷ ns) e = absurd (omega arith)

something : (ns : List ℕ) → (length ns ≡ 0 → ⊥) → empty ns ≡ false
unfolding empty
something [] e = absurd (e refl)
something (n ∷ ns) e = refl

module _ (ns list : List ℕ) where
  pub srlgs-absent : length ns ≡ 0 → record { reply = absent; list = list } ≡ srlg_answer ns list
  unfolding srlg_answer unwritten
  srlgs-absent e = rw (nothing ns e)

  pub srlgs-too-many : (x : Refusal) → (length ns ≡ 0 → ⊥) → length list < length ns → x ≡ refusal_at 5 run_a 0 → record { reply = ask_refused x; list = list } ≡ srlg_answer ns list
  unfolding srlg_answer unwritten refused_if fault_of_call fault unless
  srlgs-too-many x n h e = rw (something ns n, lt-ltb (length list) (length ns) h, e)

  pub srlgs-written : (after : List ℕ) → (length ns ≡ 0 → ⊥) → length ns ≤ length list → after ≡ put list 0 ns → record { reply = found (count (length ns)); list = after } ≡ srlg_answer ns list
  unfolding srlg_answer refused_if unless
  srlgs-written after n h e = rw (something ns n, le-ltb (length list) (length ns) h, e)

-- The list's front is what was sorted.
pub srlg-front : (x : Asked) (l : List ℕ) (k : ℕ) (ns list : List ℕ) → x ≡ srlg_answer (take (k - 0) (drop 0 l)) list → take k l ≡ ns → x ≡ srlg_answer ns list
srlg-front x l k ns list e h =
    let z : k - 0 ≡ k = omega arith in
    e ∙ ap (λ (i : ℕ). srlg_answer (take i l) list) z ∙ ap (λ (i : List ℕ). srlg_answer i list) h
