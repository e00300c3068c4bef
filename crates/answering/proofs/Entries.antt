-- The entries over any source: refused by the question, refused by the bytes, or answered.
use mathlib.Core.Path.{◌≡◌, refl, sym, ap, ◌∙◌}
use mathlib.Core.Bool.{Bool, true, false, not}
use mathlib.Core.List.{List, []}
use Prim.Native.Nat.{ℕ}
use native.Mathlib.Omega.{arith}
use borrow.Author.Tests.{ne_eqb, eq-eqb}
use Rattle.linkstate.specs.Kinds.{is_code}
use Rattle.linkstate.specs.Attributes.{srlgs, of_kind}
use Rattle.linkstate.specs.Replies.{Verdict, accepted, refused, Refusal, refused_if, ◌then◌, unless, Reply, ask_refused, named_refused, Asked, Place}
use Rattle.linkstate.specs.Questions.{Source, Subject, number_too_high, set_of, given, before_answer, first_of, unwritten, srlg_answer, answer, ask, bytes_of_first, value, list_named}
use Rattle.linkstate.proofs.WalkLaws.{then-first, then-second, unrefused}
use Rattle.linkstate.proofs.Computing.{computing}

then-group : (u v w : Verdict) → ((u then v) then w) ≡ (u then (v then w))
unfolding ◌then◌
then-group accepted v w = refl
then-group (refused x) v w = refl

not-false : (b : Bool) → not b ≡ false → b ≡ true
not-false true e = refl
not-false false e = absurd (let z : ◌≡◌ {A = ℕ} 0 1 = cc in omega arith)

module _ (s : Source) (whom : Subject) (k : ℕ) where
  abbrev pub Question : Verdict
  Question = refused_if (number_too_high whom) 6 then refused_if (not (is_code k)) 7

  before-is : before_answer s whom k ≡ (Question then s.verdict)
  unfolding before_answer
  before-is = sym (then-group (refused_if (number_too_high whom) 6) (refused_if (not (is_code k)) 7) s.verdict)

  pub question-low : Question ≡ accepted → number_too_high whom ≡ false
  question-low q = unrefused (number_too_high whom) 6 (then-first (refused_if (number_too_high whom) 6) (refused_if (not (is_code k)) 7) q)

  pub question-known : Question ≡ accepted → is_code k ≡ true
  question-known q = not-false (is_code k) (unrefused (not (is_code k)) 7 (then-second (refused_if (number_too_high whom) 6) (refused_if (not (is_code k)) 7) q))

  -- before the answer
  pub by-question : (x : Refusal) → refused x ≡ Question → before_answer s whom k ≡ refused x
  unfolding ◌then◌
  by-question x q = before-is ∙ ap (λ (v : Verdict). v then s.verdict) (sym q)

  pub by_bytes : (x : Refusal) → accepted ≡ Question → refused x ≡ s.verdict → before_answer s whom k ≡ refused x
  unfolding ◌then◌
  by_bytes x q v = before-is ∙ ap (λ (w : Verdict). w then s.verdict) (sym q) ∙ sym v

  pub by-nothing : accepted ≡ Question → accepted ≡ s.verdict → before_answer s whom k ≡ accepted
  unfolding ◌then◌
  by-nothing q v = before-is ∙ ap (λ (w : Verdict). w then s.verdict) (sym q) ∙ sym v

  pub by-verdict : accepted ≡ Question → s.verdict ≡ before_answer s whom k
  unfolding ◌then◌
  by-verdict q = sym (before-is ∙ ap (λ (w : Verdict). w then s.verdict) (sym q))

  -- what the answer may take for granted
  module _ (e : before_answer s whom k ≡ accepted) where
    asked : Question ≡ accepted
    asked = then-first Question s.verdict (sym before-is ∙ e)

    pub asked-low : number_too_high whom ≡ false
    asked-low = question-low asked

    pub asked-known : is_code k ≡ true
    asked-known = question-known asked

    pub asked_bytes : s.verdict ≡ accepted
    asked_bytes = then-second Question s.verdict (sym before-is ∙ e)

  -- the question
  pub ask-refused : (list : List ℕ) (x : Refusal) → before_answer s whom k ≡ refused x → record { reply = ask_refused x; list = list } ≡ ask s whom k list
  unfolding ask unless unwritten
  ask-refused list x e = rw e

  pub ask-answered : (list : List ℕ) → before_answer s whom k ≡ accepted → answer s.spot k (given s whom k) list ≡ ask s whom k list
  unfolding ask unless
  ask-answered list e = rw e

  -- the value's bytes
  pub value-refused : (x : Refusal) → before_answer s whom k ≡ refused x → [] ≡ value s whom k
  unfolding value unless
  value-refused x e = rw e

  pub value-srlg : before_answer s whom k ≡ accepted → k ≡ 1096 → [] ≡ value s whom k
  unfolding value unless
  value-srlg e h = rw (e, eq-eqb k 1096 h)

  pub value-part : (v : List ℕ) → before_answer s whom k ≡ accepted → (k ≡ 1096 → ⊥) → v ≡ bytes_of_first s.bytes (of_kind k (given s whom k)) → v ≡ value s whom k
  unfolding value unless
  value-part v e h p = rw (e, ne_eqb k 1096 h) p

  -- the answer: SRLG, and every other kind
  pub answer-srlg : (spot : ℕ → Place) (list : List ℕ) (x : Asked) → k ≡ 1096 → x ≡ srlg_answer (srlgs (set_of s whom 1096)) list → x ≡ answer spot k (given s whom k) list
  unfolding answer given computing
  answer-srlg spot list x h e = rw h e

  pub answer-other : (spot : ℕ → Place) (list : List ℕ) (r : Reply) → (k ≡ 1096 → ⊥) → r ≡ first_of spot (of_kind k (given s whom k)) → record { reply = r; list = list } ≡ answer spot k (given s whom k) list
  unfolding answer unwritten
  answer-other spot list r h e = rw (ne_eqb k 1096 h, e)

-- the named applications
module _ (s : Source) where
  pub named-refused : (x : Refusal) → refused x ≡ s.verdict → named_refused x ≡ list_named s
  unfolding list_named unless
  named-refused x e = rw (← e)
