-- What the functions hand over is what the caller asked for: by the number that the caller gave, and as the entries answer it.
use mathlib.Core.Path.{◌≡◌, ap, ◌∙◌}
use mathlib.Core.Bool.{cond}
use mathlib.Core.List.{List}
use Prim.Native.Nat.{ℕ}
use Rattle.linkstate.specs.Replies.{Asked, Length, Exported, Named}
use Rattle.linkstate.specs.Questions.{Source, Subject, ask}
use Rattle.linkstate.specs.Kinds.{is_link_code}
use Rattle.linkstate.specs.BgpLs.{run_source}
use Rattle.linkstate.specs.Why.{Why, subject_why, bandwidth_why}
use Rattle.linkstate.specs.RunWhy.{run_why, top_why, stand_run}
use Rattle.isis.specs.Link.{link_source}
use Rattle.isis.specs.Why.{link_why, side_why, stand_a, stand_of}
use Rattle.statuses.specs.Words.{whom_of, least, ask_words, value_words, named_words, length_words, why_words}
use Rattle.statuses.proofs.Laws.{asked_low, ask-words-low, value-words-low, why-low}

module _ (s : Source) (who number k : ℕ) (v : Subject) (e : v ≡ whom_of who (least number)) (u w : List ℕ) (h : u ≡ w) where
  pub asked_by : (list after : List ℕ) → (w ≡ ask_words s v k list) × (after ≡ (ask s v k list).list)
      → (u ≡ ask_words s (whom_of who number) k list) × (after ≡ (ask s (whom_of who number) k list).list)
  asked_by list after p = (
    h ∙ p.0 ∙ ap (λ (x : Subject). ask_words s x k list) e ∙ ask-words-low s k list who number,
    p.1 ∙ ap (λ (x : Subject). (ask s x k list).list) e ∙ ap (λ (q : Asked). q.list) (asked_low s k list who number),
  )

  pub value-by : w ≡ value_words s v k → u ≡ value_words s (whom_of who number) k
  value-by p = h ∙ p ∙ ap (λ (x : Subject). value_words s x k) e ∙ value-words-low s k who number

-- Why, whose answer is one of a subject.
module _ (who number k : ℕ) (v : Subject) (e : v ≡ whom_of who (least number)) (u w : List ℕ) (h : u ≡ w) (x : Why) (p : w ≡ why_words x) where
  by_number : (f : Subject → Why) → f (whom_of who (least number)) ≡ f (whom_of who number) → x ≡ f v → u ≡ why_words (f (whom_of who number))
  by_number f low q = h ∙ p ∙ ap why_words (q ∙ ap f e ∙ low)

  pub link-why-by : (a b c : List ℕ) → x ≡ link_why a b c v k → u ≡ why_words (link_why a b c (whom_of who number) k)
  unfolding link_why
  link-why-by a b c = by_number (λ s. link_why a b c s k) (why-low (link_source a b c) k (λ s. cond (is_link_code k) (bandwidth_why k (stand_a a)) (side_why s k (stand_of a b c k))) who number)

  pub run-why-by : (r : List ℕ) → x ≡ run_why r v k → u ≡ why_words (run_why r (whom_of who number) k)
  unfolding run_why
  run-why-by r = by_number (λ s. run_why r s k) (why-low (run_source r) k (λ s. cond (is_link_code k) top_why (subject_why top_why s k (stand_run r))) who number)

pub named_by : (u w : List ℕ) (x y : Named) → u ≡ w → w ≡ named_words x → x ≡ y → u ≡ named_words y
named_by u w x y h p e = h ∙ p ∙ ap named_words e

pub exported-by : (u w after : List ℕ) (x : Length) (y : Exported) → u ≡ w → w ≡ length_words x → record { reply = x; buffer = after } ≡ y → (u ≡ length_words y.reply) × (after ≡ y.buffer)
exported-by u w after x y h p e = (h ∙ p ∙ ap (λ (q : Exported). length_words q.reply) e, ap (λ (q : Exported). q.buffer) e)

pub length-by : (u w : List ℕ) (x y : Length) → u ≡ w → w ≡ length_words x → x ≡ y → u ≡ length_words y
length-by u w x y h p e = h ∙ p ∙ ap length_words e
