-- Each way that a question is answered in words: refused, SRLG, absent, or read where its value stands; and each way that a value's place is told.
use mathlib.Core.Path.{◌≡◌, refl, sym, ap, ◌∙◌}
use mathlib.Core.Bool.{Bool, true, false, cond}
use mathlib.Core.List.{List, [], ◌∷◌}
use Prim.Native.Nat.{ℕ, ◌+◌, ◌-◌}
use native.Mathlib.Omega.{arith}
use borrow.Author.Tests.{eq-eqb, ne_eqb}
use lib.Dec.{eqb, ltb}
use lib.Ieee.{Float as IeeeFloat}
use lib.ListN.{length, take, drop, get_or}
use Rattle.linkstate.specs.Lists.{empty}
use Rattle.linkstate.specs.Bytes.{number, bytes_at}
use Rattle.linkstate.specs.Kinds.{Form, float, form_of}
use Rattle.linkstate.specs.Replies.{Run, run_a, run_bgp_ls, Verdict, accepted, refused, Refusal, refused_if, fault_of_call, fault, ◌then◌, unless, Reading, bandwidth, Reply, absent, found, ask_refused, Asked, Place, place}
use Rattle.linkstate.specs.Attributes.{Attribute, of_kind, reading_as, srlgs}
use Rattle.linkstate.specs.Questions.{Source, Subject, given, before_answer, first_of, unwritten, srlg_answer, answer, ask, bytes_of_first, value}
use Rattle.octets.proofs.Laws.{part-is}
use Rattle.kinds.specs.declared.Form.{Form as CodeForm}
use Rattle.kinds.specs.declared.Form.TheVariants.{WholeNumber, TwoNumbers, Float, PlaceAndLength, SrlgCount}
use Rattle.kinds.specs.Rules.{told_form}
use Rattle.answering.specs.Standing.{standing}
use Rattle.answering.specs.Rows.{row_answer}
use Rattle.answering.proofs.RowLaws.{StandsIn, row-answers, row-part}
use Rattle.std.specs.Prelude.{Option, None, Some}
use Rattle.octets.specs.declared.Span.{Span}
use Rattle.octets.specs.Spans.{found_in}
use Rattle.answering.proofs.Entries.{ask-refused, ask-answered, answer-other, value-part}
use Rattle.statuses.specs.Words.{two, nothing, placed, refusal_words, reading_words, reply_words, ask_words, place_words, value_words}
use Rattle.statuses.proofs.Laws.{no_bits, status-3}
use Rattle.statuses.specs.Answered.{Answers, row_words}

-- ---- a question that finds a bandwidth

srlg-no-bandwidth : (ns list : List ℕ) (x : IeeeFloat) → (srlg_answer ns list).reply ≡ found (bandwidth x) → ⊥
unfolding srlg_answer unwritten refused_if fault_of_call fault unless
srlg-no-bandwidth ns list x = go (empty ns) (ltb (length list) (length ns))
  where
    go : (b d : Bool)
        → (cond b (unwritten list absent)
        (unless (refused_if d 5) (λ r. unwritten list (ask_refused r))
        (record { reply = found (Rattle.linkstate.specs.Replies.count (length ns)); list = Rattle.linkstate.specs.Lists.put list 0 ns }))).reply
        ≡ found (bandwidth x) → ⊥
    go true d e = let z : ◌≡◌ {A = ℕ} 0 1 = cc in omega arith
    go false true e = let z : ◌≡◌ {A = ℕ} 0 1 = cc in omega arith
    go false false e = let z : ◌≡◌ {A = ℕ} 0 1 = cc in omega arith

pub record Finds (s : Source) (whom : Subject) (k : ℕ) (x : IeeeFloat) : Type 0 where
  pub before : before_answer s whom k ≡ accepted
  pub other : eqb k 1096 ≡ false
  pub first : first_of s.spot (of_kind k (given s whom k)) ≡ found (bandwidth x)

finds : (s : Source) (whom : Subject) (k : ℕ) (list : List ℕ) (x : IeeeFloat) → (ask s whom k list).reply ≡ found (bandwidth x) → Finds s whom k x
unfolding ask answer unless unwritten
finds s whom k list x = go (before_answer s whom k) refl (eqb k 1096) refl
  where
    go : (v : Verdict) → before_answer s whom k ≡ v → (b : Bool) → eqb k 1096 ≡ b
        → (unless v (λ r. unwritten list (ask_refused r))
        (cond b (srlg_answer (srlgs (given s whom k)) list) (unwritten list (first_of s.spot (of_kind k (given s whom k)))))).reply ≡ found (bandwidth x)
        → Finds s whom k x
    go (refused r) v b d e = absurd (let z : ◌≡◌ {A = ℕ} 0 1 = cc in omega arith)
    go accepted v true d e = absurd (srlg-no-bandwidth (srlgs (given s whom k)) list x e)
    go accepted v false d e = record { before = v; other = d; first = e }

-- ---- a value that stands at a place

module _ (s : List ℕ) (spot : ℕ → Place) (p n : ℕ) where
  -- A float by the bits of the code's slice.
  pub float-words : (f : Form) → f ≡ float
      → two 3 (number (take (p + n - p) (drop p s))) 0 ≡ reading_words (number (bytes_at s p n)) (reading_as f spot (standing s p n))
  unfolding reading_as
  float-words f e = rw e (ap (λ (v : List ℕ). two 3 (number v) 0) (part-is s p n))

  -- Any other form has no bits.
  pub other-words : (f : CodeForm) → (f ≡ Float → ⊥) → (g : Form) → told_form f ≡ g → (x : Reading)
      → x ≡ reading_as (told_form f) spot (standing s p n)
      → (w : List ℕ) → w ≡ reading_words 0 x → w ≡ reading_words (number (bytes_at s p n)) (reading_as g spot (standing s p n))
  unfolding reading_as
  other-words f o g e x h w i =
      i ∙ ap (reading_words 0) h ∙ go f o ∙ ap (λ (q : Form). reading_words (number (bytes_at s p n)) (reading_as q spot (standing s p n))) e
    where
      go : (f : CodeForm) → (f ≡ Float → ⊥)
          → reading_words 0 (reading_as (told_form f) spot (standing s p n)) ≡ reading_words (number (bytes_at s p n))
          (reading_as (told_form f) spot (standing s p n))
      go WholeNumber o = refl
      go TwoNumbers o = refl
      go Float o = absurd (o refl)
      go PlaceAndLength o = refl
      go SrlgCount o = refl

-- ---- the place of a value

module _ (s : Source) (whom : Subject) (k : ℕ) where
  pub place-refused : (w : List ℕ) (x : Refusal) → w ≡ nothing → before_answer s whom k ≡ refused x → w ≡ value_words s whom k
  unfolding value_words unless
  place-refused w x n e = n ∙ rw e

  pub place-srlg : (w : List ℕ) → w ≡ nothing → before_answer s whom k ≡ accepted → k ≡ 1096 → w ≡ value_words s whom k
  unfolding value_words unless
  place-srlg w n e h = n ∙ rw (e, eq-eqb k 1096 h)

  pub place-first : (w : List ℕ) → before_answer s whom k ≡ accepted → (k ≡ 1096 → ⊥) → w ≡ place_words s.spot (of_kind k (given s whom k))
      → w ≡ value_words s whom k
  unfolding value_words unless
  place-first w e h p = rw (e, ne_eqb k 1096 h) p

pub row-placed : (run : Run) (row : Option Span) (span : Span) → row ≡ Some span → (ts : List Attribute) → row ≡ found_in ts
    → placed 4 span.place span.len run ≡ place_words (place run) ts
unfolding found_in place_words place
row-placed run row span f [] e = let z : Some span ≡ None = sym f ∙ e in cc
row-placed run row span f (t ∷ ts) e = let z : Some span ≡ Some (record { place = t.at; len = t.len }) = sym f ∙ e in
    let x : span ≡ record { place = t.at; len = t.len } = cc in rw x

pub row-not-placed : (run : Run) (row : Option Span) → row ≡ None → (ts : List Attribute) → row ≡ found_in ts → nothing ≡ place_words (place run) ts
unfolding found_in place_words
row-not-placed run row f [] e = refl
row-not-placed run row f (t ∷ ts) e = let z : ◌≡◌ {A = Option Span} None (Some (record { place = t.at; len = t.len })) = sym f ∙ e in cc

-- ---- the answer to a question

module _ (s : Source) (whom : Subject) (k : ℕ) (list after : List ℕ) (x : Reply) (e : record { reply = x; list = after } ≡ ask s whom k list) where
  -- By its reply, with the bits of the value.
  pub answered : (w : List ℕ) → w ≡ reply_words (number (value s whom k)) x → Answers s whom k list w after
  unfolding ask_words
  answered w h = (h ∙ ap (λ (q : Asked). reply_words (number (value s whom k)) q.reply) e, ap (λ (q : Asked). q.list) e)

  -- SRLGs have no bits.
  pub answered-srlg : k ≡ 1096 → (w : List ℕ) → w ≡ reply_words 0 x → Answers s whom k list w after
  answered-srlg z w h = answered w (h ∙ no_bits x 0 (number (value s whom k)) never)
    where
      never : get_or (reply_words 0 x) 0 0 ≡ 3 → ⊥
      never t =
          let b = status-3 x 0 t in
          let f = finds s whom k list b.float (sym (ap (λ (q : Asked). q.reply) e) ∙ b.is) in
          let y : ◌≡◌ {A = ℕ} 0 1 = cc (f.other, eq-eqb k 1096 z) in
          omega arith

-- Refused, absent, or read where it stands.
module _ (s : Source) (whom : Subject) (k : ℕ) (list : List ℕ) where
  pub asked-refused : (x : Refusal) → before_answer s whom k ≡ refused x → (w : List ℕ) → w ≡ refusal_words x → Answers s whom k list w list
  asked-refused x e w h = answered s whom k list list (ask_refused x) (ask-refused s whom k list x e) w h

  module _ (e : before_answer s whom k ≡ accepted) (other : k ≡ 1096 → ⊥) where
    abbrev first : Reply
    first = first_of s.spot (of_kind k (given s whom k))

    pub asked-first : (x : Reply) → first ≡ x → (w : List ℕ) → w ≡ reply_words (number (value s whom k)) x → Answers s whom k list w list
    asked-first x f w h =
        answered s whom k list list first (answer-other s whom k s.spot list first other refl ∙ ask-answered s whom k list e) w
        (h ∙ ap (reply_words (number (value s whom k))) (sym f))

    -- by where the first value stands in the source's bytes
    module _ (b : List ℕ) (stands : (t : Attribute) (us : List Attribute) → of_kind k (given s whom k) ≡ t ∷ us → StandsIn b s.spot k t)
        (row : Option Span) (is : row ≡ found_in (of_kind k (given s whom k)))
        (own : (v : List ℕ) → v ≡ bytes_of_first b (of_kind k (given s whom k)) → v ≡ bytes_of_first s.bytes (of_kind k (given s whom k))) where
      told_by : first ≡ row_answer b s.spot k row
      told_by = sym (row-answers b s.spot k (of_kind k (given s whom k)) stands row is (row_answer b s.spot k row) refl)

      pub asked-row : (w : List ℕ) → w ≡ row_words b s.spot k row → Answers s whom k list w list
      asked-row w h = go row refl
        where
          go : (q : Option Span) → row ≡ q → Answers s whom k list w list
          go None j = asked-first absent (told_by ∙ ap (row_answer b s.spot k) j) w (h ∙ ap (row_words b s.spot k) j)
          go (Some span) j =
              let x = reading_as (form_of k) s.spot (standing b span.place span.len) in
              asked-first (found x) (told_by ∙ ap (row_answer b s.spot k) j) w
              (h ∙ ap (row_words b s.spot k) j
              ∙ ap (λ (l : List ℕ). reading_words (number l) x)
              (sym (part-is b span.place span.len) ∙ value-part s whom k _ e other (own _ (row-part b s.spot k (of_kind k (given s whom k)) stands row is span j))))
