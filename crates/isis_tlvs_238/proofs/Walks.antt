-- A walk over a run B that passed its checks: one turn, and the numbers of its TLVs together.
use mathlib.Core.Path.{◌≡◌, refl, sym, ap, ◌∙◌}
use mathlib.Core.List.{List, [], ◌∷◌, ◌++◌, append_assoc, append-nil}
use Prim.Native.Nat.{ℕ, ◌+◌, ◌*◌, ◌/◌, ◌≤◌, ◌<◌}
use native.Mathlib.Omega.{arith}
use lib.Dec.{eqb}
use lib.ListN.{length, length-append}
use Rattle.linkstate.specs.Lists.{keep, each, put}
use Rattle.linkstate.specs.Bytes.{words}
use Rattle.linkstate.specs.Replies.{accepted, run_b}
use Rattle.linkstate.specs.Elements.{Element, element, elements, faults}
use Rattle.linkstate.specs.Attributes.{Attribute, of_kind}
use Rattle.linkstate.specs.Sides.{of_live}
use Rattle.linkstate.proofs.ListLaws.{keep_append, each_append}
use Rattle.frames.specs.Uncut.{left}
use Rattle.frames.proofs.Walks.{Stands, stands, left-all, passed-here, passed-rest}
use Rattle.octets.proofs.Laws.{put-nil, put_then}
use Rattle.isis.specs.RunB.{check_b, srlg_advertisements, side_b}
use Rattle.isis_tlvs_238.specs.declared.Which.{Which}
use Rattle.isis_tlvs_238.specs.Selected.{selects, srlg_words, words_in, Whole}
use Rattle.isis_tlvs_238.proofs.Tlvs as tlv

-- ---- lists joined

pub words_append : (ts us : List Attribute) → srlg_words (ts ++ us) ≡ srlg_words ts ++ srlg_words us
unfolding srlg_words of_kind
words_append ts us =
    ap (each (λ t. words t.value)) (keep_append (λ t. eqb 1096 t.code) ts us)
    ∙ each_append (λ t. words t.value) (keep (λ t. eqb 1096 t.code) ts) (keep (λ t. eqb 1096 t.code) us)

-- ---- the numbers of a run

words-all : (w : Which) (es : List Element) → srlg_words (each (λ d. d.attributes) (keep (selects w) (each srlg_advertisements es))) ≡ each (words_in w) es
unfolding each keep words_in
words-all w [] = tlv.words-none
words-all w (e ∷ es) =
    ap srlg_words
    (ap (each (λ d. d.attributes)) (keep_append (selects w) (srlg_advertisements e) (each srlg_advertisements es))
    ∙ each_append (λ d. d.attributes) (keep (selects w) (srlg_advertisements e)) (keep (selects w) (each srlg_advertisements es)))
    ∙ words_append (each (λ d. d.attributes) (keep (selects w) (srlg_advertisements e))) (each (λ d. d.attributes) (keep (selects w) (each srlg_advertisements es)))
    ∙ ap (λ (l : List ℕ). words_in w e ++ l) (words-all w es)

pub live-words : (w : Which) (b c : List ℕ) → each (words_in w) (elements 1 0 b) ≡ srlg_words (of_live (selects w) (side_b b c))
unfolding of_live side_b
live-words w b c = sym (words-all w (elements 1 0 b))

-- ---- one turn

-- The elements of a run B that are left at a place of it; at most a number for each four bytes before it was written, from `from` on up to `to`.
pub record AtPlace (b : List ℕ) (es : List Element) (from to : ℕ) : Type 0 where
  pub place : ℕ
  pub left : es ≡ left 1 0 b place
  pub passed : faults run_b check_b es ≡ accepted
  pub bound : place ≤ length b
  pub few : 4 * to ≤ 4 * from + place

pub one : 0 < 1
one = omega arith

abbrev pub place-begin : {b : List ℕ} {es : List Element} (from : ℕ) → es ≡ elements 1 0 b → faults run_b check_b (elements 1 0 b) ≡ accepted → AtPlace b es from from
place-begin {b} from e ok = record { place = 0; left = e ∙ sym (left-all 1 0 b); passed = ap (faults run_b check_b) e ∙ ok; bound = omega arith; few = omega arith }

module _ {b : List ℕ} {es : List Element} {from to : ℕ} (p : AtPlace b es from to) {o t : ℕ} {v : List ℕ} {rest : List Element} (e : es ≡ element o t v ∷ rest) where
  pub there : Stands 1 one 0 b p.place o t v rest
  there = stands 1 one 0 b p.place (sym p.left ∙ e)

  pub value-passed : check_b o t v ≡ accepted
  value-passed = passed-here run_b check_b e p.passed

  pub value-whole : Whole t v
  value-whole = tlv.whole o t v value-passed

  pub place-inside : p.place + 2 + length v ≤ length b
  place-inside = let s = there in omega (arith, s.whole.within)

  -- room for as many numbers as the value can have
  pub place-room : to + length v / 4 ≤ from + length b / 4
  place-room = let s = there in let f = p.few in omega (arith, s.whole.within)

  abbrev pub place-next : (k : ℕ) → k ≤ to + length v / 4 → AtPlace b rest from k
  place-next k h =
      let s = there in
      let f = p.few in
      record { place = p.place + 2 + length v; left = s.behind; passed = passed-rest run_b check_b e p.passed; bound = omega (arith, s.whole.within); few = omega (arith, s.whole.within) }

pub place-few : {b : List ℕ} {es : List Element} {from to : ℕ} → AtPlace b es from to → to ≤ from + length b / 4
place-few p = let f = p.few in let g = p.bound in omega arith

-- ---- what is written

-- The list `after` is `before` with numbers written from a place on, and `to` the place after them; they and those of what is left are all.
pub record Wrote (before after : List ℕ) (from to : ℕ) (rest all : List ℕ) : Type 0 where
  pub written : List ℕ
  pub place : to ≡ from + length written
  pub list : after ≡ put before from written
  pub joined : written ++ rest ≡ all

pub wrote_none : (l : List ℕ) (from : ℕ) (all : List ℕ) → Wrote l l from from all all
wrote_none l from all = record { written = []; place = omega arith; list = put-nil l from; joined = refl }

module _ (w : Which) {es : List Element} {before after : List ℕ} {from to : ℕ} {all : List ℕ} (so : Wrote before after from to (each (words_in w) es) all) where
  pub wrote-next : {x : Element} {rest : List Element} → es ≡ x ∷ rest → (last : List ℕ) (k : ℕ) → k ≡ to + length (words_in w x) → last ≡ put after to (words_in w x)
      → k ≤ length before → Wrote before last from k (each (words_in w) rest) all
  unfolding each
  wrote-next {x} {rest} i last k e f room =
      record {
        written = so.written ++ words_in w x;
        place = omega (arith, so.place, length-append so.written (words_in w x));
        list = put_then before after last from so.written to (words_in w x) so.list f so.place (omega arith);
        joined = append_assoc so.written (words_in w x) (each (words_in w) rest) ∙ ap (λ (es : List Element). so.written ++ each (words_in w) es) (sym i) ∙ so.joined;
      }

  pub wrote-all : es ≡ [] → (to ≡ from + length all) × (after ≡ put before from all)
  unfolding each
  wrote-all end =
      let e : so.written ≡ all = sym (append-nil so.written) ∙ ap (λ (es : List Element). so.written ++ each (words_in w) es) (sym end) ∙ so.joined in
      (so.place ∙ ap (λ (l : List ℕ). from + length l) e, so.list ∙ ap (put before from) e)
