-- SRLG numbers, element by element and list by list, counted and written.
use mathlib.Core.Path.{◌≡◌, refl, sym, ap, ◌∙◌, subst}
use mathlib.Core.Bool.{Bool, true, false, cond}
use mathlib.Core.List.{List, [], ◌∷◌, ◌++◌, map}
use Prim.Native.Nat.{ℕ, ◌+◌, ◌*◌, ◌≤◌, ◌<◌}
use native.Mathlib.Omega.{arith}
use borrow.Author.Tests.{eq-eqb, ne_eqb, ltb-true, ltb-false}
use lib.Dec.{eqb, ltb}
use lib.ListN.{length, take, drop, length-append, length-drop}
use Rattle.linkstate.specs.Lists.{keep, each, put}
use Rattle.linkstate.specs.Bytes.{words}
use Rattle.linkstate.specs.Elements.{Element, element, cut, type_of, length_of, size_of, elements}
use Rattle.linkstate.specs.Attributes.{Attribute, attribute, of_kind}
use Rattle.linkstate.specs.BgpLs.{attributes_of}
use Rattle.linkstate.proofs.ElementLaws.{moved, elements-moved, Framed, done, short, step, framed, value-length}
use Rattle.octets.proofs.Laws.{put-nil, put_then, length-put}
use Rattle.linkstate.proofs.ListLaws.{keep_append, each_append}
use Rattle.frames.specs.Uncut.{uncut}
use Rattle.srlg.proofs.Laws.{length-words}
use Rattle.bgpls_find.specs.declared.Set.{Set}
use Rattle.bgpls_find.specs.Walks.{Uncut, attributes_from, bytes_up_to, list_at}
use Rattle.bgpls_find.proofs.SetLaws as Set
use Rattle.bgpls_find.specs.Words.{srlg_words, list_words, element_words}

-- ---- elements

module _ (t : ℕ) (v : List ℕ) where
  pub of-1096 : t ≡ 1096 → words v ≡ element_words t v
  unfolding element_words
  of-1096 e = rw (eq-eqb 1096 t (sym e))

  pub of_others : (t ≡ 1096 → ⊥) → [] ≡ element_words t v
  unfolding element_words
  of_others h = rw (ne_eqb 1096 t (λ e. h (sym e)))

srlg-cons : (o t : ℕ) (v : List ℕ) (ts : List Attribute) → srlg_words (attribute 2 o v t v ∷ ts) ≡ element_words t v ++ srlg_words ts
unfolding srlg_words of_kind keep each element_words attribute
srlg-cons o t v ts = go (eqb 1096 t)
  where
    go : (b : Bool) → each (λ t. words t.value) (cond b (attribute 2 o v t v ∷ keep (λ t. eqb 1096 t.code) ts) (keep (λ t. eqb 1096 t.code) ts))
        ≡ cond b (words v) [] ++ each (λ t. words t.value) (keep (λ t. eqb 1096 t.code) ts)
    go true = refl
    go false = refl

srlg-append : (xs ys : List Attribute) → srlg_words (xs ++ ys) ≡ srlg_words xs ++ srlg_words ys
unfolding srlg_words of_kind
srlg-append xs ys =
    ap (each (λ t. words t.value)) (keep_append (λ t. eqb 1096 t.code) xs ys)
    ∙ each_append (λ t. words t.value) (keep (λ t. eqb 1096 t.code) xs) (keep (λ t. eqb 1096 t.code) ys)

-- Where a list of elements begins does not matter to its numbers.
srlg-moved : (d : ℕ) (es : List Element) → srlg_words (each attributes_of (map (moved d) es)) ≡ srlg_words (each attributes_of es)
unfolding each attributes_of moved
srlg-moved d [] = refl
srlg-moved d (cut at ∷ es) = srlg-moved d es
srlg-moved d (element at t v ∷ es) =
    srlg-cons (d + at) t v (each attributes_of (map (moved d) es))
    ∙ ap (λ (l : List ℕ). element_words t v ++ l) (srlg-moved d es)
    ∙ sym (srlg-cons at t v (each attributes_of es))

pub list-words : (base : ℕ) (s : List ℕ) → srlg_words (each attributes_of (elements 2 base s)) ≡ list_words s
unfolding list_words
list-words base s =
    let z : base ≡ base + 0 = omega arith in
    ap (λ (i : ℕ). srlg_words (each attributes_of (elements 2 i s))) z
    ∙ ap (λ (es : List Element). srlg_words (each attributes_of es)) (elements-moved 2 base 0 s)
    ∙ srlg-moved base (elements 2 0 s)

-- ---- what is left of a list

abbrev pub words_left : List Element → List ℕ
words_left es = srlg_words (each attributes_of es)

pub words-end : {es : List Element} → es ≡ [] → words_left es ≡ []
unfolding srlg_words of_kind keep each
words-end e = ap words_left e

pub words-turn : {es rest : List Element} {o t : ℕ} {v : List ℕ} → es ≡ element o t v ∷ rest → words_left es ≡ element_words t v ++ words_left rest
unfolding each attributes_of
words-turn {rest = rest} {o} {t} {v} e = ap words_left e ∙ srlg-cons o t v (each attributes_of rest)

pub words-start : (s : List ℕ) → words_left (elements 2 0 s) ≡ list_words s
words-start s = list-words 0 s

-- Four bytes make a number, so a list has no more than that.
length-element : (t : ℕ) (v : List ℕ) → length (element_words t v) * 4 ≤ length v
unfolding element_words
length-element t v = go (eqb 1096 t)
  where
    go : (b : Bool) → length (cond b (words v) []) * 4 ≤ length v
    go true = omega (arith, length-words v)
    go false = omega arith

framed-words : {at : ℕ} {s : List ℕ} {es : List Element} → Framed 2 at s es → length (words_left es) * 4 ≤ length s
unfolding size_of srlg_words of_kind keep each attributes_of
framed-words done = omega arith
framed-words (short h) = omega arith
framed-words {at} {s} (step {es = es} h f) =
    let t = type_of 2 s in
    let v = take (length_of 2 s) (drop 4 s) in
    let e : words_left (element at t v ∷ es) ≡ element_words t v ++ words_left es = words-turn {es = element at t v ∷ es} {rest = es} refl in
    omega (arith, ap length e, length-append (element_words t v) (words_left es), length-element t v, value-length 2 s h, framed-words f, length-drop (size_of 2 s) s)

pub few-words : (s : List ℕ) → length (list_words s) * 4 ≤ length s
few-words s = omega (arith, ap length (words-start s), framed-words (framed 2 (omega arith) 0 s))

-- ---- whether an element is cut off does not turn on where its list begins

uncut-moved : (d : ℕ) (es : List Element) → uncut (map (moved d) es) ≡ uncut es
unfolding moved
uncut-moved d [] = refl
uncut-moved d (cut at ∷ es) = refl
uncut-moved d (element at t v ∷ es) = uncut-moved d es

pub uncut_alone : (base : ℕ) (s : List ℕ) → Uncut base s → Uncut 0 s
uncut_alone base s u =
    let z : base ≡ base + 0 = omega arith in
    sym (uncut-moved base (elements 2 0 s)) ∙ ap uncut (sym (elements-moved 2 base 0 s)) ∙ ap (λ (i : ℕ). uncut (elements 2 i s)) (sym z) ∙ u

-- ---- what is left of a run

module _ (set : Set) (r : List ℕ) (from : ℕ) where
  pub set-end : length r ≤ from → srlg_words (attributes_from set r from) ≡ []
  unfolding srlg_words of_kind keep each
  set-end h = ap srlg_words (Set.attributes-end set r from h)

  pub set-none : attributes_from set r from ≡ [] → srlg_words (attributes_from set r from) ≡ []
  unfolding srlg_words of_kind keep each
  set-none e = ap srlg_words e

  -- with a list before them
  pub set-turn : (first next : ℕ)
      → srlg_words (list_at r first next ++ attributes_from set r from) ≡ list_words (bytes_up_to r first next) ++ srlg_words (attributes_from set r from)
  set-turn first next =
      srlg-append (list_at r first next) (attributes_from set r from)
      ∙ ap (λ (l : List ℕ). l ++ srlg_words (attributes_from set r from)) (list-words first (bytes_up_to r first next))

-- Where numbers are left, the run has not ended.
pub set_more : (set : Set) (r : List ℕ) (from : ℕ) → 0 < length (srlg_words (attributes_from set r from)) → from < length r
set_more set r from h = go (ltb from (length r)) refl
  where
    go : (b : Bool) → ltb from (length r) ≡ b → from < length r
    go true e = ltb-true from (length r) e
    go false e = let z : ⊥ = omega (arith, ap length (set-end set r from (ltb-false from (length r) e))) in absurd z

pub none_left : (l : List ℕ) → length l ≡ 0 → l ≡ []
none_left [] h = refl
none_left (x ∷ l) h = let z : ⊥ = omega arith in absurd z

-- ---- counted

-- n of them are counted, and those of l are left.
pub record Counted (all : List ℕ) (n : ℕ) (l : List ℕ) : Type 0 where
  pub sum : n + length l ≡ length all

pub count-start : (all l : List ℕ) → l ≡ all → Counted all 0 l
count-start all l e = record { sum = omega (arith, ap length e) }

pub count_next : (all l ws rest : List ℕ) (n m : ℕ) → Counted all n l → l ≡ ws ++ rest → m ≡ length ws → Counted all (n + m) rest
count_next all l ws rest n m c e f = record { sum = omega (arith, c.sum, ap length e, length-append ws rest) }

pub count-as : (all l m : List ℕ) (n : ℕ) → l ≡ m → Counted all n l → Counted all n m
count-as all l m n e c = subst (Counted all n) e c

pub count-end : (all l : List ℕ) (n : ℕ) → Counted all n l → l ≡ [] → n ≡ length all
count-end all l n c e = omega (arith, c.sum, ap length e)

-- ---- written

-- The numbers before k are written, and those of l are left.
pub record Written (d : List ℕ) (start : ℕ) (all : List ℕ) (out : List ℕ) (k : ℕ) (l : List ℕ) : Type 0 where
  pub same : length out ≡ length d
  pub room : k + length l ≤ length out
  pub at : k + length l ≡ start + length all
  pub rest : put out k l ≡ put d start all

module _ (d : List ℕ) (start : ℕ) (all : List ℕ) where
  pub written_start : (l : List ℕ) → l ≡ all → start + length all ≤ length d → Written d start all d start l
  written_start l e h = record { same = refl; room = omega (arith, ap length e); at = omega (arith, ap length e); rest = ap (put d start) e }

  pub written_next : (out after : List ℕ) (k m : ℕ) (l ws rest : List ℕ) → Written d start all out k l → l ≡ ws ++ rest → m ≡ k + length ws
      → after ≡ put out k ws
      → Written d start all after m rest
  written_next out after k m l ws others w e f g =
      let z : length l ≡ length ws + length others = ap length e ∙ length-append ws others in
      let room = w.room in
      let at = w.at in
      let n : length after ≡ length out = ap length g ∙ length-put out k ws (omega arith) in
      let same = w.same in
      record {
        same = omega arith;
        room = omega arith;
        at = omega arith;
        rest = put_then out after (put after m others) k ws m others g refl f (omega arith) ∙ sym (ap (put out k) e) ∙ w.rest;
      }

  pub written_as : (out : List ℕ) (k : ℕ) (l m : List ℕ) → l ≡ m → Written d start all out k l → Written d start all out k m
  written_as out k l m e w = subst (Written d start all out k) e w

  pub written-end : (out : List ℕ) (k : ℕ) (l : List ℕ) → Written d start all out k l → l ≡ [] → (k ≡ start + length all) × (out ≡ put d start all)
  written-end out k l w e = let at = w.at in (omega (arith, ap length e), put-nil out k ∙ sym (ap (put out k) e) ∙ w.rest)

-- The next numbers fit.
pub written-room : (d : List ℕ) (start : ℕ) (all out : List ℕ) (k : ℕ) (l ws rest : List ℕ) → Written d start all out k l → l ≡ ws ++ rest
    → k + length ws ≤ length out
written-room d start all out k l ws others w e = let room = w.room in omega (arith, ap length e, length-append ws others)

-- At the front of the list.
pub from_front : (d all out : List ℕ) (k : ℕ) (l : List ℕ) → Written d 0 all out k l → l ≡ [] → (k ≡ length all) × (out ≡ put d 0 all)
from_front d all out k l w e = let q = written-end d 0 all out k l w e in (omega arith, q.1)
