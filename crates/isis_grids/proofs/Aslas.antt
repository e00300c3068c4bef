-- ASLA sub-TLVs that passed their checks: what their headers promise, where their lists begin, and the turns of a loop that reads the selected lists.
use mathlib.Core.Path.{◌≡◌, refl, sym, ap, ap₂, ◌∙◌, subst}
use mathlib.Core.Logic.{◌⊎◌, inl, inr, ⊎_elim}
use mathlib.Core.Bool.{Bool, true, false, cond, ◌&&◌, ◌||◌, not}
use mathlib.Core.List.{List, [], ◌∷◌, ◌++◌}
use Prim.Native.Nat.{ℕ, ◌+◌, ◌-◌, ◌≤◌}
use native.Mathlib.Omega.{arith}
use borrow.Author.Tests.{eqb-true, eqb-false, eq-eqb, ne_eqb, ltb-false}
use lib.Dec.{eqb, ltb}
use lib.ListN.{length, take, drop, get_or}
use lib.Seq.{drop-length, drop_at}
use Rattle.linkstate.specs.Lists.{each, keep}
use Rattle.linkstate.specs.Bytes.{bytes_at}
use Rattle.linkstate.specs.Replies.{Verdict, accepted, run_a, fault}
use Rattle.linkstate.specs.Elements.{Element, element, elements, faults, faults_once}
use Rattle.linkstate.specs.Attributes.{Attribute}
use Rattle.linkstate.specs.Sides.{Advertisement, names, general, rsvp_te_alone, of_live}
use Rattle.linkstate.proofs.ElementLaws.{none_left}
use Rattle.linkstate.proofs.ListLaws.{keep_append, each_append}
use Rattle.linkstate.proofs.WalkLaws.{not-accepted, once-faults}
use Rattle.octets.proofs.Laws.{length-bytes_at, bytes_at-add}
use Rattle.isis.specs.MaskHeader.{l_flag, mask_too_long, l_for_nobody, header_length, advertisement}
use Rattle.isis.specs.RunA.{list_elements, check_attribute, known_type, check_asla, attributes_of, live_asla, asla_advertisements, side_a}
use Rattle.isis_grids.specs.declared.Which.{Which}
use Rattle.isis_grids.specs.declared.Which.TheVariants.{Naming, General, RsvpTeAlone, WithoutL}
use Rattle.isis_grids.specs.Selected.{selects, list_from, Headed, selected}
use Rattle.frames.specs.Uncut.{Uncut, uncut as is_uncut}
use Rattle.frames.proofs.Walks.{uncut}
use Rattle.isis_grids.proofs.Grids.{All}

-- ---- one ASLA

cond-passed : (b : Bool) (n o : ℕ) (w : Verdict) → cond b (fault n run_a o) w ≡ accepted → (b ≡ false) × (w ≡ accepted)
cond-passed true n o w e = absurd (not-accepted n run_a o e)
cond-passed false n o w e = (refl, e)

module _ (at : ℕ) (v : List ℕ) (ok : check_asla at v ≡ accepted) where
  fixed : (ltb (length v) 2 ≡ false) × (cond (mask_too_long v) accepted (cond (ltb (length v) (header_length v)) (fault 3 run_a at) (cond (l_for_nobody v) accepted (cond (l_flag v) accepted (faults_once run_a known_type check_attribute [] (list_elements at v))))) ≡ accepted)
  unfolding check_asla
  fixed = cond-passed (ltb (length v) 2) 3 at _ ok

  masked : mask_too_long v ≡ false → (ltb (length v) (header_length v) ≡ false) × (cond (l_for_nobody v) accepted (cond (l_flag v) accepted (faults_once run_a known_type check_attribute [] (list_elements at v))) ≡ accepted)
  masked m = cond-passed (ltb (length v) (header_length v)) 3 at _ (rw m at fixed.1)

  pub headed : Headed v
  headed = (ltb-false (length v) 2 fixed.0, λ m. ltb-false (length v) (header_length v) (masked m).0)

  pub list-ok : mask_too_long v ≡ false → l_flag v ≡ false → faults run_a check_attribute (list_elements at v) ≡ accepted
  unfolding l_for_nobody
  list-ok m l = once-faults run_a known_type check_attribute [] (list_elements at v) (rw l at (masked m).1)

-- No test looks at the attributes.
selects-same : (w : Which) (v : List ℕ) (ts us : List Attribute) → selects w (advertisement v ts) ≡ selects w (advertisement v us)
unfolding selects advertisement names general rsvp_te_alone
selects-same (Naming n) v ts us = refl
selects-same General v ts us = refl
selects-same RsvpTeAlone v ts us = refl
selects-same WithoutL v ts us = refl

pub append-nil : {A : Type 0} (xs : List A) → xs ++ [] ≡ xs
append-nil [] = refl
append-nil (x ∷ xs) = ap (λ (l : List _). x ∷ l) (append-nil xs)

one_kept : (p : Advertisement → Bool) (d : Advertisement) (b : Bool) → each (λ x. x.attributes) (keep p (cond b (d ∷ []) [])) ≡ cond (b && p d) d.attributes []
unfolding each keep
one_kept p d false = refl
one_kept p d true = go (p d)
  where
    go : (x : Bool) → each (λ x. x.attributes) (cond x (d ∷ []) []) ≡ cond x d.attributes []
    go true = append-nil d.attributes
    go false = refl

-- Which of the tests decide: l is the L-flag, m a mask too long, n L for nobody, x the selection.
decided : (l m x n : Bool) (ts : List Attribute) → (l ≡ false → n ≡ false) → cond (not (m || n) && x) (cond l [] ts) [] ≡ cond l [] (cond m [] (cond x ts []))
decided true true x n ts h = refl
decided true false true true ts h = refl
decided true false true false ts h = refl
decided true false false true ts h = refl
decided true false false false ts h = refl
decided false true x n ts h = refl
decided false false x n ts h = subst (λ (b : Bool). cond (not b && x) ts [] ≡ cond x ts []) (sym (h refl)) refl

through : {A B : Type 0} (f : A → B) (l m x : Bool) (i j : A) → f (cond l j (cond m j (cond x i j))) ≡ cond l (f j) (cond m (f j) (cond x (f i) (f j)))
through f true m x i j = refl
through f false true x i j = refl
through f false false true i j = refl
through f false false false i j = refl

module _ (w : Which) (at t : ℕ) (v : List ℕ) where
  abbrev from : List Element
  from = elements 1 (at + 2 + list_from w v) (drop (list_from w v) v)

  none : (i : ℕ) → each attributes_of (elements 1 i (drop (length v) v)) ≡ []
  unfolding each
  none i = ap (λ (l : List ℕ). each attributes_of (elements 1 i l)) (drop-length v) ∙ ap (each attributes_of) (none_left 1 i)

  -- The selected attributes of an ASLA are those of the list from where it begins.
  pub selected-asla : t ≡ 16 → selected w (element at t v) ≡ each attributes_of from
  unfolding selected asla_advertisements live_asla l_for_nobody list_from list_elements advertisement
  selected-asla e =
      let ts = each attributes_of (list_elements at v) in
      rw (eq-eqb t 16 e)
      (one_kept (selects w) (advertisement v ts) (not (mask_too_long v || l_for_nobody v))
      ∙ decided (l_flag v) (mask_too_long v) (selects w (advertisement v ts)) (l_for_nobody v) ts nobody
      ∙ ap (λ (b : Bool). cond (l_flag v) [] (cond (mask_too_long v) [] (cond b ts []))) (selects-same w v ts [])
      ∙ ends
      ∙ sym (through (λ (k : ℕ). each attributes_of (elements 1 (at + 2 + k) (drop k v))) (l_flag v) (mask_too_long v) (selects w (advertisement v [])) (header_length v) (length v)))
    where
      nobody : l_flag v ≡ false → l_for_nobody v ≡ false
      nobody l = rw l

      ends : cond (l_flag v) [] (cond (mask_too_long v) [] (cond (selects w (advertisement v [])) (each attributes_of (list_elements at v)) []))
          ≡ cond (l_flag v) (each attributes_of (elements 1 (at + 2 + length v) (drop (length v) v)))
          (cond (mask_too_long v) (each attributes_of (elements 1 (at + 2 + length v) (drop (length v) v)))
          (cond (selects w (advertisement v [])) (each attributes_of (elements 1 (at + 2 + header_length v) (drop (header_length v) v))) (each attributes_of (elements 1 (at + 2 + length v) (drop (length v) v)))))
      ends = rw (none (at + 2 + length v))

  pub selected-other : (t ≡ 16 → ⊥) → selected w (element at t v) ≡ []
  unfolding selected asla_advertisements each keep
  selected-other n = rw (ne_eqb t 16 n)

-- Where a list begins: past the end, or behind the masks of an ASLA that is read.
module _ (w : Which) (v : List ℕ) where
  list_cases : (list_from w v ≡ length v) ⊎ ((list_from w v ≡ header_length v) × (l_flag v ≡ false) × (mask_too_long v ≡ false))
  unfolding list_from
  list_cases = go (l_flag v) refl (mask_too_long v) refl (selects w (advertisement v []))
    where
      go : (l : Bool) → l_flag v ≡ l → (m : Bool) → mask_too_long v ≡ m → (x : Bool)
          → (cond l (length v) (cond m (length v) (cond x (header_length v) (length v))) ≡ length v)
          ⊎ ((cond l (length v) (cond m (length v) (cond x (header_length v) (length v))) ≡ header_length v) × (l_flag v ≡ false) × (mask_too_long v ≡ false))
      go true e m f x = inl refl
      go false e true f x = inl refl
      go false e false f true = inr (refl, e, f)
      go false e false f false = inl refl

  pub list-within : Headed v → list_from w v ≤ length v
  list-within h = ⊎_elim (λ e. omega arith) (λ e. omega (arith, e.0, h.1 e.2)) list_cases

  pub list-uncut : (at : ℕ) → check_asla at v ≡ accepted → Uncut (elements 1 (at + 2 + list_from w v) (drop (list_from w v) v))
  unfolding list_elements
  list-uncut at ok =
      ⊎_elim
      (λ e. ap (λ (k : ℕ). is_uncut (elements 1 (at + 2 + k) (drop k v))) e ∙ ap (λ (l : List ℕ). is_uncut (elements 1 (at + 2 + length v) l)) (drop-length v) ∙ ap is_uncut (none_left 1 (at + 2 + length v)))
      (λ e. ap (λ (k : ℕ). is_uncut (elements 1 (at + 2 + k) (drop k v))) e.0 ∙ uncut run_a check_attribute (list_elements at v) (list-ok at v ok e.2 e.1))
      list_cases

-- What holds of the attributes of every list that is read holds of those that are selected.
pub all-selected : (P : Attribute → Type 0) (w : Which) (at t : ℕ) (v : List ℕ) → (t ≡ 16 → l_flag v ≡ false → mask_too_long v ≡ false → All P (each attributes_of (list_elements at v))) → All P (selected w (element at t v))
unfolding list_elements
all-selected P w at t v h = go (eqb t 16) refl
  where
    go : (b : Bool) → eqb t 16 ≡ b → All P (selected w (element at t v))
    go true e =
        subst (All P) (sym (selected-asla w at t v (eqb-true t 16 e)))
        (⊎_elim (λ i. subst (λ (k : ℕ). All P (each attributes_of (elements 1 (at + 2 + k) (drop k v)))) (sym i) (subst (All P) (sym (none w at t v (at + 2 + length v))) tt))
        (λ i. subst (λ (k : ℕ). All P (each attributes_of (elements 1 (at + 2 + k) (drop k v)))) (sym i.0) (h (eqb-true t 16 e) i.1 i.2))
        (list_cases w v))
    go false e = subst (All P) (sym (selected-other w at t v (eqb-false t 16 e))) tt

-- ---- all ASLAs

selected-all : (w : Which) (es : List Element) → each (λ d. d.attributes) (keep (selects w) (each asla_advertisements es)) ≡ each (selected w) es
unfolding each keep selected
selected-all w [] = refl
selected-all w (e ∷ es) =
    ap (each (λ d. d.attributes)) (keep_append (selects w) (asla_advertisements e) (each asla_advertisements es))
    ∙ each_append (λ d. d.attributes) (keep (selects w) (asla_advertisements e)) (keep (selects w) (each asla_advertisements es))
    ∙ ap (λ (l : List Attribute). each (λ d. d.attributes) (keep (selects w) (asla_advertisements e)) ++ l) (selected-all w es)

pub live_all : (w : Which) (a : List ℕ) → of_live (selects w) (side_a a) ≡ each (selected w) (elements 1 0 a)
unfolding of_live side_a
live_all w a = selected-all w (elements 1 0 a)

-- ---- a list as a part of the run

-- What follows a position inside a part, as a part of the run.
bytes_of : (s : List ℕ) (p n : ℕ) → take n (drop p s) ≡ bytes_at s p n
unfolding bytes_at
bytes_of s p n = refl

part-drop : (s : List ℕ) (p n k : ℕ) → k ≤ n → p + n ≤ length s → take (p + n - (p + k)) (drop (p + k) s) ≡ drop k (bytes_at s p n)
part-drop s p n k h l =
    let m = n - k in
    let e : p + n - (p + k) ≡ m = omega arith in
    let f : k + m ≡ n = omega arith in
    ap (λ (i : ℕ). take i (drop (p + k) s)) e
    ∙ bytes_of s (p + k) m
    ∙ sym (drop_at (bytes_at s p k) (bytes_at s (p + k) m) k (length-bytes_at s p k (omega arith)))
    ∙ ap (drop k) (sym (bytes_at-add s p k m) ∙ ap (bytes_at s p) f)

-- The value of the element at a position, by its length byte.
abbrev pub value_at : List ℕ → ℕ → List ℕ
value_at a at = bytes_at a (at + 2) (get_or a (at + 1) 0)

-- The part of the run from a position to the end of the element at another.
abbrev pub list_part : List ℕ → ℕ → ℕ → List ℕ
list_part a at from = take (at + 2 + get_or a (at + 1) 0 - from) (drop from a)

-- ---- what an ASLA gives to those who select it, by its header

-- The part of the run behind k bytes of a value.
pub list-behind : (a : List ℕ) (at k : ℕ) → k ≤ get_or a (at + 1) 0 → at + 2 + get_or a (at + 1) 0 ≤ length a → list_part a at (at + 2 + k) ≡ drop k (value_at a at)
list-behind a at k h l = part-drop a (at + 2) (get_or a (at + 1) 0) k h l

module _ (w : Which) (at t : ℕ) (v : List ℕ) (asla : t ≡ 16) where
  abbrev read_from : ℕ → List Attribute
  read_from k = each attributes_of (elements 1 (at + 2 + k) (drop k v))

  -- with L, or with a mask too long to be read, nothing
  pub selected-flagged : l_flag v ≡ true → selected w (element at t v) ≡ []
  unfolding list_from
  selected-flagged l = selected-asla w at t v asla ∙ ap (λ (b : Bool). read_from (cond b (length v) (cond (mask_too_long v) (length v) (cond (selects w (advertisement v [])) (header_length v) (length v))))) l ∙ none w at t v (at + 2 + length v)

  pub selected-too-long : l_flag v ≡ false → mask_too_long v ≡ true → selected w (element at t v) ≡ []
  unfolding list_from
  selected-too-long l m =
      selected-asla w at t v asla
      ∙ ap₂ (λ (b d : Bool). read_from (cond b (length v) (cond d (length v) (cond (selects w (advertisement v [])) (header_length v) (length v))))) l m ∙ none w at t v (at + 2 + length v)

  -- else its list, by the test
  pub selected-read : l_flag v ≡ false → mask_too_long v ≡ false → selected w (element at t v) ≡ cond (selects w (advertisement v [])) (each attributes_of (list_elements at v)) []
  unfolding list_from list_elements
  selected-read l m =
      selected-asla w at t v asla
      ∙ ap₂ (λ (b d : Bool). read_from (cond b (length v) (cond d (length v) (cond (selects w (advertisement v [])) (header_length v) (length v))))) l m ∙ go (selects w (advertisement v []))
    where
      go : (b : Bool) → read_from (cond b (header_length v) (length v)) ≡ cond b (each attributes_of (elements 1 (at + 2 + header_length v) (drop (header_length v) v))) []
      go true = refl
      go false = none w at t v (at + 2 + length v)
