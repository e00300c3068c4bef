-- One TLV 238 that passed its checks: its parts lie within it, and what it says by the tests of its header. v follows the neighbour bytes.
use mathlib.Core.Path.{◌≡◌, refl, sym, ap, ap₂, ◌∙◌, subst}
use mathlib.Core.Bool.{Bool, true, false, cond, ◌&&◌, ◌||◌, not, and-true, and-false}
use mathlib.Core.List.{List, [], ◌∷◌, append-nil}
use Prim.Native.Nat.{ℕ, ◌+◌, ◌-◌, ◌/◌, ◌≤◌, ◌<◌}
use native.Mathlib.Omega.{arith}
use borrow.Author.Tests.{eq-eqb, ne_eqb, ltb-true, ltb-false}
use lib.Dec.{eqb, ltb}
use lib.ListN.{length, take, drop, length-drop}
use Rattle.linkstate.specs.Lists.{keep, each, put}
use Rattle.linkstate.specs.Bytes.{words}
use Rattle.linkstate.specs.Replies.{accepted, run_b}
use Rattle.linkstate.specs.Elements.{element}
use Rattle.linkstate.specs.Masks.{in_masks}
use Rattle.linkstate.specs.Attributes.{Attribute, of_kind}
use Rattle.linkstate.specs.Sides.{Advertisement, names, general}
use Rattle.linkstate.proofs.WalkLaws.{not-accepted}
use Rattle.octets.proofs.Laws.{put-nil}
use Rattle.srlg.proofs.Laws.{length-words}
use Rattle.isis.specs.MaskHeader.{l_flag, sabm_length, udabm_length, header_length, mask_too_long, advertisement}
use Rattle.isis.specs.RunB.{after_neighbour, identifier_bytes, srlg_values, srlg_attribute, ignored, identifiers, check_srlg, check_b, live_srlg, srlg_advertisement, srlg_advertisements}
use Rattle.isis_check_a.specs.declared.Header.{Header}
use Rattle.isis_check_a.specs.Headers.{header_of}
use Rattle.isis_check.proofs.SrlgLaws.{behind, tlv-srlg, srlg-short, srlg-no-list, srlg-past}
use Rattle.isis_check_a.proofs.Laws.{rest-is}
use Rattle.isis_tlvs_238.specs.declared.Which.{Which}
use Rattle.isis_tlvs_238.specs.declared.Which.TheVariants.{Naming, General}
use Rattle.isis_tlvs_238.specs.Selected.{selects, masked, srlg_words, words_in, Listed, Whole}

-- ---- what the checks promise

unless-less : (x y : ℕ) → (x < y → ⊥) → y ≤ x
unless-less x y h = go (ltb x y) refl
  where
    go : (b : Bool) → ltb x y ≡ b → y ≤ x
    go true e = absurd (h (ltb-true x y e))
    go false e = ltb-false x y e

module _ (at : ℕ) (value v : List ℕ) (ok : check_srlg at value v ≡ accepted) where
  fixed-bytes : 9 ≤ length value
  fixed-bytes = unless-less (length value) 9 (λ h. not-accepted 3 run_b at (srlg-short at value v h ∙ ok))

  list-within : mask_too_long v ≡ false → header_length v + 1 + identifier_bytes v ≤ length v
  list-within m =
      let p : header_length v + 1 ≤ length v = unless-less (length v) (header_length v + 1) (λ h. not-accepted 3 run_b at (srlg-no-list at value v fixed-bytes m h ∙ ok)) in
      unless-less (length v) (header_length v + 1 + identifier_bytes v) (λ h. not-accepted 3 run_b at (srlg-past at value v fixed-bytes m p h ∙ ok))

pub whole : (at t : ℕ) (value : List ℕ) → check_b at t value ≡ accepted → Whole t value
unfolding after_neighbour
whole at t value ok is =
    let p : check_srlg at value (after_neighbour value) ≡ accepted = tlv-srlg at t value is ∙ ok in
    let n = fixed-bytes at value (drop 7 value) p in
    (n, record { fixed = omega (arith, length-drop 7 value); listed = list-within at value (drop 7 value) p })

-- ---- its masks

module _ (v : List ℕ) (h : Header) (e : h ≡ header_of v) where
  header-standard : h.standard ≡ sabm_length v
  header-standard = ap (λ (x : Header). x.standard) e

  header-user : h.user ≡ udabm_length v
  header-user = ap (λ (x : Header). x.user) e

  -- where they end
  pub masks-within : header_length v ≤ length v → 2 + h.standard + h.user ≤ length v
  unfolding header_length
  masks-within w = omega (arith, header-standard, header-user)

  pub standard-is : take (2 + h.standard - 2) (drop 2 v) ≡ take (sabm_length v) (drop 2 v)
  standard-is = let z : 2 + h.standard - 2 ≡ sabm_length v = omega (arith, header-standard) in ap (λ (k : ℕ). take k (drop 2 v)) z

  pub user-is : take (2 + h.standard + h.user - (2 + h.standard)) (drop (2 + h.standard) v) ≡ take (udabm_length v) (drop (2 + sabm_length v) v)
  user-is =
      let z : 2 + h.standard + h.user - (2 + h.standard) ≡ udabm_length v = omega (arith, header-user) in
      ap₂ (λ (k i : ℕ). take k (drop i v)) z (ap (λ (k : ℕ). 2 + k) header-standard)

-- ---- which it is, by its masks

module _ (w : Which) (s u : List ℕ) where
  pub selects-naming : (n : ℕ) (r : Bool) → w ≡ Naming n → r ≡ in_masks s u n → r ≡ selects w (masked s u)
  unfolding selects names
  selects-naming n r e h = rw e h

  pub general-not : w ≡ General → (length s ≡ 0 → ⊥) → false ≡ selects w (masked s u)
  unfolding selects general
  general-not e h = rw (e, ne_eqb (length s) 0 h)

  pub general-is : w ≡ General → length s ≡ 0 → eqb (length u) 0 ≡ selects w (masked s u)
  unfolding selects general
  general-is e h = rw (e, eq-eqb (length s) 0 h)

-- Both masks of v are all that a test looks at.
pub selects-masks : (w : Which) (v s u : List ℕ) → s ≡ take (sabm_length v) (drop 2 v) → u ≡ take (udabm_length v) (drop (2 + sabm_length v) v)
    → selects w (masked s u) ≡ selects w (advertisement v [])
unfolding selects names general advertisement
selects-masks (Naming n) v s u e f = rw (e, f)
selects-masks General v s u e f = rw (e, f)

selects-same : (w : Which) (at : ℕ) (v : List ℕ) → selects w (srlg_advertisement at v) ≡ selects w (advertisement v [])
unfolding selects names general srlg_advertisement advertisement
selects-same (Naming n) at v = refl
selects-same General at v = refl

-- ---- live

module _ (at : ℕ) (v : List ℕ) where
  pub live-within : live_srlg at v ≡ true → mask_too_long v ≡ false
  unfolding live_srlg
  live-within e = go (mask_too_long v) (ignored v (identifiers at v)) e
    where
      go : (m i : Bool) → not (m || i) ≡ true → m ≡ false
      go true i f = sym f
      go false i f = refl

  pub too-long-dead : (x : Bool) → mask_too_long v ≡ true → false ≡ live_srlg at v && x
  unfolding live_srlg
  too-long-dead x m = rw m

  -- what was taken is live
  pub taken-within : (x y : Bool) → x ≡ live_srlg at v && y → x ≡ true → mask_too_long v ≡ false
  taken-within x y e t = live-within (go (live_srlg at v) y (sym e ∙ t))
    where
      go : (l y : Bool) → l && y ≡ true → l ≡ true
      go true y f = refl
      go false y f = f

  module _ (w : Which) (s u : List ℕ) (r : Bool) (e : s ≡ take (sabm_length v) (drop 2 v)) (f : u ≡ take (udabm_length v) (drop (2 + sabm_length v) v)) (g : r ≡ selects w (masked s u)) where
    selected : r ≡ selects w (advertisement v [])
    selected = g ∙ selects-masks w v s u e f

    pub not_taken : r ≡ false → false ≡ live_srlg at v && selects w (advertisement v [])
    not_taken n = sym (ap (λ (b : Bool). live_srlg at v && b) (sym selected ∙ n) ∙ and-false (live_srlg at v))

    pub taken_live : (l : Bool) → r ≡ true → l ≡ live_srlg at v → l ≡ live_srlg at v && selects w (advertisement v [])
    taken_live l n i = i ∙ sym (ap (λ (b : Bool). live_srlg at v && b) (sym selected ∙ n) ∙ and-true (live_srlg at v))

-- What follows the neighbour bytes, as it is lent.
pub after_is : (value : List ℕ) → 9 ≤ length value → behind value ≡ after_neighbour value
unfolding after_neighbour
after_is value h = rest-is value 7 (omega arith)

pub behind-listed : (value : List ℕ) → (9 ≤ length value) × Listed (after_neighbour value) → Listed (behind value)
behind-listed value h = subst Listed (sym (after_is value h.0)) h.1

-- ---- what it says

pub words-one : (at : ℕ) (s : List ℕ) → srlg_words (srlg_attribute at s ∷ []) ≡ words s
unfolding srlg_words srlg_attribute of_kind keep each
words-one at s = append-nil (words s)

pub words-none : srlg_words [] ≡ []
unfolding srlg_words of_kind keep each
words-none = refl

words-decided : (w : Which) (live l : Bool) (d : Advertisement) (ts : List Attribute) (ws : List ℕ) → d.attributes ≡ cond l [] ts → srlg_words ts ≡ ws
    → srlg_words (each (λ x. x.attributes) (keep (selects w) (cond live (d ∷ []) []))) ≡ cond (live && selects w d) (cond l [] ws) []
unfolding each keep
words-decided w false l d ts ws e f = words-none
words-decided w true l d ts ws e f = go (selects w d) l e
  where
    go : (x l : Bool) → d.attributes ≡ cond l [] ts → srlg_words (each (λ x. x.attributes) (cond x (d ∷ []) [])) ≡ cond x (cond l [] ws) []
    go true true e = ap srlg_words (append-nil d.attributes ∙ e) ∙ words-none
    go true false e = ap srlg_words (append-nil d.attributes ∙ e) ∙ f
    go false l e = words-none

-- Nothing to write.
pub wrote_nothing : (l : List ℕ) (k : ℕ) (ws : List ℕ) → ws ≡ [] → (k ≡ k + length ws) × (l ≡ put l k ws)
wrote_nothing l k ws e = (omega (arith, ap length e), put-nil l k ∙ ap (put l k) (sym e))

-- What is written of a 238 whose values have these bytes.
pub wrote-part : (w : Which) (at t : ℕ) (value s l m : List ℕ) (k r : ℕ) → t ≡ 238 → words s ≡ words_in w (element at 238 value)
    → r ≡ k + length (words s) → m ≡ put l k (words s)
    → (r ≡ k + length (words_in w (element at t value))) × (m ≡ put l k (words_in w (element at t value)))
wrote-part w at t value s l m k r is e f g =
    let z : words s ≡ words_in w (element at t value) = e ∙ ap (λ (i : ℕ). words_in w (element at i value)) (sym is) in
    (f ∙ ap (λ (ws : List ℕ). k + length ws) z, g ∙ ap (put l k) z)

pub part-few : (value s : List ℕ) (k r : ℕ) → length s ≤ length value → r ≡ k + length (words s) → r ≤ k + length value / 4
part-few value s k r h e = omega (arith, length-words s)

-- Another type says nothing.
module _ (at t : ℕ) (value : List ℕ) (other : t ≡ 238 → ⊥) where
  pub none-there : srlg_advertisements (element at t value) ≡ []
  unfolding srlg_advertisements
  none-there = rw (ne_eqb t 238 other)

  pub other-words : (w : Which) → words_in w (element at t value) ≡ []
  unfolding words_in keep each
  other-words w = rw none-there words-none

-- A 238, with x what `taken` says of it.
module _ (at t : ℕ) (value v : List ℕ) (is : t ≡ 238) (e : v ≡ after_neighbour value) where
  pub one-there : srlg_advertisements (element at t value) ≡ cond (live_srlg at v) (srlg_advertisement at v ∷ []) []
  unfolding srlg_advertisements
  one-there = rw (is, e)

  pub words_are : (w : Which) (x : Bool) → x ≡ live_srlg at v && selects w (advertisement v [])
      → words_in w (element at t value) ≡ cond x (cond (l_flag v) [] (words (srlg_values v))) []
  unfolding words_in srlg_advertisement advertisement
  words_are w x f =
      ap (λ (ds : List Advertisement). srlg_words (each (λ d. d.attributes) (keep (selects w) ds))) one-there
      ∙ words-decided w (live_srlg at v) (l_flag v) (srlg_advertisement at v) (srlg_attribute (at + 2 + 7 + header_length v + 1 + identifier_bytes v) (srlg_values v) ∷ [])
      (words (srlg_values v)) refl (words-one _ (srlg_values v))
      ∙ ap (λ (b : Bool). cond b (cond (l_flag v) [] (words (srlg_values v))) []) (ap (λ (b : Bool). live_srlg at v && b) (selects-same w at v) ∙ sym f)

  -- The bytes of its values: none with L or where it is not taken.
  pub words-l : (w : Which) → l_flag v ≡ true → words [] ≡ words_in w (element at t value)
  unfolding words
  words-l w l = sym (words_are w (live_srlg at v && selects w (advertisement v [])) refl ∙ rw l (go (live_srlg at v && selects w (advertisement v []))))
    where
      go : (b : Bool) → cond {A = List ℕ} b [] [] ≡ []
      go true = refl
      go false = refl

  pub words-not : (w : Which) (x : Bool) → x ≡ live_srlg at v && selects w (advertisement v []) → x ≡ false → words [] ≡ words_in w (element at t value)
  unfolding words
  words-not w x f n = sym (words_are w x f ∙ rw n)

  pub words-at : (w : Which) (x : Bool) (k : ℕ) → x ≡ live_srlg at v && selects w (advertisement v []) → x ≡ true → l_flag v ≡ false
      → k ≡ header_length v + 1 + identifier_bytes v → words (drop k v) ≡ words_in w (element at t value)
  unfolding srlg_values
  words-at w x k f n l e = ap (λ (j : ℕ). words (drop j v)) e ∙ sym (words_are w x f ∙ rw (n, l))

-- Masks that are not too long have eight bytes at most.
pub masks-short : (v : List ℕ) → mask_too_long v ≡ false → (sabm_length v ≤ 8) × (udabm_length v ≤ 8)
unfolding mask_too_long
masks-short v e = go (ltb 8 (sabm_length v)) refl (ltb 8 (udabm_length v)) refl e
  where
    go : (p : Bool) → ltb 8 (sabm_length v) ≡ p → (q : Bool) → ltb 8 (udabm_length v) ≡ q → p || q ≡ false → (sabm_length v ≤ 8) × (udabm_length v ≤ 8)
    go true f q g h = let z : ◌≡◌ {A = ℕ} 0 1 = cc in absurd (omega arith)
    go false f true g h = let z : ◌≡◌ {A = ℕ} 0 1 = cc in absurd (omega arith)
    go false f false g h = (ltb-false 8 (sabm_length v) f, ltb-false 8 (udabm_length v) g)
