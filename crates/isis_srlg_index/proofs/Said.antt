-- What one TLV of run B says of SRLGs. Assumes nothing.
use mathlib.Core.Path.{◌≡◌, refl, sym, ap, ap₂, ◌∙◌}
use mathlib.Core.Bool.{Bool, true, false, cond, ◌&&◌, ◌||◌, false≢true}
use mathlib.Core.List.{List, [], ◌∷◌, map}
use Prim.Native.Nat.{ℕ, zero, suc, ◌+◌, ◌-◌, ◌/◌, ◌≤◌, ◌<◌}
use native.Mathlib.Omega.{arith}
use borrow.Author.Tests.{eqb-true}
use Rattle.linkstate.proofs.ListLaws.{and_l, and_r}
use lib.Dec.{eqb}
use lib.Bits.{bit_or}
use lib.ListN.{length, set, take, drop, length-drop, length-take}
use lib.Seq.{drop-drop, length-take-le}
use Rattle.linkstate.specs.Lists.{put}
use Rattle.linkstate.specs.Bytes.{words}
use Rattle.linkstate.specs.Elements.{Element, element}
use Rattle.linkstate.specs.Masks.{in_masks}
use Rattle.linkstate.proofs.Retired.{in-nobody}
use Rattle.linkstate.specs.Sides.{names, general}
use Rattle.masks.proofs.Laws.{bit-beyond}
use Rattle.srlg.proofs.Laws.{length-words}
use Rattle.srlg_ranks.proofs.Bits.{or-none}
use Rattle.srlg_sources.specs.declared.Keys.{Keys}
use Rattle.srlg_sources.specs.Sources.{Small, key_of, source_row}
use Rattle.isis_check_a.specs.declared.Header.{Header}
use Rattle.isis_check_a.specs.Headers.{header_of}
use Rattle.isis_check_a.proofs.Laws.{rest-is}
use Rattle.masks.specs.declared.Applications.{Applications}
use Rattle.masks.proofs.Sets.{place_none, set-none, masks-alone}
use Rattle.masks.specs.Applications.{in_set, at_place}
use Rattle.isis.specs.MaskHeader.{l_flag, sabm_length, udabm_length, header_length, mask_too_long, advertisement}
use Rattle.isis.specs.RunB.{after_neighbour, identifier_bytes, srlg_values, live_srlg}
use Rattle.isis_tlvs_238.specs.declared.Which.{Which}
use Rattle.isis_tlvs_238.specs.declared.Which.TheVariants.{Naming, General}
use Rattle.isis_tlvs_238.specs.Selected.{selects, words_in}
use Rattle.isis_tlvs_238.proofs.Tlvs as tlv
use Rattle.isis_srlg_index.specs.declared.Tlv.{Tlv}
use Rattle.isis_srlg_index.specs.Sources.{Lives, Says, Adds, nothing, generals, source}

-- ---- nothing

pub dead-words : (at t : ℕ) (value v : List ℕ) (l : Bool) → t ≡ 238 → v ≡ after_neighbour value → l ≡ live_srlg at v → l ≡ false → (w : Which)
    → words_in w (element at t value) ≡ []
dead-words at t value v l is e f d w =
    tlv.words_are at t value v is e w (live_srlg at v && selects w (advertisement v [])) refl
    ∙ ap (λ (b : Bool). cond (b && selects w (advertisement v [])) (cond (l_flag v) [] (words (srlg_values v))) []) (sym f ∙ d)

pub unread-words : (at t : ℕ) (value v : List ℕ) → t ≡ 238 → v ≡ after_neighbour value → l_flag v ≡ true → (w : Which) → words_in w (element at t value) ≡ []
unfolding words
unread-words at t value v is e l w = sym (tlv.words-l at t value v is e w l)

-- ---- a live TLV 238 without L

after-drop : (value : List ℕ) → after_neighbour value ≡ drop 7 value
unfolding after_neighbour
after-drop value = refl

module _ (v : List ℕ) (inside : header_length v ≤ length v) where
  -- without masks nobody is named, and the TLV is general
  general-is : general (advertisement v []) ≡ (eqb (sabm_length v) 0 && eqb (udabm_length v) 0)
  unfolding general advertisement header_length
  general-is =
      let p : length (take (sabm_length v) (drop 2 v)) ≡ sabm_length v = length-take-le (sabm_length v) (drop 2 v) (omega (arith, length-drop 2 v)) in
      let q : length (take (udabm_length v) (drop (2 + sabm_length v) v)) ≡ udabm_length v = length-take-le (udabm_length v) (drop (2 + sabm_length v) v)
      (omega (arith, length-drop (2 + sabm_length v) v)) in
      ap₂ (λ (i j : ℕ). eqb i 0 && eqb j 0) p q

  none_named : (eqb (sabm_length v) 0 && eqb (udabm_length v) 0) ≡ true → (n : ℕ) → names n (advertisement v []) ≡ false
  unfolding names advertisement
  none_named e n =
      let a = eqb-true (sabm_length v) 0 (and_l (eqb (sabm_length v) 0) (eqb (udabm_length v) 0) e) in
      let b = eqb-true (udabm_length v) 0 (and_r (eqb (sabm_length v) 0) (eqb (udabm_length v) 0) e) in
      in-nobody _ _ n (bit-beyond (take (sabm_length v) (drop 2 v)) n (omega (arith, length-take (sabm_length v) (drop 2 v))))
      (bit-beyond (take (udabm_length v) (drop (2 + sabm_length v) v)) (n - 64) (omega (arith, length-take (udabm_length v) (drop (2 + sabm_length v) v))))

  -- whom the masks name
  pub sent-names : (nobody who : Applications) (a n : ℕ) → ((p : ℕ) → at_place nobody p ≡ false)
      → ((k : ℕ) → in_set who k ≡ in_set nobody k || in_masks (take a (drop 2 v)) (take n (drop (2 + a) v)) k)
      → a ≡ sabm_length v → n ≡ udabm_length v → (k : ℕ) → in_set who k ≡ names k (advertisement v [])
  unfolding names advertisement
  sent-names nobody who a n none is e f k =
      masks-alone _ _ nobody who none is k ∙ ap₂ (λ (i j : ℕ). in_masks (take i (drop 2 v)) (take j (drop (2 + i) v)) k) e f

module _ (at t : ℕ) (value v : List ℕ) (is : t ≡ 238) (e : v ≡ after_neighbour value) (l : Bool) (f : l ≡ live_srlg at v) (live : l ≡ true)
    (plain : l_flag v ≡ false) where
  selected : (w : Which) → words_in w (element at t value) ≡ cond (selects w (advertisement v [])) (words (srlg_values v)) []
  selected w =
      tlv.words_are at t value v is e w (live_srlg at v && selects w (advertisement v [])) refl
      ∙ ap₂ (λ (x y : Bool). cond (x && selects w (advertisement v [])) (cond y [] (words (srlg_values v))) []) (sym f ∙ live) plain

  pub says-live : (r : Tlv) → header_length v + 1 + identifier_bytes v ≤ length v → 10 ≤ identifier_bytes v → 7 ≤ length value → Lives v r
      → Says (element at t value) value r
  unfolding selects srlg_values header_length
  says-live r inside long seven so =
      let k = header_length v + 1 + identifier_bytes v in
      let size : length v ≡ length value - 7 = ap length (e ∙ after-drop value) ∙ length-drop 7 value in
      let w : words (drop r.start value) ≡ words (srlg_values v) =
      ap (λ (i : ℕ). words (drop i value)) so.start ∙ ap words (sym (drop-drop k 7 value))
      ∙ ap (λ (x : List ℕ). words (drop k x)) (sym (e ∙ after-drop value)) in
      record {
        naming = λ n. selected (Naming n) ∙ ap₂ (λ (b : Bool) (ws : List ℕ). cond b ws []) (sym (so.named n)) (sym w);
        generals = selected General ∙ ap₂ (λ (b : Bool) (ws : List ℕ). cond b ws []) (general-is v (omega arith) ∙ sym so.general) (sym w);
        apart = λ g n. so.named n ∙ none_named v (omega arith) (sym so.general ∙ g) n;
        within = omega (arith, size, so.start);
        head = λ h g. let z = some-mask (sabm_length v) (udabm_length v) (sym so.general ∙ g) in omega (arith, so.start);
      }
    where
      some-mask : (a b : ℕ) → (eqb a 0 && eqb b 0) ≡ false → 1 ≤ a + b
      some-mask zero zero g = absurd (false≢true (sym g))
      some-mask zero (suc b) g = omega arith
      some-mask (suc a) b g = omega arith

-- ---- the keys of a TLV

none_of : (ws : List ℕ) → length ws ≡ 0 → ws ≡ []
none_of [] h = refl
none_of (w ∷ ws) h = absurd (omega arith)

no-either : (b : Bool) (ws : List ℕ) → ws ≡ [] → cond b ws [] ≡ []
no-either true ws e = e
no-either false ws e = refl

module _ (e : Element) (value : List ℕ) (tlv : Tlv) (says : Says e value tlv) (keys : List ℕ) (rows : List (List ℕ)) (k : Keys) where
  abbrev ws : List ℕ
  ws = words (drop tlv.start value)

  -- the numbers, as they are lent
  abbrev lent : List ℕ
  lent = words (take (length value - tlv.start) (drop tlv.start value))

  lent_is : lent ≡ ws
  lent_is = ap words (rest-is value tlv.start says.within)

  count : length ws ≡ (length value - tlv.start) / 4
  count = length-words (drop tlv.start value) ∙ ap (λ (n : ℕ). n / 4) (length-drop tlv.start value)

  pub adds_none : length value - tlv.start < 4 → Adds e keys rows k k keys rows
  adds_none h =
      let z : ws ≡ [] = none_of ws (omega (arith, count)) in
      nothing (λ n. says.naming n ∙ no-either (in_set tlv.who n) ws z) (says.generals ∙ no-either tlv.general ws z) refl refl refl

  pub adds-nobody : tlv.general ≡ false → bit_or tlv.who.standard tlv.who.user ≡ 0 → Adds e keys rows k k keys rows
  adds-nobody g h =
      let (s, u) = or-none tlv.who.standard tlv.who.user h in
      nothing (λ n. says.naming n ∙ ap (λ (b : Bool). cond b ws []) (set-none tlv.who (place_none tlv.who s u) n))
      (says.generals ∙ ap (λ (b : Bool). cond b ws []) g) refl refl refl

  pub adds-generals : (r : Keys) (keys' : List ℕ) → tlv.general ≡ true
      → (r.count ≡ k.count + length lent) × (keys' ≡ put keys k.count (map (key_of 1) lent)) → Small lent → r.sources ≡ k.sources
      → Adds e keys rows k r keys' rows
  adds-generals r keys' g (c, p) small s =
      let z : lent ≡ words_in General e = lent_is ∙ sym (says.generals ∙ ap (λ (b : Bool). cond b ws []) g) in
      generals (λ n. says.naming n ∙ ap (λ (b : Bool). cond b ws []) (says.apart g n)) (rw z at small) (c ∙ ap (λ (l : List ℕ). k.count + length l) z) s
      (p ∙ ap (λ (l : List ℕ). put keys k.count (map (key_of 1) l)) z) refl

  pub adds-source : (r : Keys) (keys' : List ℕ) (rows' : List (List ℕ)) → tlv.general ≡ false → 4 ≤ length value - tlv.start
      → (r.count ≡ k.count + length lent) × (r.sources ≡ k.sources + 1) × (rows' ≡ set rows k.sources (source_row tlv.who.standard tlv.who.user))
      → (keys' ≡ put keys k.count (map (key_of k.sources) lent)) × Small lent → Adds e keys rows k r keys' rows'
  adds-source r keys' rows' g h (c, s, q) (p, small) =
      source tlv.who lent (omega (arith, ap length lent_is, count)) small
      (λ n. says.naming n ∙ ap (λ (l : List ℕ). cond (in_set tlv.who n) l []) (sym lent_is))
      (says.generals ∙ ap (λ (b : Bool). cond b ws []) g) c s p q

  pub lent-few : (n : ℕ) → n ≡ k.count + length lent → n ≤ k.count + length value / 4
  lent-few n f = omega (arith, ap length lent_is, count)

pub part-few : (value : List ℕ) (start : ℕ) → length (take (length value - start) (drop start value)) / 4 ≤ length value / 4
part-few value start = omega (arith, length-take (length value - start) (drop start value), length-drop start value)

-- The masks of a header: their sizes, and where they end.
pub header-sizes : (v : List ℕ) (h : Header) → h ≡ header_of v → mask_too_long v ≡ false
    → (h.standard ≤ 8) × (h.user ≤ 8) × (2 + h.standard + h.user ≡ header_length v)
unfolding header_length
header-sizes v h e short =
    let (s, u) = tlv.masks-short v short in
    let a : h.standard ≡ sabm_length v = ap (λ (x : Header). x.standard) e in
    let b : h.user ≡ udabm_length v = ap (λ (x : Header). x.user) e in
    (omega arith, omega arith, omega arith)

pub general-header : (v : List ℕ) (h : Header) → h ≡ header_of v → (eqb h.standard 0 && eqb h.user 0) ≡ (eqb (sabm_length v) 0 && eqb (udabm_length v) 0)
general-header v h e = ap (λ (x : Header). eqb x.standard 0 && eqb x.user 0) e
