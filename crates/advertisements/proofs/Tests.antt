-- The tests of an advertisement as the code takes them. Assumes nothing.
use mathlib.Core.Path.{◌≡◌, refl, sym, ap, ap₂, ◌∙◌}
use mathlib.Core.Bool.{Bool, true, false, cond, ◌&&◌, ◌||◌, not}
use mathlib.Core.List.{List, [], ◌∷◌}
use Prim.Native.Nat.{ℕ, ◌+◌, ◌-◌, ◌≤◌, ◌<◌}
use native.Mathlib.Omega.{arith}
use native.Mathlib.Nat.{add-sub_cancel_left}
use borrow.Author.Tests.{le-leb, lt-leb, leb-true, leb-false, ne_eqb, eqb-true, ltb-false}
use lib.Dec.{leb, eqb, ltb}
use lib.ListN.{length, take, drop, get_or, length-drop, drop_of_length-le}
use Rattle.std.specs.Prelude.{Option, None, Some}
use Rattle.linkstate.specs.Lists.{any}
use Rattle.linkstate.specs.Elements.{element, cut, elements}
use Rattle.linkstate.specs.Attributes.{Attribute}
use Rattle.linkstate.specs.Sides.{Advertisement, names, general, rsvp_te_alone}
use Rattle.linkstate.specs.Why.{names_with_l}
use Rattle.linkstate.specs.BgpLs as L
use Rattle.linkstate.proofs.ElementLaws.{none_left}
use Rattle.linkstate.proofs.ListLaws.{and_l, and_r}
use Rattle.isis.specs.MaskHeader.{l_flag, sabm_length, udabm_length, header_length, mask_too_long, l_for_nobody, advertisement}
use Rattle.isis.specs.RunA.{live_asla, asla_advertisements}
use Rattle.isis.specs.RunB.{after_neighbour, identifier_bytes, srlg_values, live_srlg, ignored, identifiers, srlg_advertisement, srlg_advertisements}
use Rattle.replies.specs.declared.Run.{Run}
use Rattle.replies.specs.declared.Run.TheVariants.{A, B, C, BgpLs}
use Rattle.isis_check_a.specs.declared.Header.{Header}
use Rattle.isis_check_a.specs.Headers.{header_of, too_long, for_nobody, bytes_before}
use Rattle.isis_check_a.proofs.Laws.{header-l, header-too-long, header-nobody, header-bytes, rest-is}
use Rattle.advertisements.specs.declared.Test.{Test}
use Rattle.advertisements.specs.declared.Test.TheVariants.{Names, WithL, General, WithoutL, RsvpTeAlone}
use Rattle.advertisements.specs.Tests.{seen, passing, stands, is_advertised, is_of, in_list, carries_a, carries_b, such_in}

-- No test looks at the attributes.
pub passing-same : (test : Test) (v : List ℕ) (ts : List Attribute) → passing test (advertisement v ts) ≡ passing test (advertisement v [])
unfolding passing names_with_l names general rsvp_te_alone advertisement
passing-same (Names n) v ts = refl
passing-same (WithL n) v ts = refl
passing-same General v ts = refl
passing-same WithoutL v ts = refl
passing-same RsvpTeAlone v ts = refl

pub passing-seen : (test : Test) (l : Bool) (d : Advertisement) → l ≡ d.L → passing test (seen l d.standard_mask d.user_mask) ≡ passing test d
unfolding passing names_with_l names general rsvp_te_alone
passing-seen (Names n) l d e = refl
passing-seen (WithL n) l d e = rw e
passing-seen General l d e = refl
passing-seen WithoutL l d e = rw e
passing-seen RsvpTeAlone l d e = refl

seen-advertised : (v : List ℕ) (test : Test) (l : Bool) → l ≡ l_flag v
    → passing test (seen l (take (sabm_length v) (drop 2 v)) (take (udabm_length v) (drop (2 + sabm_length v) v))) ≡ passing test (advertisement v [])
unfolding advertisement
seen-advertised v test l i = passing-seen test l (advertisement v []) i

-- ---- a mask header

pub not-or : (m n : Bool) → not (m || n) ≡ true → m ≡ false
not-or true n e = sym e
not-or false n e = refl

or-false : (m n : Bool) → (m || n) ≡ false → (m ≡ false) × (n ≡ false)
or-false false n e = (refl, e)
or-false true n e = (e, let z : ◌≡◌ {A = ℕ} 0 1 = cc in absurd (omega arith))

module _ (v : List ℕ) where
  pub short_none : length v < 2 → stands v ≡ false
  unfolding stands header_length
  short_none h = lt-leb (2 + sabm_length v + udabm_length v) (length v) (omega arith)

  module _ (test : Test) (h : Header) (e : h ≡ header_of v) where
    pub advertised-past : length v < 2 + h.standard + h.user → false ≡ is_advertised test v
    unfolding is_advertised stands
    advertised-past p = rw (lt-leb (header_length v) (length v) (omega (arith, header-bytes h v e)))

    pub advertised-is : 2 + h.standard + h.user ≤ length v → (x : Bool)
        → x ≡ passing test (seen h.l (take (2 + h.standard - 2) (drop 2 v)) (take (2 + h.standard + h.user - (2 + h.standard)) (drop (2 + h.standard) v)))
        → x ≡ is_advertised test v
    unfolding is_advertised stands
    advertised-is p x is =
        let a : h.standard ≡ sabm_length v = ap (λ (i : Header). i.standard) e in
        let b : h.user ≡ udabm_length v = ap (λ (i : Header). i.user) e in
        let f : take (2 + h.standard - 2) (drop 2 v) ≡ take (sabm_length v) (drop 2 v) = rw (add-sub_cancel_left 2 h.standard, a) in
        let g : take (2 + h.standard + h.user - (2 + h.standard)) (drop (2 + h.standard) v) ≡ take (udabm_length v) (drop (2 + sabm_length v) v)
        = rw (add-sub_cancel_left (2 + h.standard) h.user, a, b) in
        rw (le-leb (header_length v) (length v) (omega (arith, header-bytes h v e)))
        (is ∙ ap₂ (λ (y z : List ℕ). passing test (seen h.l y z)) f g ∙ seen-advertised v test h.l (header-l h v e))

  -- masks that are not too long have at most 8 bytes
  pub masks-short : (h : Header) → h ≡ header_of v → mask_too_long v ≡ false → (h.standard ≤ 8) × (h.user ≤ 8)
  unfolding mask_too_long
  masks-short h e t =
      let o = or-false (ltb 8 (sabm_length v)) (ltb 8 (udabm_length v)) t in (
        omega (arith, ltb-false 8 (sabm_length v) o.0, ap (λ (i : Header). i.standard) e),
        omega (arith, ltb-false 8 (udabm_length v) o.1, ap (λ (i : Header). i.user) e),
      )

  -- what is live can be read
  pub live-readable : (leb 2 (length v) && live_asla v) ≡ true → (2 ≤ length v) × (mask_too_long v ≡ false)
  unfolding live_asla
  live-readable t = (
    leb-true 2 (length v) (and_l (leb 2 (length v)) (live_asla v) t),
    not-or (mask_too_long v) (l_for_nobody v) (and_r (leb 2 (length v)) (live_asla v) t),
  )

  pub live-short : length v < 2 → false ≡ (leb 2 (length v) && live_asla v)
  live-short h = rw (lt-leb 2 (length v) h)

  module _ (h : Header) (e : h ≡ header_of v) (p : 2 ≤ length v) where
    pub live-too-long : (x : Bool) → x ≡ too_long h → x ≡ true → false ≡ (leb 2 (length v) && live_asla v)
    unfolding live_asla
    live-too-long x i t = let m : mask_too_long v ≡ true = sym (header-too-long h v e) ∙ sym i ∙ t in rw (le-leb 2 (length v) p, m)

    pub live-is : (x y : Bool) → x ≡ too_long h → x ≡ false → y ≡ for_nobody h → not y ≡ (leb 2 (length v) && live_asla v)
    unfolding live_asla
    live-is x y i t j =
        let m : mask_too_long v ≡ false = sym (header-too-long h v e) ∙ sym i ∙ t in
        let n : l_for_nobody v ≡ y = sym (header-nobody h v e) ∙ sym j in
        rw (le-leb 2 (length v) p, m, n)

pub srlg-readable : (at : ℕ) (v : List ℕ) → live_srlg at v ≡ true → mask_too_long v ≡ false
unfolding live_srlg
srlg-readable at v t = not-or (mask_too_long v) (ignored v (identifiers at v)) t

-- ---- kinds

module _ (kind : Option ℕ) (v : List ℕ) where
  pub a-none : kind ≡ None → true ≡ carries_a kind v
  unfolding carries_a
  a-none e = rw e

  pub b-none : kind ≡ None → true ≡ carries_b kind v
  unfolding carries_b
  b-none e = rw e

  module _ (k : ℕ) (z : kind ≡ Some k) (h : Header) (e : h ≡ header_of v) where
    pub a-with-l : h.l ≡ true → false ≡ carries_a kind v
    unfolding carries_a
    a-with-l l = let y : l_flag v ≡ true = sym (header-l h v e) ∙ l in rw (z, y)

    pub b-with-l : h.l ≡ true → false ≡ carries_b kind v
    unfolding carries_b
    b-with-l l = let y : l_flag v ≡ true = sym (header-l h v e) ∙ l in rw (z, y)

    module _ (l : h.l ≡ false) (n : ℕ) (b : n ≡ bytes_before h) where
      unflagged : l_flag v ≡ false
      unflagged = sym (header-l h v e) ∙ l

      pub a-past : length v < n → false ≡ carries_a kind v
      unfolding carries_a any
      a-past p = let y = drop_of_length-le v {i = header_length v} (omega (arith, header-bytes h v e)) in rw (z, unflagged, y, none_left 1 0)

      pub a-is : (x : Bool) → n ≤ length v → x ≡ any (is_of k) (elements 1 0 (take (length v - n) (drop n v))) → x ≡ carries_a kind v
      unfolding carries_a
      a-is x p i =
          let y : n ≡ header_length v = b ∙ header-bytes h v e in
          rw (z, unflagged, sym y) (i ∙ ap (λ (s : List ℕ). any (is_of k) (elements 1 0 s)) (rest-is v n p))

      pub b-past : length v ≤ n → false ≡ carries_b kind v
      unfolding carries_b srlg_values
      b-past p =
          let y = lt-leb 4 (length (drop (header_length v + 1 + identifier_bytes v) v))
          (omega (arith, header-bytes h v e, length-drop (header_length v + 1 + identifier_bytes v) v)) in
          rw (z, unflagged, y)

      pub b-is : (m : ℕ) → m ≡ get_or v n 0 → leb (n + 1 + m + 4) (length v) ≡ carries_b kind v
      unfolding carries_b srlg_values identifier_bytes
      b-is m i =
          let y : n ≡ header_length v = b ∙ header-bytes h v e in
          rw (z, unflagged, sym y, sym i) (room (n + 1 + m))
        where
          room : (j : ℕ) → leb (j + 4) (length v) ≡ leb 4 (length (drop j v))
          room j = go (leb (j + 4) (length v)) refl
            where
              go : (c : Bool) → leb (j + 4) (length v) ≡ c → c ≡ leb 4 (length (drop j v))
              go true f = let g = leb-true (j + 4) (length v) f in sym (le-leb 4 (length (drop j v)) (omega (arith, length-drop j v)))
              go false f = let g = leb-false (j + 4) (length v) f in sym (lt-leb 4 (length (drop j v)) (omega (arith, length-drop j v)))

-- ---- elements

-- The answer of `x && y`, where y is asked for only if x holds.
pub and-taken : (x y z : Bool) → x ≡ true → (x && y) ≡ z → y ≡ z
and-taken true y z t e = e
and-taken false y z t e = let w : ◌≡◌ {A = ℕ} 0 1 = cc in absurd (omega arith)

pub and_left : (x y z : Bool) → x ≡ false → (x && y) ≡ z → x ≡ z
and_left true y z t e = let w : ◌≡◌ {A = ℕ} 0 1 = cc in absurd (omega arith)
and_left false y z t e = e

-- Of one that may be there.
pub any-one : (p : Advertisement → Bool) (b : Bool) (d : Advertisement) → any p (cond b (d ∷ []) []) ≡ b && p d
unfolding any
any-one p false d = refl
any-one p true d = go (p d)
  where
    go : (x : Bool) → (x || false) ≡ x
    go true = refl
    go false = refl

-- An element that does not advertise, or does not pass.
unlike : (x y z : Bool) → y ≡ false → false ≡ ((x && y) && z)
unlike x y z e = rw e (go x)
  where
    go : (b : Bool) → false ≡ ((b && false) && z)
    go true = refl
    go false = refl

module _ (test : Test) (k : Option ℕ) (at t : ℕ) (v : List ℕ) where
  pub any-asla : any (passing test) (asla_advertisements (element at t v)) ≡ (eqb t 16 && live_asla v) && passing test (advertisement v [])
  unfolding asla_advertisements
  any-asla = any-one (passing test) (eqb t 16 && live_asla v) _ ∙ ap (λ (b : Bool). (eqb t 16 && live_asla v) && b) (passing-same test v _)

  pub asla-other : (t ≡ 16 → ⊥) → false ≡ such_in A test k (element at t v)
  unfolding such_in
  asla-other n = unlike (stands v) (any (passing test) (asla_advertisements (element at t v))) (carries_a k v) (any-asla ∙ rw (ne_eqb t 16 n))

  module _ (is : t ≡ 16) (l : Bool) (e : l ≡ (leb 2 (length v) && live_asla v)) where
    pub asla-dead : l ≡ false → false ≡ such_in A test k (element at t v)
    unfolding such_in
    asla-dead d = rw (any-asla, is) (go (leb 2 (length v)) refl (live_asla v) (sym e ∙ d))
      where
        go : (b : Bool) → leb 2 (length v) ≡ b → (c : Bool) → (b && c) ≡ false
            → false ≡ ((stands v && (c && passing test (advertisement v []))) && carries_a k v)
        go false i c j = rw (short_none v (leb-false 2 (length v) i))
        go true i false j = unlike (stands v) false (carries_a k v) refl
        go true i true j = let z : ◌≡◌ {A = ℕ} 0 1 = cc in absurd (omega arith)

    module _ (d : l ≡ true) (x : Bool) (i : x ≡ is_advertised test v) where
      asla-passing : x ≡ (stands v && any (passing test) (asla_advertisements (element at t v)))
      unfolding is_advertised
      asla-passing = rw (any-asla, is) (i ∙ go (leb 2 (length v)) (live_asla v) (sym e ∙ d))
        where
          go : (b c : Bool) → (b && c) ≡ true → (stands v && passing test (advertisement v [])) ≡ (stands v && (c && passing test (advertisement v [])))
          go true true j = refl
          go true false j = let z : ◌≡◌ {A = ℕ} 0 1 = cc in absurd (omega arith)
          go false c j = let z : ◌≡◌ {A = ℕ} 0 1 = cc in absurd (omega arith)

      pub asla-live : (y : Bool) → y ≡ carries_a k v → (x && y) ≡ such_in A test k (element at t v)
      unfolding such_in
      asla-live y j = ap₂ (λ (p q : Bool). p && q) asla-passing j

module _ (test : Test) (k : Option ℕ) (at t : ℕ) (value : List ℕ) where
  abbrev after : List ℕ
  after = after_neighbour value

  pub any-srlg : any (passing test) (srlg_advertisements (element at t value)) ≡ (eqb t 238 && live_srlg at after) && passing test (advertisement after [])
  unfolding srlg_advertisements srlg_advertisement
  any-srlg = any-one (passing test) (eqb t 238 && live_srlg at after) _ ∙ ap (λ (b : Bool). (eqb t 238 && live_srlg at after) && b) (passing-same test after _)

  pub srlg-other : (t ≡ 238 → ⊥) → false ≡ such_in B test k (element at t value)
  unfolding such_in
  srlg-other n = unlike (stands after) (any (passing test) (srlg_advertisements (element at t value))) (carries_b k after) (any-srlg ∙ rw (ne_eqb t 238 n))

  pub srlg-short : length value < 9 → false ≡ such_in B test k (element at t value)
  unfolding such_in after_neighbour
  srlg-short h = rw (short_none (drop 7 value) (omega (arith, length-drop 7 value)))

  module _ (is : t ≡ 238) (v : List ℕ) (e : v ≡ after) (l : Bool) (live : l ≡ live_srlg at v) where
    pub srlg-dead : l ≡ false → false ≡ such_in B test k (element at t value)
    unfolding such_in
    srlg-dead d =
        let z : live_srlg at after ≡ false = ap (live_srlg at) (sym e) ∙ sym live ∙ d in
        unlike (stands after) (any (passing test) (srlg_advertisements (element at t value))) (carries_b k after) (any-srlg ∙ rw (is, z))

    pub srlg-live : l ≡ true → (x y : Bool) → x ≡ is_advertised test v → y ≡ carries_b k v → (x && y) ≡ such_in B test k (element at t value)
    unfolding such_in is_advertised
    srlg-live d x y i j =
        let z : live_srlg at after ≡ true = ap (live_srlg at) (sym e) ∙ sym live ∙ d in
        rw (any-srlg, is, z) (ap₂ (λ (p q : Bool). p && q) i j ∙ ap (λ (u : List ℕ). (stands u && passing test (advertisement u [])) && carries_b k u) e)

pub after_is : (value : List ℕ) → 9 ≤ length value → take (length value - 7) (drop 7 value) ≡ after_neighbour value
unfolding after_neighbour
after_is value h = rest-is value 7 (omega arith)

pub mask-length-short : (n : ℕ) → L.is_mask_length n ≡ true → n ≤ 8
unfolding L.is_mask_length
mask-length-short n h = go (eqb n 0) refl (eqb n 4) refl (eqb n 8) refl h
  where
    go : (a : Bool) → eqb n 0 ≡ a → (b : Bool) → eqb n 4 ≡ b → (c : Bool) → eqb n 8 ≡ c → (a || b || c) ≡ true → n ≤ 8
    go true e b f c g h = omega (arith, eqb-true n 0 e)
    go false e true f c g h = omega (arith, eqb-true n 4 f)
    go false e false f true g h = omega (arith, eqb-true n 8 g)
    go false e false f false g h = let z : ◌≡◌ {A = ℕ} 0 1 = cc in absurd (omega arith)

module _ (test : Test) (k : Option ℕ) (at t : ℕ) (v : List ℕ) where
  passing-tlv : passing test (L.advertisement at v) ≡ passing test
      (seen false (take (L.sabm_length v) (drop 4 v)) (take (L.udabm_length v) (drop (4 + L.sabm_length v) v)))
  unfolding L.advertisement
  passing-tlv = sym (passing-seen test false (L.advertisement at v) refl)

  pub any-tlv : any (passing test) (L.advertisements_of (element at t v)) ≡ (eqb t 1122 && L.not_ignored v) && passing test (L.advertisement at v)
  unfolding L.advertisements_of
  any-tlv = any-one (passing test) (eqb t 1122 && L.not_ignored v) (L.advertisement at v)

  abbrev list : List ℕ
  list = drop (L.asla_header v) v

  pub tlv-other : (t ≡ 1122 → ⊥) → false ≡ such_in BgpLs test k (element at t v)
  unfolding such_in
  tlv-other n = unlike (leb (L.asla_header v) (length v)) (any (passing test) (L.advertisements_of (element at t v))) (in_list 2 k list)
      (any-tlv ∙ rw (ne_eqb t 1122 n))

  pub tlv-short : length v < 4 → false ≡ such_in BgpLs test k (element at t v)
  unfolding such_in L.asla_header
  tlv-short h = rw (lt-leb (4 + L.sabm_length v + L.udabm_length v) (length v) (omega arith))

  module _ (s u : ℕ) (a : s ≡ L.sabm_length v) (b : u ≡ L.udabm_length v) where
    pub tlv-past : length v < 4 + s + u → false ≡ such_in BgpLs test k (element at t v)
    unfolding such_in L.asla_header
    tlv-past h = rw (lt-leb (4 + L.sabm_length v + L.udabm_length v) (length v) (omega arith))

    module _ (l : Bool) (e : l ≡ (L.is_mask_length s && L.is_mask_length u)) where
      kept : L.not_ignored v ≡ l
      unfolding L.not_ignored
      kept = sym (e ∙ rw (a, b))

      pub tlv-ignored : l ≡ false → false ≡ such_in BgpLs test k (element at t v)
      unfolding such_in
      tlv-ignored d =
          let z : L.not_ignored v ≡ false = kept ∙ d in
          unlike (leb (L.asla_header v) (length v)) (any (passing test) (L.advertisements_of (element at t v))) (in_list 2 k list)
          (any-tlv ∙ rw z (go (eqb t 1122)))
        where
          go : (c : Bool) → ((c && false) && passing test (L.advertisement at v)) ≡ false
          go true = refl
          go false = refl

      pub tlv-is : t ≡ 1122 → l ≡ true → 4 + s + u ≤ length v → (x y : Bool)
          → x ≡ passing test (seen false (take (4 + s - 4) (drop 4 v)) (take (4 + s + u - (4 + s)) (drop (4 + s) v)))
          → y ≡ in_list 2 k (take (length v - (4 + s + u)) (drop (4 + s + u) v)) → (x && y) ≡ such_in BgpLs test k (element at t v)
      unfolding such_in L.asla_header
      tlv-is is d h x y i j =
          let z : L.not_ignored v ≡ true = kept ∙ d in
          let f : take (4 + s - 4) (drop 4 v) ≡ take (L.sabm_length v) (drop 4 v) = rw (add-sub_cancel_left 4 s, a) in
          let g : take (4 + s + u - (4 + s)) (drop (4 + s) v) ≡ take (L.udabm_length v) (drop (4 + L.sabm_length v) v) =
          rw (add-sub_cancel_left (4 + s) u, a, b) in
          let w : take (length v - (4 + s + u)) (drop (4 + s + u) v) ≡ drop (4 + L.sabm_length v + L.udabm_length v) v = rest-is v (4 + s + u) h ∙ rw (a, b) in
          rw (le-leb (4 + L.sabm_length v + L.udabm_length v) (length v) (omega arith), any-tlv, is, z)
          (ap₂ (λ (p q : Bool). p && q) (i ∙ ap₂ (λ (y w : List ℕ). passing test (seen false y w)) f g ∙ sym passing-tlv) (j ∙ ap (in_list 2 k) w))

-- ---- by the run

pub such-cut : (run : Run) (test : Test) (k : Option ℕ) (at : ℕ) → such_in run test k (cut at) ≡ false
unfolding such_in
such-cut A test k at = refl
such-cut B test k at = refl
such-cut C test k at = refl
such-cut BgpLs test k at = refl
