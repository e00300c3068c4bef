-- Demands 2 and 3: the export is one of its meaning's rivals. Read back, its ASLAs are the general one and one for each group (`aslas-back`),
-- each named application is in just one of them, and every set that was written is read.
use mathlib.Core.Path.{◌≡◌, refl, sym, ap, ap₂, ◌∙◌}
use mathlib.Core.Bool.{Bool, true, false, cond, ◌&&◌, not}
use mathlib.Core.List.{List, [], ◌∷◌, ◌++◌, map, append-nil, append_assoc, Memᴰ}
use Prim.Native.Nat.{ℕ, ◌+◌, ◌-◌, ◌≤◌, ◌<◌}
use native.Mathlib.Omega.{arith}
use borrow.Author.Tests.{ltb-true, ltb-false, le-ltb, lt-ltb}
use lib.Dec.{eqb, ltb}
use lib.ListN.{length, take, drop, length-map}
use lib.Seq.{take_at, drop_at, drop-drop}
use Rattle.linkstate.specs.Lists.{keep, all, count, each, empty, member}
use Rattle.linkstate.specs.Limits.{most_in_bgp_ls}
use Rattle.linkstate.specs.Kinds.{codes, application_codes}
use Rattle.linkstate.specs.Masks.{bit, user, in_masks, others, mask_size, mask}
use Rattle.linkstate.specs.Replies.{run_bgp_ls, accepted, refused_if, ◌then◌}
use Rattle.linkstate.specs.Elements.{Element, elements, faults_once}
use Rattle.linkstate.specs.Attributes.{Attribute, of_kind, srlgs, first_value, value_of}
use Rattle.linkstate.specs.Bytes.{distinct, bytes_of_words}
use Rattle.linkstate.specs.Sides.{Advertisement, general, names, named, of_live, general_set, application_set}
use Rattle.linkstate.specs.Meaning.{Meaning, meaning, row, Accepted}
use Rattle.linkstate.specs.BgpLs.{sabm_length, udabm_length, asla_header, not_ignored, inner_elements, check_inner, known_inside, check_asla, check_top, run_verdict, attributes_of, advertisement, advertisements_of, aslas, top_level, run_side, run_source}
use Rattle.linkstate.specs.Export.{Tlv, tlv, bytes_of, present, top_value, asla_value, general_values, leader, in_group, leaders, group_value, asla_values, tlvs, export}
use Rattle.linkstate.specs.Rival.{IsRival}
use Rattle.linkstate.specs.WellFormed.{Values, WellFormed}
use Rattle.linkstate.proofs.ListLaws.{and_r, absorb, all-mem, keep_append, keep-ext, keep-keep, keep-map, keep-no, any-keep, count-keep, empty-nil, map-ext, map-mem, mem-map, map-append, each_append, keep-mem, member-mem, mem-member, numbers-mem, different}
use Rattle.linkstate.proofs.MaskLaws.{length-mask, size-is-length, no_bits, bit_mask}
use Rattle.rivals.proofs.KindLaws.{codes-different, application-codes-different, low_codes, high_codes, low-high, not-asla, low-code, high-code, right-inside, bandwidths-of, rsvp_te-of}
use Rattle.rivals.proofs.RunLaws.{named_set}
use Rattle.rivals.proofs.Groups.{leader-facts, leads-itself, one-group, asla-is}
use Rattle.rivals.proofs.ExportSize.{asla-size}
use Rattle.rivals.proofs.Bounds.{export-within}
use Rattle.rivals.proofs.Shortest.{not-general}
use Rattle.rivals.proofs.ReadBack.{placed, read_back, Sound, none, more, sound-append, sound-faults, sound-present, once-present, unplaced, unplaced_asla, plain, value-unplaced, attributes-placed, seen, aslas-placed, together, value-together, value-present}

-- ---- an ASLA that was written

-- What is read of it: the masks of its test, and its set.
unfoldable written : (ℕ → Bool) → (ℕ → List ℕ) → Advertisement
written p f = record { L = false; standard_mask = mask p; user_mask = mask (λ n. p (user n)); attributes = map plain (present application_codes f) }

others-range : {a : ℕ} → Memᴰ a others → (1 ≤ a) × (a < 96)
unfolding others
others-range h = numbers-mem 1 95 h

module _ (p : ℕ → Bool) (f : ℕ → List ℕ) where
  set : List ℕ
  set = each bytes_of (present application_codes f)

  sabm-is : sabm_length (asla_value p f) ≡ mask_size p
  unfolding sabm_length asla_value
  sabm-is = refl

  udabm-is : udabm_length (asla_value p f) ≡ mask_size (λ n. p (user n))
  unfolding udabm_length asla_value
  udabm-is = refl

  header_is : asla_header (asla_value p f) ≡ 4 + mask_size p + mask_size (λ n. p (user n))
  unfolding asla_header
  header_is = rw (sabm-is, udabm-is)

  not-ignored : not_ignored (asla_value p f) ≡ true
  unfolding not_ignored
  not-ignored = rw (sabm-is, udabm-is, size-is-length p) (size-is-length (λ n. p (user n)))

  after-standard : drop (4 + mask_size p) (asla_value p f) ≡ mask (λ n. p (user n)) ++ set
  unfolding asla_value set
  after-standard =
      sym (drop-drop (mask_size p) 4 (asla_value p f))
      ∙ ap (drop (mask_size p)) (append_assoc (mask p) (mask (λ n. p (user n))) set)
      ∙ drop_at (mask p) (mask (λ n. p (user n)) ++ set) (mask_size p) (length-mask p)

  standard-is : take (sabm_length (asla_value p f)) (drop 4 (asla_value p f)) ≡ mask p
  unfolding asla_value sabm_length set
  standard-is =
      ap (take (mask_size p)) (append_assoc (mask p) (mask (λ n. p (user n))) set)
      ∙ take_at (mask p) (mask (λ n. p (user n)) ++ set) (mask_size p) (length-mask p)

  user-is : take (udabm_length (asla_value p f)) (drop (4 + sabm_length (asla_value p f)) (asla_value p f)) ≡ mask (λ n. p (user n))
  user-is = rw (sabm-is, udabm-is, after-standard) (take_at (mask (λ n. p (user n))) set (mask_size (λ n. p (user n))) (length-mask (λ n. p (user n))))

  inner-bytes : drop (asla_header (asla_value p f)) (asla_value p f) ≡ set
  inner-bytes =
      rw header_is
      (sym (drop-drop (mask_size (λ n. p (user n))) (4 + mask_size p) (asla_value p f))
      ∙ ap (drop (mask_size (λ n. p (user n)))) after-standard
      ∙ drop_at (mask (λ n. p (user n))) set (mask_size (λ n. p (user n))) (length-mask (λ n. p (user n))))

  inner_back : (at : ℕ) → inner_elements at (asla_value p f) ≡ placed (at + 4 + asla_header (asla_value p f)) (present application_codes f)
  unfolding inner_elements set
  inner_back at = ap (elements 2 (at + 4 + asla_header (asla_value p f))) inner-bytes ∙ read_back (at + 4 + asla_header (asla_value p f)) (present application_codes f)

  seen_back : seen (tlv 1122 (asla_value p f)) ≡ written p f ∷ []
  unfolding seen unplaced_asla advertisement written
  seen_back = rw (not-ignored, standard-is, user-is, inner_back 0, attributes-placed (0 + 4 + asla_header (asla_value p f)) (present application_codes f))

  names-back : (a : ℕ) → member a others ≡ true → names a (written p f) ≡ p a
  unfolding names in_masks written user
  names-back a h = go (ltb a 64) refl
    where
      go : (b : Bool) → ltb a 64 ≡ b → cond b (bit (mask p) a) (ltb a 96 && bit (mask (λ n. p (64 + n))) (a - 64)) ≡ p a
      go true e = bit_mask p a (ltb-true a 64 e)
      go false e =
          let k = ltb-false a 64 e in
          let r = others-range (member-mem a others h) in
          rw (lt-ltb a 96 (omega (arith, r.1))) (bit_mask (λ n. p (64 + n)) (a - 64) (omega (arith, r.1)) ∙ ap p (omega arith))

  -- Its set is read, kind by kind.
  set_back : Values application_codes f → row f ≡ row (λ k. value_of k (each (λ d. d.attributes) (written p f ∷ [])))
  unfolding row each written
  set_back ok =
      map-ext f (λ k. value_of k (map plain (present application_codes f) ++ [])) application_codes
      (λ k h.
      sym (ap (value_of k) (append-nil (map plain (present application_codes f)))
      ∙ value-present application_codes f application-codes-different ok.canonical k (mem-member application_codes h)))

  -- It passes the checks.
  inner-right : Values application_codes f → (k : ℕ) → Memᴰ k application_codes → empty (f k) ≡ false → (at : ℕ) → check_inner at k (f k) ≡ accepted
  unfolding check_inner
  inner-right ok k h e at = rw (right-inside k (length (f k)) (ok.right k (mem-member application_codes h) e))

  inner-passes : Values application_codes f → (at : ℕ) → faults_once run_bgp_ls known_inside check_inner [] (placed at (present application_codes f)) ≡ accepted
  unfolding member
  inner-passes ok at =
      once-present run_bgp_ls known_inside check_inner f application_codes [] at application-codes-different (λ k i. refl) (λ k h e o. inner-right ok k h e o)

  check-back : Values application_codes f → (at : ℕ) → check_asla at (asla_value p f) ≡ accepted
  unfolding check_asla
  check-back ok at =
      let e = asla-size p f in
      let k = header_is in
      rw (
        le-ltb (length (asla_value p f)) 4 (omega arith),
        not-ignored,
        le-ltb (length (asla_value p f)) (asla_header (asla_value p f)) (omega arith),
        inner_back at,
      )
      (inner-passes ok (at + 4 + asla_header (asla_value p f)))

general-back : (f : ℕ → List ℕ) → general (written (λ a. false) f) ≡ true
unfolding general written
general-back f = rw (length-mask (λ n. false), no_bits)

-- ---- ASLAs, whatever their places

-- What a test that sees no places keeps of them, it keeps without them, with the same values.
module _ (p : Advertisement → Bool) (h : (d : Advertisement) → p (unplaced_asla d) ≡ p d) where
  keep-unplaced : (ds : List Advertisement) → keep p (map unplaced_asla ds) ≡ map unplaced_asla (keep p ds)
  keep-unplaced ds = keep-map p unplaced_asla ds ∙ ap (map unplaced_asla) (keep-ext (λ d. p (unplaced_asla d)) p ds (λ d k. h d))

attributes-unplaced : (ds : List Advertisement) → each (λ d. d.attributes) (map unplaced_asla ds) ≡ map unplaced (each (λ d. d.attributes) ds)
unfolding each unplaced_asla
attributes-unplaced [] = refl
attributes-unplaced (d ∷ ds) =
    ap (λ (l : List Attribute). map unplaced d.attributes ++ l) (attributes-unplaced ds)
    ∙ sym (map-append unplaced d.attributes (each (λ d. d.attributes) ds))

row-unplaced : (ds : List Advertisement) → row (λ k. value_of k (each (λ d. d.attributes) (map unplaced_asla ds))) ≡ row (λ k. value_of k (each (λ d. d.attributes) ds))
unfolding row
row-unplaced ds =
    map-ext (λ k. value_of k (each (λ d. d.attributes) (map unplaced_asla ds))) (λ k. value_of k (each (λ d. d.attributes) ds)) application_codes
    (λ k h. ap (value_of k) (attributes-unplaced ds) ∙ value-unplaced k (each (λ d. d.attributes) ds))

names-unplaced : (a : ℕ) (d : Advertisement) → names a (unplaced_asla d) ≡ names a d
unfolding names unplaced_asla
names-unplaced a d = refl

general-unplaced : (d : Advertisement) → general (unplaced_asla d) ≡ general d
unfolding general unplaced_asla
general-unplaced d = refl

-- ---- kinds at the top

-- Kinds are seen as no ASLA, and ASLAs as none of the kinds.
seen-present : (f : ℕ → List ℕ) (ks : List ℕ) → ((k : ℕ) → Memᴰ k ks → eqb k 1122 ≡ false) → each seen (present ks f) ≡ []
unfolding each seen present
seen-present f [] h = refl
seen-present f (k ∷ ks) h = go (empty (f k)) (seen-present f ks (λ c i. h c (Memᴰ.tail i)))
  where
    go : (b : Bool) → each seen (present ks f) ≡ [] → each seen (cond b (present ks f) (tlv k (f k) ∷ present ks f)) ≡ []
    go true e = e
    go false e = rw (h k (Memᴰ.head refl)) e

kind-aslas : (k : ℕ) (vs : List (List ℕ)) → eqb k 1122 ≡ false → of_kind k (map plain (map (tlv 1122) vs)) ≡ []
unfolding of_kind keep plain
kind-aslas k [] h = refl
kind-aslas k (v ∷ vs) h = rw h (kind-aslas k vs h)

kind-append : (k : ℕ) (xs ys : List Tlv) → of_kind k (map plain (xs ++ ys)) ≡ of_kind k (map plain xs) ++ of_kind k (map plain ys)
unfolding of_kind
kind-append k xs ys = ap (of_kind k) (map-append plain xs ys) ∙ keep_append (λ t. eqb k t.code) (map plain xs) (map plain ys)

present-append : (f : ℕ → List ℕ) (ks ls : List ℕ) → present (ks ++ ls) f ≡ present ks f ++ present ls f
unfolding present
present-append f [] ls = refl
present-append f (k ∷ ks) ls = go (empty (f k)) (present-append f ks ls)
  where
    go : (b : Bool) → present (ks ++ ls) f ≡ present ks f ++ present ls f
        → cond b (present (ks ++ ls) f) (tlv k (f k) ∷ present (ks ++ ls) f) ≡ cond b (present ks f) (tlv k (f k) ∷ present ks f) ++ present ls f
    go true e = e
    go false e = ap (λ (l : List Tlv). tlv k (f k) ∷ l) e

value_none : (k : ℕ) → value_of k [] ≡ []
unfolding value_of srlgs of_kind keep each distinct bytes_of_words first_value
value_none k = go (eqb k 1096)
  where
    go : (b : Bool) → cond b (bytes_of_words (distinct [])) [] ≡ []
    go true = refl
    go false = refl

sound-aslas : (vs : List (List ℕ)) → ((v : List ℕ) → Memᴰ v vs → (at : ℕ) → check_asla at v ≡ accepted) → Sound check_top (map (tlv 1122) vs)
unfolding check_top
sound-aslas [] h = none
sound-aslas (v ∷ vs) h = more (h v (Memᴰ.head refl)) (sound-aslas vs (λ w k. h w (Memᴰ.tail k)))

module _ (m : Meaning) where
  -- ---- the ASLAs of the export

  general_aslas : List Advertisement
  general_aslas = cond (all empty (row m.general)) [] (written (λ a. false) m.general ∷ [])

  group_asla : ℕ → Advertisement
  group_asla a = written (in_group m a) (m.set a)

  seen-general : each seen (map (tlv 1122) (general_values m)) ≡ general_aslas
  unfolding general_values general_aslas each
  seen-general = go (all empty (row m.general))
    where
      go : (b : Bool) → each seen (map (tlv 1122) (cond b [] (asla_value (λ a. false) m.general ∷ []))) ≡ cond b [] (written (λ a. false) m.general ∷ [])
      go true = refl
      go false = rw (seen_back (λ a. false) m.general)

  seen-groups : (ns : List ℕ) → each seen (map (tlv 1122) (map (group_value m) ns)) ≡ map group_asla ns
  unfolding each group_value group_asla
  seen-groups [] = refl
  seen-groups (a ∷ ns) = ap₂ (λ (x y : List Advertisement). x ++ y) (seen_back (in_group m a) (m.set a)) (seen-groups ns)

  seen-tlvs : each seen (tlvs m) ≡ general_aslas ++ map group_asla (leaders m)
  unfolding tlvs asla_values low_codes high_codes
  seen-tlvs =
      each_append seen (present low_codes (top_value m) ++ map (tlv 1122) (asla_values m)) (present high_codes (top_value m))
      ∙ ap₂ (λ (x y : List Advertisement). x ++ y)
      (each_append seen (present low_codes (top_value m)) (map (tlv 1122) (asla_values m))
      ∙ ap₂ (λ (x y : List Advertisement). x ++ y) (seen-present (top_value m) low_codes (λ k h. not-asla (low-code h)))
      (ap (each seen) (map-append (tlv 1122) (general_values m) (map (group_value m) (leaders m)))
      ∙ each_append seen (map (tlv 1122) (general_values m)) (map (tlv 1122) (map (group_value m) (leaders m)))
      ∙ ap₂ (λ (x y : List Advertisement). x ++ y) seen-general (seen-groups (leaders m))))
      (seen-present (top_value m) high_codes (λ k h. not-asla (high-code h)))
      ∙ append-nil (general_aslas ++ map group_asla (leaders m))

  elements-back : elements 2 0 (export m) ≡ placed 0 (tlvs m)
  unfolding export
  elements-back = read_back 0 (tlvs m)

  aslas-back : map unplaced_asla (aslas (export m)) ≡ general_aslas ++ map group_asla (leaders m)
  unfolding aslas
  aslas-back = ap (λ (es : List Element). map unplaced_asla (each advertisements_of es)) elements-back ∙ aslas-placed 0 (tlvs m) ∙ seen-tlvs

  -- ---- the kinds at the top

  kind-tlvs : (k : ℕ) → Memᴰ k codes → of_kind k (map plain (tlvs m)) ≡ of_kind k (map plain (present codes (top_value m)))
  unfolding tlvs low_codes high_codes
  kind-tlvs k h =
      let low = present low_codes (top_value m) in
      let high = present high_codes (top_value m) in
      kind-append k (low ++ map (tlv 1122) (asla_values m)) high
      ∙ ap (λ (l : List Attribute). l ++ of_kind k (map plain high))
      (kind-append k low (map (tlv 1122) (asla_values m)) ∙ ap (λ (l : List Attribute). of_kind k (map plain low) ++ l) (kind-aslas k (asla_values m) (not-asla h))
      ∙ append-nil (of_kind k (map plain low)))
      ∙ sym (kind-append k low high)
      ∙ ap (λ (ts : List Tlv). of_kind k (map plain ts)) (sym (present-append (top_value m) low_codes high_codes) ∙ ap (λ (ks : List ℕ). present ks (top_value m)) (sym low-high))

  top_back : Values codes (top_value m) → (k : ℕ) → Memᴰ k codes → top_value m k ≡ value_of k (top_level (export m))
  unfolding top_level different
  top_back ok k h =
      sym (sym (value-unplaced k (each attributes_of (elements 2 0 (export m))))
      ∙ ap (λ (es : List Element). value_of k (map unplaced (each attributes_of es))) elements-back
      ∙ ap (value_of k) (attributes-placed 0 (tlvs m))
      ∙ value-together k (map plain (tlvs m))
      ∙ ap (together k) (kind-tlvs k h)
      ∙ sym (value-together k (map plain (present codes (top_value m))))
      ∙ value-present codes (top_value m) (and_r (not (member 1122 codes)) (different codes) codes-different) ok.canonical k (mem-member codes h))

  module _ (ok : WellFormed m) where
    -- ---- which ASLAs are general, and which name an application

    keep-general : keep general (general_aslas ++ map group_asla (leaders m)) ≡ general_aslas
    unfolding general_aslas group_asla leaders keep
    keep-general =
        keep_append general general_aslas (map group_asla (leaders m)) ∙ ap₂ (λ (x y : List Advertisement). x ++ y) (one (all empty (row m.general))) groups
        ∙ append-nil general_aslas
      where
        one : (b : Bool) → keep general (cond b [] (written (λ a. false) m.general ∷ [])) ≡ cond b [] (written (λ a. false) m.general ∷ [])
        one true = refl
        one false = rw (general-back m.general)

        groups : keep general (map group_asla (leaders m)) ≡ []
        groups = keep-no general (map group_asla (leaders m)) (λ d h.
            let q = map-mem group_asla (leaders m) h in
            let i = keep-mem (λ a. in_group m a a) others q.1 in
            not-general d q.0 (ap (names q.0) q.2 ∙ names-back (in_group m q.0) (m.set q.0) q.0 (mem-member others i.1) ∙ i.0))

    keep-names : (a : ℕ) → member a others ≡ true → keep (names a) (general_aslas ++ map group_asla (leaders m)) ≡ cond (m.named a) (group_asla (leader m a) ∷ []) []
    unfolding general_aslas group_asla leaders keep
    keep-names a h =
        keep_append (names a) general_aslas (map group_asla (leaders m))
        ∙ ap₂ (λ (x y : List Advertisement). x ++ y) (no-general (all empty (row m.general)))
        (keep-map (names a) group_asla (leaders m)
        ∙ ap (map group_asla)
        (keep-keep (λ c. names a (group_asla c)) (λ c. in_group m c c) others
        ∙ keep-ext (λ c. in_group m c c && names a (group_asla c)) (λ c. in_group m c a) others (λ c k. in_group_lem c)
        ∙ one-group m ok a))
        ∙ last (m.named a)
      where
        no-general : (b : Bool) → keep (names a) (cond b [] (written (λ a. false) m.general ∷ [])) ≡ []
        no-general true = refl
        no-general false = rw (names-back (λ a. false) m.general a h)

        in_group_lem : (c : ℕ) → in_group m c c && names a (group_asla c) ≡ in_group m c a
        in_group_lem c = rw (names-back (in_group m c) (m.set c) a h) (absorb (in_group m c c) (in_group m c a) (leads-itself m ok c a))

        last : (b : Bool) → map group_asla (cond b (leader m a ∷ []) []) ≡ cond b (group_asla (leader m a) ∷ []) []
        last true = refl
        last false = refl

    -- The same of the export's own ASLAs, apart from places.
    general-aslas : map unplaced_asla (keep general (aslas (export m))) ≡ general_aslas
    general-aslas = sym (keep-unplaced general general-unplaced (aslas (export m))) ∙ ap (keep general) aslas-back ∙ keep-general

    naming-aslas : (a : ℕ) → member a others ≡ true → map unplaced_asla (keep (names a) (aslas (export m))) ≡ cond (m.named a) (group_asla (leader m a) ∷ []) []
    naming-aslas a h = sym (keep-unplaced (names a) (names-unplaced a) (aslas (export m))) ∙ ap (keep (names a)) aslas-back ∙ keep-names a h

    one-asla : (a : ℕ) → member a others ≡ true → m.named a ≡ true → map unplaced_asla (keep (names a) (aslas (export m))) ≡ group_asla (leader m a) ∷ []
    one-asla a h n = naming-aslas a h ∙ rw n

    -- ---- the meaning

    -- An empty general set is not written, and is read from no ASLA.
    general-written : row m.general ≡ row (λ k. value_of k (each (λ d. d.attributes) general_aslas))
    unfolding general_aslas row each
    general-written = go (all empty (row m.general)) refl
      where
        go : (b : Bool) → all empty (row m.general) ≡ b
            → row m.general ≡ row (λ k. value_of k (each (λ d. d.attributes) (cond b [] (written (λ a. false) m.general ∷ []))))
        go true e =
            map-ext m.general (λ k. value_of k []) application_codes
            (λ k h. empty-nil (m.general k) (all-mem empty (row m.general) e (mem-map m.general application_codes h)) ∙ sym (value_none k))
        go false e = set_back (λ a. false) m.general ok.general

    general-set : row m.general ≡ row (λ k. value_of k (general_set (run_side (export m))))
    unfolding general_set of_live run_side
    general-set =
        general-written
        ∙ ap (λ (ds : List Advertisement). row (λ k. value_of k (each (λ d. d.attributes) ds))) (sym general-aslas)
        ∙ row-unplaced (keep general (aslas (export m)))

    named_back : (a : ℕ) → member a others ≡ true → m.named a ≡ named a (run_side (export m))
    unfolding named run_side empty
    named_back a h =
        sym (any-keep (names a) (aslas (export m))
        ∙ ap not (empty-unplaced (keep (names a) (aslas (export m))))
        ∙ ap (λ (ds : List Advertisement). not (empty ds)) (naming-aslas a h)
        ∙ some (m.named a))
      where
        empty-unplaced : (ds : List Advertisement) → empty ds ≡ empty (map unplaced_asla ds)
        empty-unplaced [] = refl
        empty-unplaced (d ∷ ds) = refl

        some : (b : Bool) → not (empty (cond b (group_asla (leader m a) ∷ []) [])) ≡ b
        some true = refl
        some false = refl

    application-back : (a : ℕ) → member a others ≡ true → m.named a ≡ true → row (m.set a) ≡ row (λ k. value_of k (application_set a (run_side (export m))))
    unfolding of_live run_side group_asla
    application-back a h n =
        let k = leader-facts m ok a n in
        sym k.2 ∙ set_back (in_group m (leader m a)) (m.set (leader m a)) (ok.set (leader m a) k.1)
        ∙ ap (λ (ds : List Advertisement). row (λ k. value_of k (each (λ d. d.attributes) ds))) (sym (one-asla a h n))
        ∙ row-unplaced (keep (names a) (aslas (export m)))
        ∙ ap (λ (ts : List Attribute). row (λ k. value_of k ts)) (sym (named_set (export m) a (sym (named_back a h) ∙ n)))

    once : (a : ℕ) → member a others ≡ true → m.named a ≡ true → count (names a) (aslas (export m)) ≡ 1
    once a h n =
        count-keep (names a) (aslas (export m)) ∙ sym (length-map (keep (names a) (aslas (export m))) unplaced_asla) ∙ ap length (one-asla a h n)

    -- ---- the checks

    top_sound : (k : ℕ) → Memᴰ k codes → empty (top_value m k) ≡ false → (at : ℕ) → check_top at k (top_value m k) ≡ accepted
    unfolding check_top
    top_sound k h e at = rw (not-asla h, ok.top.right k (mem-member codes h) e)

    tlvs-sound : Sound check_top (tlvs m)
    unfolding tlvs low_codes high_codes
    tlvs-sound =
        sound-append (sound-append (sound-present check_top (top_value m) low_codes (λ k h. top_sound k (low-code h)))
        (sound-aslas (asla_values m) (λ v h at. let q = asla-is m ok h in ap (check_asla at) q.2 ∙ check-back q.0 q.1 q.3 at)))
        (sound-present check_top (top_value m) high_codes (λ k h. top_sound k (high-code h)))

    passes : Accepted (run_source (export m))
    unfolding run_source run_verdict refused_if ◌then◌
    passes = rw (le-ltb most_in_bgp_ls (length (export m)) (export-within m ok), elements-back) (sound-faults tlvs-sound run_bgp_ls 0)

-- The export is a rival: accepted, with the same meaning, and each application named once.
pub export-is-rival : (m : Meaning) → WellFormed m → IsRival m (export m)
unfolding meaning run_source
export-is-rival m ok =
    record {
      accepted = passes m ok;
      same =
          record {
            bandwidth = bandwidths-of m (λ k. value_of k (top_level (export m))) (top_back m ok.top);
            rsvp_te = rsvp_te-of m (λ k. value_of k (top_level (export m))) (top_back m ok.top);
            general = general-set m ok;
            named = λ a h. named_back m ok a h ∙ rw h;
            set = application-back m ok;
          };
      once = once m ok;
    }
