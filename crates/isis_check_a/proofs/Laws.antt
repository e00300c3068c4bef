-- The checks of run A, one law for each way in which one can go: an attribute and a list of them, the mask header, and an ASLA sub-TLV.
use mathlib.Core.Path.{◌≡◌, refl, sym, ap, ◌∙◌, subst}
use mathlib.Core.Bool.{Bool, true, false, cond}
use mathlib.Core.List.{List, [], ◌∷◌}
use Prim.Native.Nat.{ℕ, zero, suc, ◌+◌, ◌-◌, ◌≤◌, ◌<◌}
use native.Mathlib.Nat.{zero-add}
use native.Mathlib.Omega.{arith}
use borrow.Author.Tests.{lt-ltb, le-ltb, ltb-true, ltb-false, ne_eqb}
use lib.Dec.{ltb}
use lib.ListN.{length, take, drop, length-drop}
use lib.Seq.{take_all, take-nil, take-take, length-take-le}
use Rattle.linkstate.specs.Replies.{run_a, accepted, fault}
use Rattle.linkstate.specs.Elements.{Element, element, elements, faults_once}
use Rattle.repeats.specs.Walked.{Walked}
use Rattle.repeats.proofs.Once.{Once, once-before}
use Rattle.isis.specs.Types.{wrong_in_a}
use Rattle.isis.specs.MaskHeader.{l_flag, header_length, mask_too_long, l_for_nobody}
use Rattle.isis.specs.RunA.{list_elements, check_attribute, known_type, check_asla, check_a}
use Rattle.isis_check_a.specs.declared.Header.{Header}
use Rattle.std.specs.Prelude.{Option, None, Some, Result, Ok, Err}
use Rattle.isis_check_a.specs.declared.Past.{Past}
use Rattle.isis_check_a.specs.Headers.{header_of, too_long, for_nobody, bytes_before, masks_in}
pub use Rattle.frames.proofs.Laws.{part_length}

-- ---- an attribute's length

module _ (at t : ℕ) (v : List ℕ) (n : ℕ) (l : length v ≡ n) where
  pub attribute-fits : wrong_in_a t n ≡ false → check_attribute at t v ≡ accepted
  unfolding check_attribute
  attribute-fits e = rw (l, e)

  pub attribute-wrong : wrong_in_a t n ≡ true → check_attribute at t v ≡ fault 4 run_a at
  unfolding check_attribute
  attribute-wrong e = rw (l, e)

-- As the code judges it.
module _ (at t : ℕ) (v : List ℕ) (b : Bool) (e : b ≡ wrong_in_a t (length v)) where
  pub list-fits : b ≡ false → check_attribute at t v ≡ accepted
  list-fits h = attribute-fits at t v _ refl (sym e ∙ h)

  pub list-wrong : b ≡ true → check_attribute at t v ≡ fault 4 run_a at
  list-wrong h = attribute-wrong at t v _ refl (sym e ∙ h)

-- A check of a list that began at `from`, with those that are left.
pub one_byte : 0 < 1
one_byte = omega arith

abbrev pub Listed : List ℕ → ℕ → ℕ → List Element → Type 0
Listed s from = Once run_a known_type check_attribute 1 one_byte 0 s from (faults_once run_a known_type check_attribute [] (elements 1 from (drop from s)))

-- Those that stood before an element: its place is that in the run.
pub stood-before : {s : List ℕ} {from bits : ℕ} {es : List Element} (o : Listed s from bits es) {at t : ℕ} {v : List ℕ} {rest : List Element} → es ≡ element at t v ∷ rest
    → Walked 1 s at from o.order
stood-before {s} {from} o {at} e = let z : at - 0 ≡ at = omega arith in subst (λ (i : ℕ). Walked 1 s i from o.order) z (once-before o e)

-- ---- the mask header

module _ (h : Header) (v : List ℕ) (e : h ≡ header_of v) where
  pub header-l : h.l ≡ l_flag v
  header-l = ap (λ (x : Header). x.l) e

  pub header-too-long : too_long h ≡ mask_too_long v
  unfolding mask_too_long
  header-too-long = ap too_long e

  pub header-nobody : for_nobody h ≡ l_for_nobody v
  unfolding l_for_nobody
  header-nobody = ap for_nobody e

  pub header-bytes : bytes_before h ≡ header_length v
  unfolding header_length
  header-bytes = ap bytes_before e

-- where its masks end in n bytes
module _ (h : Header) (n : ℕ) where
  pub masks-ignored : too_long h ≡ true → Ok None ≡ masks_in h n
  unfolding masks_in
  masks-ignored t = rw t

  pub masks-past : too_long h ≡ false → n < bytes_before h → Err (record { end = bytes_before h }) ≡ masks_in h n
  unfolding masks_in
  masks-past t p = rw (t, lt-ltb n (bytes_before h) p)

  pub masks-end : too_long h ≡ false → bytes_before h ≤ n → Ok (Some (bytes_before h)) ≡ masks_in h n
  unfolding masks_in
  masks-end t p = rw (t, le-ltb n (bytes_before h) p)

  -- and back, of the bytes v that have the header
  module _ (v : List ℕ) (is : h ≡ header_of v) where
    abbrev pub Ends : Result (Option ℕ) Past → Type 0
    Ends (Ok None) = mask_too_long v ≡ true
    Ends (Err x) = (mask_too_long v ≡ false) × (n < header_length v)
    Ends (Ok (Some e)) = (mask_too_long v ≡ false) × (e ≡ header_length v) × (e ≤ n)

    pub masks-say : (m : Result (Option ℕ) Past) → masks_in h n ≡ m → Ends m
    unfolding masks_in
    masks-say m e = subst Ends e (go (too_long h) refl (ltb n (bytes_before h)) refl)
      where
        go : (b : Bool) → too_long h ≡ b → (c : Bool) → ltb n (bytes_before h) ≡ c → Ends (cond b (Ok None) (cond c (Err (record { end = bytes_before h })) (Ok (Some (bytes_before h)))))
        go true t c p = sym (header-too-long h v is) ∙ t
        go false t true p = (sym (header-too-long h v is) ∙ t, omega (arith, ltb-true n (bytes_before h) p, header-bytes h v is))
        go false t false p = (sym (header-too-long h v is) ∙ t, header-bytes h v is, ltb-false n (bytes_before h) p)

-- what follows an offset
pub rest-is : (v : List ℕ) (n : ℕ) → n ≤ length v → take (length v - n) (drop n v) ≡ drop n v
rest-is v n h = take_all (length v - n) (drop n v) (omega (arith, length-drop n v))

pub rest-length : (v : List ℕ) (n : ℕ) → n ≤ length v → length (take (length v - n) (drop n v)) ≡ length v - n
rest-length v n h = ap length (rest-is v n h) ∙ length-drop n v

-- ---- a part of a run by its places

-- what stands behind a place in what ends at another
pub drop-take : (i j : ℕ) (l : List ℕ) → drop i (take (i + j) l) ≡ take j (drop i l)
drop-take zero j l = rw (zero-add j)
drop-take (suc i) j [] = ap (drop (suc i)) (take-nil {A = ℕ} (suc i + j)) ∙ sym (take-nil {A = ℕ} j)
drop-take (suc i) j (x ∷ l) = let e : suc i + j ≡ suc (i + j) = omega arith in rw e (drop-take i j l)

module _ (s : List ℕ) (end : ℕ) (fits : end ≤ length s) where
  pub front_length : length (take end s) ≡ end
  front_length = length-take-le end s fits

  -- the front as it is lent
  pub front-is : take (end - 0) s ≡ take end s
  front-is = let z : end - 0 ≡ end = omega arith in ap (λ (i : ℕ). take i s) z

  pub lent_length : length (take (end - 0) s) ≡ end
  lent_length = ap length front-is ∙ front_length

  module _ (at : ℕ) (h : at ≤ end) where
    pub part_in : take (end - at) (drop at s) ≡ drop at (take end s)
    part_in = let e : at + (end - at) ≡ end = omega arith in sym (ap (λ (i : ℕ). drop at (take i s)) (sym e) ∙ drop-take at (end - at) s)

    pub part-in-length : length (drop at (take end s)) ≡ end - at
    part-in-length = length-drop at (take end s) ∙ ap (λ (n : ℕ). n - at) front_length

    pub part-of-part : (n : ℕ) → at + n ≤ end → take n (drop at (take end s)) ≡ take n (drop at s)
    part-of-part n g = ap (take n) (sym part_in) ∙ take-take n (end - at) (drop at s) (omega arith)

-- ---- an ASLA sub-TLV, check by check

module _ (at : ℕ) (v : List ℕ) where
  pub asla-short : length v < 2 → fault 3 run_a at ≡ check_asla at v
  unfolding check_asla
  asla-short h = rw (lt-ltb (length v) 2 h)

  module _ (h : 2 ≤ length v) where
    pub asla-ignored : mask_too_long v ≡ true → accepted ≡ check_asla at v
    unfolding check_asla
    asla-ignored m = rw (le-ltb (length v) 2 h, m)

    module _ (m : mask_too_long v ≡ false) where
      pub asla-past : length v < header_length v → fault 3 run_a at ≡ check_asla at v
      unfolding check_asla
      asla-past p = rw (le-ltb (length v) 2 h, m, lt-ltb (length v) (header_length v) p)

      -- the list begins at this offset
      module _ (list : ℕ) (is : list ≡ header_length v) (p : list ≤ length v) where
        -- with L nothing else is read, whoever it names
        pub asla-l : l_flag v ≡ true → accepted ≡ check_asla at v
        unfolding check_asla
        asla-l l = rw (le-ltb (length v) 2 h, m, le-ltb (length v) (header_length v) (omega arith), l) (go (l_for_nobody v))
          where
            go : (b : Bool) → accepted ≡ cond b accepted accepted
            go true = refl
            go false = refl

        pub asla-list : l_flag v ≡ false → faults_once run_a known_type check_attribute [] (elements 1 (at + 2 + list) (drop list v)) ≡ check_asla at v
        unfolding check_asla l_for_nobody list_elements
        asla-list l =
            ap (λ (n : ℕ). faults_once run_a known_type check_attribute [] (elements 1 (at + 2 + n) (drop n v))) is
            ∙ rw (le-ltb (length v) 2 h, m, le-ltb (length v) (header_length v) (omega arith), l)

-- ---- a sub-TLV

module _ (at t : ℕ) (v : List ℕ) where
  pub sub-tlv-asla : t ≡ 16 → check_asla at v ≡ check_a at t v
  unfolding check_a
  sub-tlv-asla e = rw e

  pub sub-tlv-other : (t ≡ 16 → ⊥) → check_attribute at t v ≡ check_a at t v
  unfolding check_a
  sub-tlv-other n = rw (ne_eqb t 16 n)
