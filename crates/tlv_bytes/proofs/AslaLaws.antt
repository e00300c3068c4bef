-- Laws of what stands before the set of an ASLA TLV, and that with the set it is the TLV. Assumes nothing.
use Prim.Native.Nat.{ℕ, ◌+◌, ◌*◌, ◌/◌, ◌%◌, ◌≤◌, ◌<◌}
use mathlib.Core.Path.{◌≡◌, refl, sym, ◌∙◌, ap, ap₂}
use mathlib.Core.Bool.{Bool}
use mathlib.Core.List.{List, [], ◌∷◌, ◌++◌, append_assoc}
use native.Mathlib.Omega.{arith}
use lib.ListN.{length, length-append}
use Rattle.linkstate.specs.Lists.{put}
use Rattle.linkstate.specs.Bytes.{two, four}
use Rattle.linkstate.specs.Kinds.{application_codes}
use Rattle.linkstate.specs.Masks.{user, mask_size, mask}
use Rattle.linkstate.specs.Meaning.{row}
use Rattle.linkstate.specs.Export.{tlv, bytes_of, asla_value}
use Rattle.linkstate.proofs.MaskLaws.{length-mask}
use Rattle.octets.proofs.Laws.{put_then}
use Rattle.masks.specs.Sets.{in_sent}
use Rattle.masks.specs.declared.Applications.{Applications}
use Rattle.masks.proofs.Laws.{size_same, mask-same}
use Rattle.tlv_bytes.specs.Tlvs.{in_tlvs, Wrote}
use Rattle.tlv_bytes.proofs.Laws.{tlvs-same, same_write, behind-write}
use Rattle.tlv_bytes.specs.Fronts.{front_size, asla_front}

-- ---- pieces

pub mask-wrote : (m : ℕ) (d : List ℕ) (at : ℕ) {r : ℕ} {o : List ℕ} → (r ≡ at + mask_size (in_sent m)) × (o ≡ put d at (mask (in_sent m))) → Wrote d at (mask (in_sent m)) r o
mask-wrote m d at w = (w.0 ∙ ap (λ (k : ℕ). at + k) (sym (length-mask (in_sent m))), w.1)

sizes-four : (s u : ℕ) → s ≤ 8 → u ≤ 8 → four (s * 16777216 + u * 65536) ≡ s ∷ u ∷ 0 ∷ 0 ∷ []
unfolding four
sizes-four s u h k =
    let n = s * 16777216 + u * 65536 in
    let a : n / 16777216 ≡ s = omega arith in
    let b : n / 65536 % 256 ≡ u = omega arith in
    let c : n / 256 % 256 ≡ 0 = omega arith in
    let e : n % 256 ≡ 0 = omega arith in
    cc

pub put-head : (d e f : List ℕ) (at s u n : ℕ) → s ≤ 8 → u ≤ 8 → e ≡ put d at (two 1122 ++ two n) → f ≡ put e (at + 4) (four (s * 16777216 + u * 65536)) → at + 8 ≤ length d
    → f ≡ put d at (two 1122 ++ two n ++ (s ∷ u ∷ 0 ∷ 0 ∷ []))
unfolding two
put-head d e f at s u n hs hu p q h = put_then d e f at (two 1122 ++ two n) (at + 4) (s ∷ u ∷ 0 ∷ 0 ∷ []) p (q ∙ ap (put e (at + 4)) (sizes-four s u hs hu)) refl (omega arith)

module _ (m : Applications) where
  abbrev S : ℕ
  S = mask_size (in_sent m.standard)

  abbrev U : ℕ
  U = mask_size (in_sent m.user)

  abbrev masks : List ℕ
  masks = mask (in_sent m.standard) ++ mask (in_sent m.user)

  pub length-masks : length masks ≡ S + U
  length-masks = length-append (mask (in_sent m.standard)) (mask (in_sent m.user)) ∙ ap₂ (λ (i j : ℕ). i + j) (length-mask (in_sent m.standard)) (length-mask (in_sent m.user))

  pub size_is : front_size m ≡ 8 + (S + U)
  unfolding front_size
  size_is = omega arith

  module _ (size : ℕ) where
    abbrev head : List ℕ
    head = two 1122 ++ two (4 + S + U + size) ++ (S ∷ U ∷ 0 ∷ 0 ∷ [])

    length-head : length head ≡ 8
    unfolding two
    length-head = refl

    front-is : head ++ masks ≡ asla_front m size
    unfolding asla_front
    front-is = sym (append_assoc head (mask (in_sent m.standard)) (mask (in_sent m.user)))

    pub length_front : length (asla_front m size) ≡ front_size m
    length_front = ap length (sym front-is) ∙ length-append head masks ∙ omega (arith, length-head, length-masks, size_is)

    -- The head written, then the masks.
    module _ (d : List ℕ) (at : ℕ) (room : at + front_size m ≤ length d) (s u n : ℕ) (es : s ≡ S) (eu : u ≡ U) (en : n ≡ 4 + s + u + size) (e : List ℕ)
        (is : e ≡ put d at (two 1122 ++ two n ++ (s ∷ u ∷ 0 ∷ 0 ∷ []))) (kept : length e ≡ length d) where
      head-wrote : Wrote d at head (at + 8) e
      head-wrote =
          let z : n ≡ 4 + S + U + size = omega arith in
          (ap (λ (k : ℕ). at + k) (sym length-head), is ∙ ap (put d at) (pieces z))
        where
          pieces : n ≡ 4 + S + U + size → two 1122 ++ two n ++ (s ∷ u ∷ 0 ∷ 0 ∷ []) ≡ head
          pieces z = cc

      whole_room : at + length (head ++ masks) ≤ length d
      whole_room = omega (arith, length-append head masks, length-head, length-masks, size_is)

      pub front-written : {r : ℕ} {o : List ℕ} → Wrote e (at + 8) masks r o → Wrote d at (asla_front m size) r o
      front-written w = same_write front-is d at (behind-write d at head masks whole_room kept head-wrote w)

-- ---- with the set, it is the TLV

module _ (m : Applications) (p : ℕ → Bool) (f h : ℕ → List ℕ) (s : (n : ℕ) → n < 64 → p n ≡ in_sent m.standard n) (u : (n : ℕ) → n < 64 → p (user n) ≡ in_sent m.user n) (same : row f ≡ row h) where
  pub asla-is : bytes_of (tlv 1122 (asla_value p f)) ≡ asla_front m (length (in_tlvs h application_codes)) ++ in_tlvs h application_codes
  unfolding bytes_of asla_value row asla_front
  asla-is =
      let a = size_same p (in_sent m.standard) s in
      let b = size_same (λ n. p (user n)) (in_sent m.user) u in
      let c = mask-same p (in_sent m.standard) s in
      let d = mask-same (λ n. p (user n)) (in_sent m.user) u in
      let t = tlvs-same f h application_codes same in
      rw (a, b, c, d, t) (go (mask (in_sent m.standard)) (mask (in_sent m.user)) (in_tlvs h application_codes) (length-mask (in_sent m.standard)) (length-mask (in_sent m.user)))
    where
      go : (x y z : List ℕ) → length x ≡ mask_size (in_sent m.standard) → length y ≡ mask_size (in_sent m.user)
          → two 1122 ++ two (length (mask_size (in_sent m.standard) ∷ mask_size (in_sent m.user) ∷ 0 ∷ 0 ∷ x ++ y ++ z)) ++ (mask_size (in_sent m.standard) ∷ mask_size (in_sent m.user) ∷ 0 ∷ 0 ∷ x ++ y ++ z)
          ≡ two 1122 ++ two (4 + mask_size (in_sent m.standard) + mask_size (in_sent m.user) + length z) ++ (mask_size (in_sent m.standard) ∷ mask_size (in_sent m.user) ∷ 0 ∷ 0 ∷ []) ++ x ++ y ++ z
      go x y z e k =
          let l : length (mask_size (in_sent m.standard) ∷ mask_size (in_sent m.user) ∷ 0 ∷ 0 ∷ x ++ y ++ z) ≡ 4 + mask_size (in_sent m.standard) + mask_size (in_sent m.user) + length z =
          omega (arith, length-append (x ++ y) z, length-append x y) in
          rw l (simp append_assoc)
