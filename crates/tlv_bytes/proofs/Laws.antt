-- Laws of the TLVs of a set, whatever the set is, of bytes written one after another, and of values that stand in a run. Assumes nothing.
use Prim.Native.Nat.{ℕ, suc, ◌+◌, ◌*◌, ◌≤◌, ◌<◌}
use mathlib.Core.Path.{◌≡◌, refl, sym, ◌∙◌, ap}
use mathlib.Core.Bool.{Bool, true, false, cond, ◌&&◌}
use mathlib.Core.List.{List, [], ◌∷◌, ◌++◌, append_assoc, append-nil, map}
use lib.Dec.{eqb}
use lib.ListN.{length, length-append}
use native.Mathlib.Omega.{arith}
use borrow.Author.Tests.{eq-eqb, ne_eqb}
use Rattle.linkstate.specs.Lists.{all, each, empty, put}
use Rattle.linkstate.specs.Bytes.{number, two, four, bytes_at}
use Rattle.linkstate.specs.Export.{tlv, bytes_of, present}
use Rattle.octets.proofs.Laws.{Octets, octets-bytes_at, length-bytes_at, length-four, four-number, four-short, put-nil, put_then}
use Rattle.tlv_bytes.specs.Tlvs.{in_tlvs, front, value_at, value_size, Wrote}

-- ---- the TLVs of a set

pub length-tlv : (t : ℕ) (v : List ℕ) → length (bytes_of (tlv t v)) ≡ 4 + length v
unfolding bytes_of two
length-tlv t v = omega arith

module _ (f : ℕ → List ℕ) where
  pub tlvs-none : in_tlvs f [] ≡ []
  unfolding each present
  tlvs-none = refl

  pub tlvs-append : (ks js : List ℕ) → in_tlvs f (ks ++ js) ≡ in_tlvs f ks ++ in_tlvs f js
  unfolding each present
  tlvs-append [] js = refl
  tlvs-append (k ∷ ks) js = go (empty (f k)) (tlvs-append ks js)
    where
      go : (b : Bool) → in_tlvs f (ks ++ js) ≡ in_tlvs f ks ++ in_tlvs f js
          → each bytes_of (cond b (present (ks ++ js) f) (tlv k (f k) ∷ present (ks ++ js) f)) ≡ each bytes_of (cond b (present ks f) (tlv k (f k) ∷ present ks f)) ++ in_tlvs f js
      go true e = e
      go false e = ap (λ (l : List ℕ). bytes_of (tlv k (f k)) ++ l) e ∙ sym (append_assoc (bytes_of (tlv k (f k))) (in_tlvs f ks) (in_tlvs f js))

  -- One kind that has no value, and one that has.
  pub tlv-absent : (k : ℕ) → f k ≡ [] → in_tlvs f (k ∷ []) ≡ []
  unfolding each present empty
  tlv-absent k e = rw e

  pub tlv-present : (k : ℕ) (v : List ℕ) → f k ≡ v → 0 < length v → in_tlvs f (k ∷ []) ≡ bytes_of (tlv k v)
  unfolding each present empty
  tlv-present k [] e h = absurd (omega arith)
  tlv-present k (b ∷ v) e h = rw e (append-nil (bytes_of (tlv k (b ∷ v))))

-- Sets with the same values of some kinds have the same TLVs of them.
pub tlvs-same : (f h : ℕ → List ℕ) (ks : List ℕ) → map f ks ≡ map h ks → in_tlvs f ks ≡ in_tlvs h ks
unfolding each present
tlvs-same f h [] e = refl
tlvs-same f h (k ∷ ks) e =
    let here : f k ≡ h k = cc in
    let rest : map f ks ≡ map h ks = cc in
    rw here (go (empty (h k)) (tlvs-same f h ks rest))
  where
    go : (b : Bool) → in_tlvs f ks ≡ in_tlvs h ks → each bytes_of (cond b (present ks f) (tlv k (h k) ∷ present ks f)) ≡ each bytes_of (cond b (present ks h) (tlv k (h k) ∷ present ks h))
    go true e = e
    go false e = ap (λ (l : List ℕ). bytes_of (tlv k (h k)) ++ l) e

-- No TLV is longer than its head and the longest value.
pub tlvs-small : (f : ℕ → List ℕ) (most : ℕ) → ((k : ℕ) → length (f k) ≤ most) → (ks : List ℕ) → length (in_tlvs f ks) ≤ length ks * (4 + most)
unfolding each present
tlvs-small f most h [] = omega arith
tlvs-small f most h (k ∷ ks) = go (empty (f k)) (tlvs-small f most h ks)
  where
    go : (b : Bool) → length (in_tlvs f ks) ≤ length ks * (4 + most) → length (each bytes_of (cond b (present ks f) (tlv k (f k) ∷ present ks f))) ≤ suc (length ks) * (4 + most)
    go true e = omega arith
    go false e = omega (arith, h k, length-tlv k (f k), length-append (bytes_of (tlv k (f k))) (in_tlvs f ks))

-- A set is empty where it has no TLV.
pub empty-is : (f : ℕ → List ℕ) (ks : List ℕ) → eqb (length (in_tlvs f ks)) 0 ≡ all empty (map f ks)
unfolding each present all
empty-is f [] = refl
empty-is f (k ∷ ks) = go (empty (f k)) (empty-is f ks)
  where
    go : (b : Bool) → eqb (length (in_tlvs f ks)) 0 ≡ all empty (map f ks) → eqb (length (each bytes_of (cond b (present ks f) (tlv k (f k) ∷ present ks f)))) 0 ≡ b && all empty (map f ks)
    go true e = e
    go false e = ne_eqb (length (bytes_of (tlv k (f k)) ++ in_tlvs f ks)) 0 (λ z. omega (arith, length-tlv k (f k), length-append (bytes_of (tlv k (f k))) (in_tlvs f ks)))

pub in_three : (f : ℕ → List ℕ) (ks is js : List ℕ) → in_tlvs f (ks ++ is ++ js) ≡ in_tlvs f ks ++ in_tlvs f is ++ in_tlvs f js
in_three f ks is js = tlvs-append f (ks ++ is) js ∙ ap (λ (v : List ℕ). v ++ in_tlvs f js) (tlvs-append f ks is)

-- ---- bytes written at a place

-- The same bytes, told otherwise: what a write of them asks, and what it leaves.
module _ {vs ws : List ℕ} (e : vs ≡ ws) (d : List ℕ) (at : ℕ) where
  pub same-room : at + length ws ≤ length d → at + length vs ≤ length d
  same-room h = omega (arith, ap length e)

  pub same_write : {r : ℕ} {o : List ℕ} → Wrote d at vs r o → Wrote d at ws r o
  same_write w = (w.0 ∙ ap (λ (k : List ℕ). at + length k) e, w.1 ∙ ap (put d at) e)

-- Nothing is written where there are no bytes.
pub no_write : {vs : List ℕ} (d : List ℕ) (at : ℕ) → vs ≡ [] → Wrote d at vs at d
no_write d at e = same_write (sym e) d at (omega arith, put-nil d at)

-- What is written behind bytes that stand there already.
module _ (d : List ℕ) (at : ℕ) (x y : List ℕ) (room : at + length (x ++ y) ≤ length d) {o : List ℕ} {r : ℕ} (kept : length o ≡ length d) (w : Wrote d at x r o) where
  pub behind-room : r + length y ≤ length o
  behind-room = omega (arith, length-append x y, w.0)

  pub behind-write : {t : ℕ} {e : List ℕ} → Wrote o r y t e → Wrote d at (x ++ y) t e
  behind-write {t} {e} v = (omega (arith, length-append x y, w.0, v.0), put_then d o e at x r y w.1 v.1 w.0 (omega (arith, behind-room)))

-- Three pieces, written one after another.
pub record Three (vs x y z : List ℕ) : Type 0 where
  pub are : vs ≡ x ++ y ++ z

pub length_three : {vs x y z : List ℕ} → Three vs x y z → length vs ≡ length x + length y + length z
length_three {vs} {x} {y} {z} t = omega (arith, ap length t.are, length-append (x ++ y) z, length-append x y)

module _ (d : List ℕ) (at : ℕ) {vs x y z : List ℕ} (is : Three vs x y z) (room : at + length vs ≤ length d) where
  pub first-room : at + length x ≤ length d
  first-room = omega (arith, length_three is)

  module _ {o : List ℕ} {r : ℕ} (kept : length o ≡ length d) (w : Wrote d at x r o) where
    two-room : at + length (x ++ y) ≤ length d
    two-room = omega (arith, length_three is, length-append x y)

    pub second-room : r + length y ≤ length o
    second-room = behind-room d at x y two-room kept w

    module _ {p : List ℕ} {q : ℕ} (still : length p ≡ length o) (v : Wrote o r y q p) where
      both : Wrote d at (x ++ y) q p
      both = behind-write d at x y two-room kept w v

      three-room : at + length (x ++ y ++ z) ≤ length d
      three-room = omega (arith, ap length is.are)

      pub third-room : q + length z ≤ length p
      third-room = behind-room d at (x ++ y) z three-room (still ∙ kept) both

      pub three-write : {t : ℕ} {e : List ℕ} → Wrote p q z t e → Wrote d at vs t e
      three-write u = same_write (sym is.are) d at (behind-write d at (x ++ y) z three-room (still ∙ kept) both u)

-- ---- a TLV written in parts

pub put-tlv : (d e f : List ℕ) (at t n : ℕ) (v : List ℕ) → e ≡ put d at (two t ++ two n) → f ≡ put e (at + 4) v → n ≡ length v → at + 4 + length v ≤ length d → f ≡ put d at (bytes_of (tlv t v))
unfolding bytes_of two
put-tlv d e f at t n v p q r h = put_then d e f at (two t ++ two n) (at + 4) v p q refl h ∙ rw r

pub tlv-written : (d e f : List ℕ) (at t n : ℕ) (v : List ℕ) → e ≡ put d at (two t ++ two n) → f ≡ put e (at + 4) v → n ≡ length v → at + length (bytes_of (tlv t v)) ≤ length d
    → (k : ℕ) → k ≡ at + 4 + n → Wrote d at (bytes_of (tlv t v)) k f
tlv-written d e f at t n v p q r h k z = let l = length-tlv t v in (omega arith, put-tlv d e f at t n v p q r (omega arith))

pub length-number : (t x : ℕ) → length (bytes_of (tlv t (four x))) ≡ 8
length-number t x = length-tlv t (four x) ∙ ap (λ (k : ℕ). 4 + k) (length-four x)

-- ---- values that stand in a run

pub front-three : (n : ℕ) → n ≡ 3 → front n ≡ 0 ∷ []
unfolding front
front-three n e = rw (eq-eqb n 3 e)

pub front-none : (n : ℕ) → (n ≡ 3 → ⊥) → front n ≡ []
unfolding front
front-none n e = rw (ne_eqb n 3 e)

pub front-most : (n : ℕ) → length (front n) ≤ 1
unfolding front
front-most n = go (eqb n 3)
  where
    go : (b : Bool) → length {A = ℕ} (cond b (0 ∷ []) []) ≤ 1
    go true = omega arith
    go false = omega arith

module _ (run : List ℕ) (place n : ℕ) where
  pub length-value : place + n ≤ length run → length (value_at run place n) ≡ length (front n) + n
  unfolding value_at
  length-value h = length-append (front n) (bytes_at run place n) ∙ ap (λ (k : ℕ). length (front n) + k) (length-bytes_at run place n h)

  pub value_none : n ≡ 0 → value_at run place n ≡ []
  unfolding value_at bytes_at front
  value_none e = rw e

  pub value-plain : (n ≡ 3 → ⊥) → value_at run place n ≡ bytes_at run place n
  unfolding value_at
  value-plain e = rw (front-none n e)

  pub length-plain : place + n ≤ length run → (n ≡ 3 → ⊥) → length (value_at run place n) ≡ n
  length-plain h e = ap length (value-plain e) ∙ length-bytes_at run place n h

  -- Values of three and of four bytes, as numbers.
  module _ (all : Octets run) (h : place + n ≤ length run) where
    value-three : n ≡ 3 → four (number (bytes_at run place 3)) ≡ value_at run place n
    unfolding value_at
    value-three e = rw (e, front-three 3 refl) (four-short (bytes_at run place 3) (octets-bytes_at run place 3 all) (length-bytes_at run place 3 (omega arith)))

    value-four : n ≡ 4 → four (number (bytes_at run place 4)) ≡ value_at run place n
    value-four e =
        four-number (bytes_at run place 4) (octets-bytes_at run place 4 all) (length-bytes_at run place 4 (omega arith))
        ∙ ap (bytes_at run place) (sym e) ∙ sym (value-plain (λ z. omega arith))

    pub as-three : (t x : ℕ) → n ≡ 3 → x ≡ number (bytes_at run place 3) → bytes_of (tlv t (four x)) ≡ bytes_of (tlv t (value_at run place n))
    as-three t x e f = ap (λ (v : List ℕ). bytes_of (tlv t v)) (ap four f ∙ value-three e)

    pub as-four : (t x : ℕ) → n ≡ 4 → x ≡ number (bytes_at run place 4) → bytes_of (tlv t (four x)) ≡ bytes_of (tlv t (value_at run place n))
    as-four t x e f = ap (λ (v : List ℕ). bytes_of (tlv t v)) (ap four f ∙ value-four e)

-- The size of its TLV.
pub size-three : (n : ℕ) → n ≡ 3 → 8 ≡ value_size n
unfolding value_size
size-three n e = omega (arith, ap length (front-three n e))

pub size-plain : (n : ℕ) → (n ≡ 3 → ⊥) → 4 + n ≡ value_size n
unfolding value_size
size-plain n e = omega (arith, ap length (front-none n e))

pub size-value : (run : List ℕ) (place n t : ℕ) → place + n ≤ length run → length (bytes_of (tlv t (value_at run place n))) ≡ value_size n
unfolding value_size
size-value run place n t h = length-tlv t (value_at run place n) ∙ ap (λ (k : ℕ). 4 + k) (length-value run place n h)
