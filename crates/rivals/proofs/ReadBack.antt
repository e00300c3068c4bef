-- Reading back what was written: the elements of written TLVs are these TLVs, one behind the other, and a set that is written is read.
-- Places are no part of a meaning (rule L17), so attributes are compared without them (`unplaced`).
use mathlib.Core.Path.{◌≡◌, refl, sym, ap, ap₂, ◌∙◌, subst}
use mathlib.Core.Bool.{Bool, true, false, cond, ◌&&◌, ◌||◌, not, false≢true}
use mathlib.Core.List.{List, [], ◌∷◌, ◌++◌, map, append-nil, Memᴰ}
use Prim.Native.Nat.{ℕ, ◌+◌, ◌≤◌}
use native.Mathlib.Omega.{arith}
use borrow.Author.Tests.{eqb-true, not-true}
use lib.Dec.{eqb}
use lib.ListN.{length, take, drop, length-append}
use lib.Seq.{take_at, drop_at, drop-drop}
use Rattle.linkstate.specs.Lists.{keep, each, empty, member}
use Rattle.linkstate.specs.Bytes.{number_from, number, two, words, distinct, bytes_of_words}
use Rattle.linkstate.specs.Replies.{Run, Verdict, accepted, ◌then◌}
use Rattle.linkstate.specs.Elements.{Element, element, cut, type_of, length_of, size_of, elements, faults, faults_once}
use Rattle.linkstate.specs.Attributes.{Attribute, attribute, of_kind, srlgs, first_value, value_of}
use Rattle.linkstate.specs.Sides.{Advertisement}
use Rattle.linkstate.specs.BgpLs.{sabm_length, udabm_length, not_ignored, asla_header, inner_elements, attributes_of, advertisement, advertisements_of}
use Rattle.linkstate.specs.Export.{Tlv, tlv, bytes_of, present}
use Rattle.linkstate.proofs.ElementLaws.{none_left, first-whole, moved, elements-moved}
use Rattle.linkstate.proofs.ListLaws.{and_l, and_r, keep-map, different, mem-member, and-false}

-- ---- elements

-- TLVs one behind the other, the first at an offset.
unfoldable pub placed : ℕ → List Tlv → List Element
placed at [] = []
placed at (tlv t v ∷ ts) = element at t v ∷ placed (at + (4 + length v)) ts

read_one : (at t : ℕ) (v rest : List ℕ) → elements 2 at (bytes_of (tlv t v) ++ rest) ≡ element at t v ∷ elements 2 (at + (4 + length v)) rest
unfolding bytes_of two type_of length_of size_of number number_from
read_one at t v rest =
    first-whole 2 (omega arith) at s whole
    ∙ ap₂ (λ (e : Element) (es : List Element). e ∷ es) (ap₂ (element at) type-is value-is) (ap₂ (elements 2) (ap (λ (n : ℕ). at + n) size_is) rest-is)
  where
    s : List ℕ
    s = bytes_of (tlv t v) ++ rest

    type-is : type_of 2 s ≡ t
    type-is = omega arith

    length-is : length_of 2 s ≡ length v
    length-is = omega arith

    size_is : size_of 2 s ≡ 4 + length v
    size_is = omega (arith, length-is)

    whole : size_of 2 s ≤ length s
    whole = omega (arith, length-is, length-append v rest)

    value-is : take (length_of 2 s) (drop (2 + 2) s) ≡ v
    value-is = take_at v rest (length_of 2 s) (sym length-is)

    rest-is : drop (size_of 2 s) s ≡ rest
    rest-is = ap (λ (n : ℕ). drop n s) size_is ∙ sym (drop-drop (length v) 4 s) ∙ drop_at v rest (length v) refl

pub read_back : (at : ℕ) (ts : List Tlv) → elements 2 at (each bytes_of ts) ≡ placed at ts
unfolding each placed
read_back at [] = none_left 2 at
read_back at (tlv t v ∷ ts) = read_one at t v (each bytes_of ts) ∙ ap (λ (es : List Element). element at t v ∷ es) (read_back (at + (4 + length v)) ts)

-- ---- checks

-- TLVs that pass a check wherever they stand.
pub data Sound (check : ℕ → ℕ → List ℕ → Verdict) : List Tlv → Type 0 where
  none : Sound check []
  more : {t : ℕ} {v : List ℕ} {ts : List Tlv} → ((at : ℕ) → check at t v ≡ accepted) → Sound check ts → Sound check (tlv t v ∷ ts)

module _ {check : ℕ → ℕ → List ℕ → Verdict} where
  pub sound-append : {xs ys : List Tlv} → Sound check xs → Sound check ys → Sound check (xs ++ ys)
  sound-append none k = k
  sound-append (more c h) k = more c (sound-append h k)

  pub sound-faults : {ts : List Tlv} → Sound check ts → (run : Run) (at : ℕ) → faults run check (placed at ts) ≡ accepted
  unfolding faults ◌then◌ placed
  sound-faults none run at = refl
  sound-faults (more {t = t} {v = v} c h) run at = rw (c at) (sound-faults h run (at + (4 + length v)))

pub sound-present : (check : ℕ → ℕ → List ℕ → Verdict) (f : ℕ → List ℕ) (ks : List ℕ)
    → ((k : ℕ) → Memᴰ k ks → empty (f k) ≡ false → (at : ℕ) → check at k (f k) ≡ accepted) → Sound check (present ks f)
unfolding present
sound-present check f [] h = none
sound-present check f (k ∷ ks) h = go (empty (f k)) refl (sound-present check f ks (λ c i. h c (Memᴰ.tail i)))
  where
    go : (b : Bool) → empty (f k) ≡ b → Sound check (present ks f) → Sound check (cond b (present ks f) (tlv k (f k) ∷ present ks f))
    go true e r = r
    go false e r = more (h k (Memᴰ.head refl) e) r

head-member : (c k : ℕ) (before : List ℕ) → eqb c k || member c before ≡ false → member c (k ∷ before) ≡ false
unfolding member
head-member c k before q = q

-- E5a. The TLVs of different kinds have no type twice.
module _ (run : Run) (known : ℕ → Bool) (check : ℕ → ℕ → List ℕ → Verdict) where
  none-placed : (before : List ℕ) (at : ℕ) → faults_once run known check before (placed at []) ≡ accepted
  unfolding faults_once placed
  none-placed before at = refl

  one_placed : (before : List ℕ) (at t : ℕ) (v : List ℕ) (ts : List Tlv) → check at t v ≡ accepted → member t before ≡ false
      → faults_once run known check (t ∷ before) (placed (at + (4 + length v)) ts) ≡ accepted → faults_once run known check before (placed at (tlv t v ∷ ts)) ≡ accepted
  unfolding faults_once placed ◌then◌
  one_placed before at t v ts c m h = rw (c, m, and-false (known t)) h

  pub once-present : (f : ℕ → List ℕ) (ks : List ℕ) (before : List ℕ) (at : ℕ) → different ks ≡ true → ((k : ℕ) → Memᴰ k ks → member k before ≡ false)
      → ((k : ℕ) → Memᴰ k ks → empty (f k) ≡ false → (at : ℕ) → check at k (f k) ≡ accepted) → faults_once run known check before (placed at (present ks f)) ≡ accepted
  unfolding present different
  once-present f [] before at d n h = none-placed before at
  once-present f (k ∷ ks) before at d n h =
      go (empty (f k)) refl (λ s o m. once-present f ks s o (and_r (not (member k ks)) (different ks) d) m (λ c i. h c (Memᴰ.tail i)))
    where
      new : (c : ℕ) → Memᴰ c ks → (b : Bool) → eqb c k ≡ b → b || member c before ≡ false
      new c i true e =
          absurd (false≢true (sym (not-true (member k ks) (and_l (not (member k ks)) (different ks) d))
          ∙ ap (λ (x : ℕ). member x ks) (sym (eqb-true c k e)) ∙ mem-member ks i))
      new c i false e = n c (Memᴰ.tail i)

      go : (b : Bool) → empty (f k) ≡ b
          → ((s : List ℕ) (o : ℕ) → ((c : ℕ) → Memᴰ c ks → member c s ≡ false) → faults_once run known check s (placed o (present ks f)) ≡ accepted)
          → faults_once run known check before (placed at (cond b (present ks f) (tlv k (f k) ∷ present ks f))) ≡ accepted
      go true e r = r before at (λ c i. n c (Memᴰ.tail i))
      go false e r =
          one_placed before at k (f k) (present ks f) (h k (Memᴰ.head refl) e at) (n k (Memᴰ.head refl))
          (r (k ∷ before) (at + (4 + length (f k))) (λ c i. head-member c k before (new c i (eqb c k) refl)))

-- ---- attributes without their places

unfoldable pub unplaced : Attribute → Attribute
unplaced t = record { code = t.code; at = 0; len = 0; value = t.value }

unfoldable pub unplaced_asla : Advertisement → Advertisement
unplaced_asla d = record { L = d.L; standard_mask = d.standard_mask; user_mask = d.user_mask; attributes = map unplaced d.attributes }

-- A TLV as an attribute.
unfoldable pub plain : Tlv → Attribute
plain (tlv t v) = record { code = t; at = 0; len = 0; value = v }

first-unplaced : (ts : List Attribute) → first_value (map unplaced ts) ≡ first_value ts
unfolding first_value unplaced
first-unplaced [] = refl
first-unplaced (t ∷ ts) = refl

words-unplaced : (ts : List Attribute) → each (λ t. words t.value) (map unplaced ts) ≡ each (λ t. words t.value) ts
unfolding each unplaced
words-unplaced [] = refl
words-unplaced (t ∷ ts) = ap (λ (l : List ℕ). words t.value ++ l) (words-unplaced ts)

kind-unplaced : (k : ℕ) (ts : List Attribute) → of_kind k (map unplaced ts) ≡ map unplaced (of_kind k ts)
unfolding of_kind unplaced
kind-unplaced k ts = keep-map (λ t. eqb k t.code) unplaced ts

-- A value does not depend on places.
pub value-unplaced : (k : ℕ) (ts : List Attribute) → value_of k (map unplaced ts) ≡ value_of k ts
unfolding value_of srlgs
value-unplaced k ts =
    ap₂ (λ (x y : List ℕ). cond (eqb k 1096) x y)
    (ap (λ (l : List Attribute). bytes_of_words (distinct (each (λ t. words t.value) l))) (kind-unplaced 1096 ts) ∙ ap (λ (l : List ℕ). bytes_of_words (distinct l)) (words-unplaced (of_kind 1096 ts)))
    (ap first_value (kind-unplaced k ts) ∙ first-unplaced (of_kind k ts))

attributes-moved : (d : ℕ) (es : List Element) → map unplaced (each attributes_of (map (moved d) es)) ≡ map unplaced (each attributes_of es)
unfolding each attributes_of attribute moved unplaced
attributes-moved d [] = refl
attributes-moved d (element at t v ∷ es) = ap (λ (l : List Attribute). record { code = t; at = 0; len = 0; value = v } ∷ l) (attributes-moved d es)
attributes-moved d (cut at ∷ es) = attributes-moved d es

-- An ASLA's attributes do not depend on where it stands.
asla-moved : (at : ℕ) (v : List ℕ) → unplaced_asla (advertisement at v) ≡ unplaced_asla (advertisement 0 v)
unfolding unplaced_asla advertisement inner_elements
asla-moved at v =
    let inner = drop (asla_header v) v in
    let z : at + 4 + asla_header v ≡ at + (0 + 4 + asla_header v) = omega arith in
    ap (λ (ts : List Attribute). record { L = false; standard_mask = take (sabm_length v) (drop 4 v); user_mask = take (udabm_length v) (drop (4 + sabm_length v) v); attributes = ts })
    (ap (λ (n : ℕ). map unplaced (each attributes_of (elements 2 n inner))) z
    ∙ ap (λ (es : List Element). map unplaced (each attributes_of es)) (elements-moved 2 at (0 + 4 + asla_header v) inner)
    ∙ attributes-moved at (elements 2 (0 + 4 + asla_header v) inner))

-- ---- TLVs that are read back

pub attributes-placed : (at : ℕ) (ts : List Tlv) → map unplaced (each attributes_of (placed at ts)) ≡ map plain ts
unfolding each attributes_of attribute placed unplaced plain
attributes-placed at [] = refl
attributes-placed at (tlv t v ∷ ts) = ap (λ (l : List Attribute). plain (tlv t v) ∷ l) (attributes-placed (at + (4 + length v)) ts)

-- The advertisement of a TLV, without places.
unfoldable pub seen : Tlv → List Advertisement
seen (tlv t v) = cond (eqb t 1122 && not_ignored v) (unplaced_asla (advertisement 0 v) ∷ []) []

pub aslas-placed : (at : ℕ) (ts : List Tlv) → map unplaced_asla (each advertisements_of (placed at ts)) ≡ each seen ts
unfolding each advertisements_of placed seen
aslas-placed at [] = refl
aslas-placed at (tlv t v ∷ ts) = go (eqb t 1122 && not_ignored v) (aslas-placed (at + (4 + length v)) ts)
  where
    go : (b : Bool) → map unplaced_asla (each advertisements_of (placed (at + (4 + length v)) ts)) ≡ each seen ts
        → map unplaced_asla (cond b (advertisement at v ∷ []) [] ++ each advertisements_of (placed (at + (4 + length v)) ts))
        ≡ cond b (unplaced_asla (advertisement 0 v) ∷ []) [] ++ each seen ts
    go true e = ap₂ (λ (d : Advertisement) (l : List Advertisement). d ∷ l) (asla-moved at v) e
    go false e = e

-- ---- a set that is written is read

-- A value that may be absent.
box : ℕ → List ℕ → List Attribute
box k v = cond (empty v) [] (plain (tlv k v) ∷ [])

kind-front : (k c : ℕ) (w : List ℕ) (ts : List Tlv) → of_kind k (map plain (cond (empty w) ts (tlv c w ∷ ts))) ≡ cond (eqb k c) (box c w) [] ++ of_kind k (map plain ts)
unfolding of_kind keep box empty plain
kind-front k c [] ts = go (eqb k c)
  where
    go : (b : Bool) → of_kind k (map plain ts) ≡ cond b [] [] ++ of_kind k (map plain ts)
    go true = refl
    go false = refl
kind-front k c (x ∷ w) ts = go (eqb k c)
  where
    go : (b : Bool) → cond b (plain (tlv c (x ∷ w)) ∷ of_kind k (map plain ts)) (of_kind k (map plain ts)) ≡ cond b (plain (tlv c (x ∷ w)) ∷ []) [] ++ of_kind k (map plain ts)
    go true = refl
    go false = refl

kind-present : (k : ℕ) (f : ℕ → List ℕ) (ks : List ℕ) → different ks ≡ true → of_kind k (map plain (present ks f)) ≡ cond (member k ks) (box k (f k)) []
unfolding present different member of_kind keep
kind-present k f [] d = refl
kind-present k f (c ∷ ks) d = kind-front k c (f c) (present ks f) ∙ go (eqb k c) refl (kind-present k f ks (and_r (not (member c ks)) (different ks) d))
  where
    go : (b : Bool) → eqb k c ≡ b → of_kind k (map plain (present ks f)) ≡ cond (member k ks) (box k (f k)) []
        → cond b (box c (f c)) [] ++ of_kind k (map plain (present ks f)) ≡ cond (b || member k ks) (box k (f k)) []
    go true e i =
        let q : k ≡ c = eqb-true k c e in
        let z : member k ks ≡ false = rw q (not-true (member c ks) (and_l (not (member c ks)) (different ks) d)) in
        let n : of_kind k (map plain (present ks f)) ≡ [] = i ∙ rw z in
        rw (n, append-nil (box c (f c))) (ap (λ (x : ℕ). box x (f x)) (sym q))
    go false e i = i

-- The attributes of one kind, together.
unfoldable pub together : ℕ → List Attribute → List ℕ
together k ts = cond (eqb k 1096) (bytes_of_words (distinct (each (λ t. words t.value) ts))) (first_value ts)

pub value-together : (k : ℕ) (ts : List Attribute) → value_of k ts ≡ together k (of_kind k ts)
unfolding value_of together srlgs
value-together k ts = go (eqb k 1096) refl
  where
    go : (b : Bool) → eqb k 1096 ≡ b
        → cond b (bytes_of_words (distinct (each (λ t. words t.value) (of_kind 1096 ts)))) (first_value (of_kind k ts))
        ≡ cond b (bytes_of_words (distinct (each (λ t. words t.value) (of_kind k ts)))) (first_value (of_kind k ts))
    go true e = let z : k ≡ 1096 = eqb-true k 1096 e in rw z
    go false e = refl

together-box : (k : ℕ) (v : List ℕ) → (eqb k 1096 ≡ true → bytes_of_words (distinct (words v)) ≡ v) → together k (box k v) ≡ v
unfolding together box empty each first_value plain distinct bytes_of_words
together-box k [] h = go (eqb k 1096)
  where
    go : (b : Bool) → cond b (bytes_of_words (distinct [])) [] ≡ []
    go true = refl
    go false = refl
together-box k (c ∷ v) h = go (eqb k 1096) refl
  where
    go : (b : Bool) → eqb k 1096 ≡ b → cond b (bytes_of_words (distinct (words (c ∷ v) ++ []))) (c ∷ v) ≡ c ∷ v
    go true e = ap (λ (l : List ℕ). bytes_of_words (distinct l)) (append-nil (words (c ∷ v))) ∙ h e
    go false e = refl

pub value-present : (ks : List ℕ) (f : ℕ → List ℕ) → different ks ≡ true → bytes_of_words (distinct (words (f 1096))) ≡ f 1096
    → (k : ℕ) → member k ks ≡ true → value_of k (map plain (present ks f)) ≡ f k
value-present ks f d s k h =
    value-together k (map plain (present ks f)) ∙ ap (together k) (kind-present k f ks d ∙ rw h)
    ∙ together-box k (f k) (λ e. subst (λ (x : ℕ). bytes_of_words (distinct (words (f x))) ≡ f x) (sym (eqb-true k 1096 e)) s)
