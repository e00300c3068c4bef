-- Laws of the SRLG TLV, of the numbers that a class's bits stand for, and of where the numbers of classes stand. Assumes nothing.
use Rattle.std.specs.Prelude.{Some, None}
use Prim.Native.Nat.{ℕ, suc, ◌+◌, ◌*◌, ◌/◌, ◌%◌, ◌≤◌, ◌<◌}
use mathlib.Core.Path.{◌≡◌, refl, sym, ◌∙◌, ap}
use mathlib.Core.Bool.{Bool, true, false, cond, ◌&&◌}
use mathlib.Core.List.{List, [], ◌∷◌, ◌++◌}
use native.Mathlib.Omega.{arith}
use borrow.Author.Tests.{eq-eqb, ne_eqb, eqb-true, eqb-false, ltb-true, ltb-false}
use lib.Dec.{eqb, ltb}
use lib.ListN.{length, get_or, set, drop, length-drop}
use lib.Seq.{get_or-set_same, get_or-set_other}
use Rattle.linkstate.specs.Limits.{most_numbers}
use Rattle.linkstate.specs.Lists.{each, put}
use Rattle.linkstate.specs.Bytes.{two, bytes_at, bytes_of_words}
use Rattle.linkstate.specs.Masks.{in_number}
use Rattle.linkstate.specs.Export.{tlv, bytes_of}
use Rattle.octets.proofs.Laws.{bytes_at-before, bytes_at-put}
use Rattle.srlg.proofs.Laws.{length-bytes_of_words}
use Rattle.srlg_ranks.specs.Ranks.{keep_from, in_words, picked, Inside}
use Rattle.srlg_ranks.proofs.Laws.{keep_same}
use Rattle.srlg_sources.specs.Classes.{has_source, in_class, class_numbers, Class}
use Rattle.srlg_sources.proofs.Joins.{any_same}
use Rattle.tlv_bytes.specs.Tlvs.{Wrote}
use Rattle.tlv_bytes.proofs.Laws.{length-tlv, tlv-absent, tlv-present, tlv-written, same_write, no_write}
use Rattle.set_bytes.specs.Standing.{srlg_tlv, srlg_size, count_in, count_read, numbers_in, Classes, Standing}

-- ---- counts and sizes

module _ (n : ℕ) where
  pub count-some : (k : ℕ) → count_read n ≡ Some k → (k ≡ n) × (0 < k)
  count-some k e = go (eqb n 0) refl e
    where
      go : (b : Bool) → eqb n 0 ≡ b → cond b None (Some n) ≡ Some k → (k ≡ n) × (0 < k)
      go true t e = absurd cc
      go false t e = let s : n ≡ k = cc in let d = eqb-false n 0 t in (sym s, omega arith)

  pub count_none : count_read n ≡ None → n ≡ 0
  count_none e = go (eqb n 0) refl e
    where
      go : (b : Bool) → eqb n 0 ≡ b → cond b None (Some n) ≡ None → n ≡ 0
      go true t e = eqb-true n 0 t
      go false t e = absurd cc

  pub size_none : n ≡ 0 → 0 ≡ srlg_size n
  unfolding srlg_size
  size_none e = rw (eq-eqb n 0 e)

  pub size-some : 0 < n → 4 + 4 * n ≡ srlg_size n
  unfolding srlg_size
  size-some h = rw (ne_eqb n 0 (λ z. omega arith))

  pub size-bound : srlg_size n ≤ 4 + 4 * n
  unfolding srlg_size
  size-bound = go (eqb n 0)
    where
      go : (b : Bool) → cond b 0 (4 + 4 * n) ≤ 4 + 4 * n
      go true = omega arith
      go false = omega arith

no_words : bytes_of_words [] ≡ []
unfolding bytes_of_words each
no_words = refl

module _ (ns : List ℕ) where
  pub srlgs-none : length ns ≡ 0 → srlg_tlv ns ≡ []
  srlgs-none e = tlv-absent (λ _. bytes_of_words ns) 1096 (none ns e)
    where
      none : (ms : List ℕ) → length ms ≡ 0 → bytes_of_words ms ≡ []
      none [] e = no_words
      none (m ∷ ms) e = absurd (omega arith)

  pub srlgs-some : 0 < length ns → srlg_tlv ns ≡ bytes_of (tlv 1096 (bytes_of_words ns))
  srlgs-some h = tlv-present (λ _. bytes_of_words ns) 1096 (bytes_of_words ns) refl (omega (arith, length-bytes_of_words ns))

  pub length-srlgs : length (srlg_tlv ns) ≡ srlg_size (length ns)
  length-srlgs = go (eqb (length ns) 0) refl
    where
      go : (b : Bool) → eqb (length ns) 0 ≡ b → length (srlg_tlv ns) ≡ srlg_size (length ns)
      go true e = let z = eqb-true (length ns) 0 e in ap length (srlgs-none z) ∙ size_none (length ns) z
      go false e =
          let d = eqb-false (length ns) 0 e in
          let h : 0 < length ns = omega arith in
          ap length (srlgs-some h) ∙ length-tlv 1096 (bytes_of_words ns) ∙ ap (λ (k : ℕ). 4 + k) (length-bytes_of_words ns) ∙ size-some (length ns) h

-- ---- the numbers of a class, by the bits of its sources

two-sources : (class : List ℕ) (j : ℕ) → j < 128 → has_source (get_or class 0 0 ∷ get_or class 1 0 ∷ []) j ≡ has_source class j
unfolding has_source in_words
two-sources class j h = go (ltb j 64) refl
  where
    go : (b : Bool) → ltb j 64 ≡ b → in_number (get_or (get_or class 0 0 ∷ get_or class 1 0 ∷ []) (j / 64) 0) (j % 64) ≡ in_number (get_or class (j / 64) 0) (j % 64)
    go true e = let z : j / 64 ≡ 0 = omega (arith, ltb-true j 64 e) in rw z
    go false e = let z : j / 64 ≡ 1 = omega (arith, ltb-false j 64 e) in rw z

module _ (values : List ℕ) (rows : List (List ℕ)) (class : List ℕ) where
  abbrev pub pair : List ℕ
  pair = get_or class 0 0 ∷ get_or class 1 0 ∷ []

  pair-in : (i : ℕ) → in_class rows pair i ≡ in_class rows class i
  unfolding in_class
  pair-in i = any_same (λ j. has_source pair j && in_words (get_or rows j []) i) (λ j. has_source class j && in_words (get_or rows j []) i) 128 (λ j h. ap (λ (b : Bool). b && in_words (get_or rows j []) i) (two-sources class j h))

  pub pair-sources : Class values rows class → (j : ℕ) → j < 128 → has_source pair j ≡ true → j < length rows
  pair-sources ok j h e = ok.sources j h (sym (two-sources class j h) ∙ e)

  -- Bits that are those of the class, as far as words are used.
  module _ (ok : Class values rows class) (most : length values ≤ most_numbers) (bits : List ℕ) (so : (i : ℕ) → i < 64 * ((length values + 63) / 64) → in_words bits i ≡ in_class rows pair i) where
    pub bits-within : (i : ℕ) → length values ≤ i → i < 64 * ((length values + 63) / 64) → in_words bits i ≡ false
    bits-within i h l = so i l ∙ pair-in i ∙ ok.within i h (omega arith)

    pub bits_are : picked values bits ≡ class_numbers values rows class
    unfolding picked class_numbers
    bits_are = keep_same (in_words bits) (in_class rows class) 0 0 values (λ j h. let e : 0 + j ≡ j = omega arith in rw e (so j (omega arith) ∙ pair-in j))

-- One word's bits lie where the list has numbers.
pub word-within : (values ws : List ℕ) (w n : ℕ) → ((i : ℕ) → length values ≤ i → i < 64 * n → in_words ws i ≡ false) → w < n → Inside (drop (64 * w) values) (get_or ws w 0)
unfolding in_words
word-within values ws w n within l j h k =
    let e : (64 * w + j) / 64 ≡ w = omega arith in
    let f : (64 * w + j) % 64 ≡ j = omega arith in
    rw (e, f) at (within (64 * w + j) (omega (arith, length-drop (64 * w) values)) (omega arith))

kept : (p : ℕ → Bool) (i : ℕ) (l : List ℕ) → length (keep_from p i l) ≤ length l
unfolding keep_from
kept p i [] = omega arith
kept p i (v ∷ l) = go (p i) (kept p (suc i) l)
  where
    go : (b : Bool) → length (keep_from p (suc i) l) ≤ length l → length (cond b (v ∷ keep_from p (suc i) l) (keep_from p (suc i) l)) ≤ suc (length l)
    go true e = omega arith
    go false e = omega arith

pub class-few : (values : List ℕ) (rows classes : List (List ℕ)) (c : ℕ) → Classes values rows classes → length (numbers_in values rows classes c) ≤ most_numbers
unfolding class_numbers
class-few values rows classes c ok = omega (arith, ok.most, kept (in_class rows (get_or classes c [])) 0 values)

-- A class whose count was read.
module _ (values : List ℕ) (rows classes : List (List ℕ)) (c : ℕ) (ok : Classes values rows classes) (h : c < length classes) where
  pub read_some : (n : ℕ) → count_read (count_in classes c) ≡ Some n → (n ≡ length (numbers_in values rows classes c)) × (0 < n) × (n ≤ most_numbers)
  read_some n e =
      let s = count-some (count_in classes c) n e in
      let l = (ok.class c h).counted in
      (s.0 ∙ l, s.1, omega (arith, s.0, l, class-few values rows classes c ok))

  pub read_none : count_read (count_in classes c) ≡ None → length (numbers_in values rows classes c) ≡ 0
  read_none e = sym (ok.class c h).counted ∙ count_none (count_in classes c) e

-- ---- where the numbers of classes stand

module _ (numbers : ℕ → List ℕ) {places d : List ℕ} {at : ℕ} (stand : Standing numbers places d at) where
  -- More bytes behind them.
  pub standing_on : (vs : List ℕ) {r : ℕ} {o : List ℕ} → Wrote d at vs r o → at + length vs ≤ length d → Standing numbers places o r
  standing_on vs {r} {o} w room = record {
    stands = λ c some.
        let s = stand.stands c some in
        let p = get_or places c 0 in
        let n = 4 * length (numbers c) in
        (omega (arith, s.0, w.0), ap (λ (x : List ℕ). bytes_at x p n) w.1 ∙ bytes_at-before d at vs room p n s.0 ∙ s.1);
  }

  -- The numbers of class c there.
  module _ (c : ℕ) (h : c < length places) {r : ℕ} {o : List ℕ} (w : Wrote d at (bytes_of_words (numbers c)) r o) (room : at + length (bytes_of_words (numbers c)) ≤ length d) where
    abbrev Stands : ℕ → ℕ → Type 0
    Stands j p = (p + 4 * length (numbers j) ≤ r) × (bytes_at o p (4 * length (numbers j)) ≡ bytes_of_words (numbers j))

    here : Stands c at
    here =
        let vs = bytes_of_words (numbers c) in
        let l = length-bytes_of_words (numbers c) in
        (omega (arith, w.0), ap (λ (x : List ℕ). bytes_at x at (4 * length (numbers c))) w.1 ∙ ap (bytes_at (put d at vs) at) (sym l) ∙ bytes_at-put d at vs room)

    pub standing-new : Standing numbers (set places c at) o r
    standing-new = record { stands = λ i some. go i some (eqb i c) refl }
      where
        go : (i : ℕ) → (get_or (set places c at) i 0 ≡ 0 → ⊥) → (b : Bool) → eqb i c ≡ b → Stands i (get_or (set places c at) i 0)
        go i some true e = rw (eqb-true i c e, get_or-set_same places c at 0 h) here
        go i some false e = let f = get_or-set_other places c i at 0 (eqb-false i c e) in rw f ((standing_on (bytes_of_words (numbers c)) w room).stands i (λ z. some (f ∙ z)))

  -- The copied numbers of class c.
  pub copied : (c : ℕ) → (get_or places c 0 ≡ 0 → ⊥) → {o : List ℕ} (n : ℕ) → n ≡ length (numbers c) → o ≡ put d at (bytes_at d (get_or places c 0) (4 * n)) → Wrote d at (bytes_of_words (numbers c)) (at + 4 * n) o
  copied c some {o} n e w =
      let s = stand.stands c some in
      let p = get_or places c 0 in
      (omega (arith, length-bytes_of_words (numbers c)), w ∙ ap (λ (k : ℕ). put d at (bytes_at d p (4 * k))) e ∙ ap (put d at) s.1)

-- ---- the TLV, head and numbers

module _ (numbers : ℕ → List ℕ) (c : ℕ) (n : ℕ) (is : n ≡ length (numbers c)) (some : 0 < n) where
  pub size_is : length (srlg_tlv (numbers c)) ≡ 4 + 4 * n
  size_is = length-srlgs (numbers c) ∙ ap srlg_size (sym is) ∙ sym (size-some n some)

  module _ (places d : List ℕ) (at : ℕ) (room : at + length (srlg_tlv (numbers c)) ≤ length d) (e : List ℕ) (head : e ≡ put d at (two 1096 ++ two (4 * n))) where
    pub head-stands : Standing numbers places d at → Standing numbers places e (at + 4)
    unfolding two
    head-stands stand = standing_on numbers stand (two 1096 ++ two (4 * n)) (refl, head) (omega (arith, size_is))

    pub srlgs-written : {r : ℕ} {o : List ℕ} → Wrote e (at + 4) (bytes_of_words (numbers c)) r o → Wrote d at (srlg_tlv (numbers c)) r o
    srlgs-written {r} {o} w =
        let l = length-bytes_of_words (numbers c) in
        let s = srlgs-some (numbers c) (omega arith) in
        same_write (sym s) d at (tlv-written d e o at 1096 (4 * n) (bytes_of_words (numbers c)) head w.1 (omega arith) (omega (arith, ap length s)) r (omega (arith, w.0)))

pub no-srlgs : (numbers : ℕ → List ℕ) (d : List ℕ) (at c : ℕ) → length (numbers c) ≡ 0 → Wrote d at (srlg_tlv (numbers c)) at d
no-srlgs numbers d at c e = no_write d at (srlgs-none (numbers c) e)
