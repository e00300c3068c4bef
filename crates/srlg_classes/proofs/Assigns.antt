-- The classes of legacy and of general values, and of the blocks of applications. Assumes nothing.
use Prim.Native.Nat.{ℕ, zero, suc, ◌+◌, ◌-◌, ◌*◌, ◌≤◌, ◌<◌}
use mathlib.Core.Path.{◌≡◌, refl, sym, ◌∙◌, ap, ap₂}
use mathlib.Core.Bool.{Bool, true, false, cond, ◌&&◌, ◌||◌, not, or-false, false≢true}
use mathlib.Core.List.{List, [], ◌∷◌, Memᴰ}
use native.Mathlib.Omega.{arith}
use borrow.Author.Tests.{eq-eqb, ne_eqb, eqb-true, ltb-true, ltb-false}
use lib.Dec.{eqb, ltb, eqb-suc-zero, eqb-suc-suc}
use lib.ListN.{length, get_or}
use Rattle.linkstate.specs.Lists.{numbers, keep}
use Rattle.linkstate.specs.Masks.{in_number}
use Rattle.linkstate.proofs.ListLaws.{and_l, and_r, keep-mem, numbers-mem}
use Rattle.srlg.proofs.Laws.{Order, less, more, same, order}
use Rattle.masks.proofs.Steps.{zero-none}
use Rattle.masks.specs.declared.Applications.{Applications}
use Rattle.rules.specs.declared.Names.{Names}
use Rattle.srlg_ranks.specs.Ranks.{in_words}
use Rattle.masks.proofs.LowestBit.{half_in, even-in, odd-in}
use Rattle.srlg_sources.specs.Classes.{has_source, in_class}
use Rattle.srlg_sources.proofs.Joins.{any_same, any_none, any_out, low-source, high-source, two-words}
use Rattle.srlg_table.specs.Blocks.{size_of, naming, in_block, block_source, Blocks}
use Rattle.srlg_table.proofs.Sizes.{pair-bits, low_bit, high_bit, size-split, size_same, total-least}
use Rattle.srlg_table.specs.Tables.{Equal, Rowed, Table, with_class, Given}
use Rattle.srlg_classes.specs.declared.First.{First}
use Rattle.srlg_classes.specs.Owned.{class_at, Gave, without, plain, in_named, HasBits, Firsts, Assigned, NamedOwn, FirstOwn}
use Rattle.srlg_classes.proofs.Gives.{slots-then}

-- ---- classes stay

with_cases : (P : ℕ → Type 0) (count r : ℕ) → (r ≡ count → P (suc count)) → ((r ≡ count → ⊥) → P count) → P (with_class count r)
unfolding with_class
with_cases P count r h k = go (eqb r count) refl
  where
    go : (b : Bool) → eqb r count ≡ b → P (cond b (suc count) count)
    go true e = h (eqb-true r count e)
    go false e = k (λ f. false≢true (sym e ∙ eq-eqb r count f))

pub with-more : (count r : ℕ) → (count ≤ with_class count r) × (with_class count r ≤ count + 1)
with-more count r = with_cases (λ n. (count ≤ n) × (n ≤ count + 1)) count r (λ e. (omega arith, omega arith)) (λ e. (omega arith, omega arith))

module _ (rows : List (List ℕ)) (m words low high : ℕ) (before after heads : List (List ℕ)) (buckets : List ℕ) (count r : ℕ) (given : Given rows m words low high before after heads buckets count r) where
  pub bits-kept : (c : ℕ) (p : ℕ → Bool) → HasBits rows words before count c p → HasBits rows words after (with_class count r) c p
  bits-kept c p so = record { low = omega (arith, so.low, (with-more count r).0); bits = rw (given.kept c so.low) so.bits }

  pub bits-given : (p : ℕ → Bool) → Equal (64 * words) (in_class rows (low ∷ high ∷ [])) p → HasBits rows words after (with_class count r) r p
  bits-given p e = record { low = given.here; bits = λ i h. given.bits i h ∙ e i h }

pub bits_of : (rows : List (List ℕ)) (words : ℕ) (classes : List (List ℕ)) (count c : ℕ) (p q : ℕ → Bool) → Equal (64 * words) p q → HasBits rows words classes count c p → HasBits rows words classes count c q
bits_of rows words classes count c p q e so = record { low = so.low; bits = λ i h. so.bits i h ∙ e i h }

-- ---- one source

one_bit : (j : ℕ) → in_number 1 j ≡ eqb j 0
one_bit zero = odd-in 1 0 refl
one_bit (suc j) = half_in 1 j ∙ zero-none j ∙ sym (eqb-suc-zero j)

two-bit : (j : ℕ) → in_number 2 j ≡ eqb j 1
two-bit zero = even-in 2 refl
two-bit (suc j) = half_in 2 j ∙ one_bit j ∙ sym (eqb-suc-suc j 0)

module _ (rows : List (List ℕ)) (w s : ℕ) (inside : s < 64) (is : (j : ℕ) → in_number w j ≡ eqb j s) where
  source_is : (j : ℕ) → j < 128 → has_source (w ∷ 0 ∷ []) j ≡ eqb j s
  source_is j h = go (ltb j 64) refl
    where
      go : (b : Bool) → ltb j 64 ≡ b → has_source (w ∷ 0 ∷ []) j ≡ eqb j s
      go true e = low-source w 0 j (ltb-true j 64 e) ∙ is j
      go false e =
          let l = ltb-false j 64 e in
          let z : 64 + (j - 64) ≡ j = omega arith in
          (rw z at (high-source w 0 (j - 64) (omega arith))) ∙ zero-none (j - 64) ∙ sym (ne_eqb j s (λ f. omega arith))

  single-rowed : (m : ℕ) → s < m → Rowed m (w ∷ 0 ∷ [])
  single-rowed m h j l e = let f = eqb-true j s (sym (source_is j l) ∙ e) in omega arith

  single-bits : (i : ℕ) → in_class rows (w ∷ 0 ∷ []) i ≡ in_words (get_or rows s []) i
  unfolding in_class
  single-bits i =
      any_out (λ j. has_source (w ∷ 0 ∷ []) j && in_words (get_or rows j []) i) (λ j. false) 128 s (omega arith)
      (λ j l n. sym (ap (λ (b : Bool). b && in_words (get_or rows j []) i) (source_is j l ∙ ne_eqb j s n))) refl
      ∙ ap₂ (λ (a b : Bool). a || b) (ap (λ (b : Bool). b && in_words (get_or rows s []) i) (source_is s (omega arith) ∙ eq-eqb s s refl)) (any_none (λ j. false) 128 (λ j l. refl))
      ∙ or-false (in_words (get_or rows s []) i)

pub legacy-rowed : (m : ℕ) → 2 ≤ m → Rowed m (1 ∷ 0 ∷ [])
legacy-rowed m h = single-rowed [] 1 0 (omega arith) one_bit m (omega arith)

pub general-rowed : (m : ℕ) → 2 ≤ m → Rowed m (2 ∷ 0 ∷ [])
general-rowed m h = single-rowed [] 2 1 (omega arith) two-bit m (omega arith)

pub firsts : (rows : List (List ℕ)) (m words : ℕ) (c₁ c₂ c₃ h₂ h₃ : List (List ℕ)) (b₂ b₃ : List ℕ) (legacy one : ℕ) (r : First) → one ≡ with_class 1 legacy → r.count ≡ with_class one r.general → r.legacy ≡ legacy
    → Given rows m words 1 0 c₁ c₂ h₂ b₂ 1 legacy → Given rows m words 2 0 c₂ c₃ h₃ b₃ one r.general → Firsts rows m words c₃ h₃ b₃ r
firsts rows m words c₁ c₂ c₃ h₂ h₃ b₂ b₃ legacy one r e f g p q =
    record {
      table = rw f q.table;
      few = omega (arith, e, f, (with-more 1 legacy).1, (with-more one r.general).1);
      legacy = rw (f, g) (bits-kept rows m words 2 0 c₂ c₃ h₃ b₃ one r.general q legacy (in_words (get_or rows 0 []))
          (rw e (bits-given rows m words 1 0 c₁ c₂ h₂ b₂ 1 legacy p (in_words (get_or rows 0 [])) (λ i h. single-bits rows 1 0 (omega arith) one_bit i))));
      general = rw f (bits-given rows m words 2 0 c₂ c₃ h₃ b₃ one r.general q (in_words (get_or rows 1 [])) (λ i h. single-bits rows 2 1 (omega arith) two-bit i));
    }

-- ---- blocks, one after the other

block_words : (b : List ℕ) (a : ℕ) → a < 128 → in_words (get_or b 0 0 ∷ get_or b 1 0 ∷ []) a ≡ in_block b a
unfolding in_block
block_words b a l = two-words (get_or b 0 0 ∷ get_or b 1 0 ∷ []) b a l refl refl

module _ (rows : List (List ℕ)) (m words : ℕ) (blocks classes₀ own₀ : List (List ℕ)) (first : ℕ) where
  pub assigned-next : (classes heads own classes' heads' own' : List (List ℕ)) (buckets buckets' : List ℕ) (k count c : ℕ)
      → Assigned rows m words blocks k classes₀ own₀ classes heads buckets own first count
      → Given rows m words (get_or (get_or blocks k []) 2 0) (get_or (get_or blocks k []) 3 0) classes classes' heads' buckets' count c
      → Gave (in_words (get_or (get_or blocks k []) 0 0 ∷ get_or (get_or blocks k []) 1 0 ∷ [])) c own own'
      → Assigned rows m words blocks (k + 1) classes₀ own₀ classes' heads' buckets' own' first (with_class count c)
  assigned-next classes heads own classes' heads' own' buckets buckets' k count c so given gave =
      record {
        table = given.table;
        few = (omega (arith, so.few.0, (with-more count c).0), omega (arith, so.few.1, (with-more count c).1));
        kept = λ d l. given.kept d (omega (arith, so.few.0)) ∙ so.kept d l;
        slots = slots-then own₀ own own' so.slots gave.slots;
        inside = λ l a h o e. go l a h o e (in_block b a) refl;
        outside = λ a l e. other a l (e k (omega arith)) ∙ so.outside a l (λ j h. e j (omega arith));
      }
    where
      b : List ℕ
      b = get_or blocks k []

      member : (a : ℕ) → a < 128 → in_words (get_or b 0 0 ∷ get_or b 1 0 ∷ []) a ≡ in_block b a
      member a l = block_words b a l

      mine : (a : ℕ) → a < 128 → in_block b a ≡ true → class_at own' a ≡ c
      mine a l e = gave.classes a l ∙ ap (λ (t : Bool). cond t c (class_at own a)) (member a l ∙ e)

      other : (a : ℕ) → a < 128 → in_block b a ≡ false → class_at own' a ≡ class_at own a
      other a l e = gave.classes a l ∙ ap (λ (t : Bool). cond t c (class_at own a)) (member a l ∙ e)

      go : (l a : ℕ) → l < k + 1 → a < 128 → in_block (get_or blocks l []) a ≡ true → (t : Bool) → in_block b a ≡ t
          → (j : ℕ) × (j < k + 1) × (in_block (get_or blocks j []) a ≡ true)
          × HasBits rows words classes' (with_class count c) (class_at own' a) (in_class rows (get_or (get_or blocks j []) 2 0 ∷ get_or (get_or blocks j []) 3 0 ∷ []))
      go l a h o e true f =
          (k, omega arith, f, rw (mine a o f) (bits-given rows m words (get_or b 2 0) (get_or b 3 0) classes classes' heads' buckets' count c given (in_class rows (get_or b 2 0 ∷ get_or b 3 0 ∷ [])) (λ i q. refl)))
      go l a h o e false f = before (order l k)
        where
          before : Order l k → (j : ℕ) × (j < k + 1) × (in_block (get_or blocks j []) a ≡ true)
              × HasBits rows words classes' (with_class count c) (class_at own' a) (in_class rows (get_or (get_or blocks j []) 2 0 ∷ get_or (get_or blocks j []) 3 0 ∷ []))
          before (less q) =
              let (j, p, g, has) = so.inside l a q o e in
              (j, omega arith, g, rw (other a o f) (bits-kept rows m words (get_or b 2 0) (get_or b 3 0) classes classes' heads' buckets' count c given (class_at own a) _ has))
          before (more q) = absurd (omega arith)
          before (same q) = absurd (false≢true (sym f ∙ ap (λ (i : ℕ). in_block (get_or blocks i []) a) (sym q) ∙ e))

-- ---- the applications that are named without L

minus-pair : (s u t v x y : ℕ) → ((n : ℕ) → in_number x n ≡ in_number s n && not (in_number t n)) → ((n : ℕ) → in_number y n ≡ in_number u n && not (in_number v n))
    → (a : ℕ) → a < 128 → in_words (x ∷ y ∷ []) a ≡ without s u t v a
unfolding without
minus-pair s u t v x y e f =
    pair-bits (λ a b. b ≡ in_words (s ∷ u ∷ []) a && not (in_words (t ∷ v ∷ []) a)) x y
    (λ j h. e j ∙ ap₂ (λ (p q : Bool). p && not q) (sym (low_bit s u j h)) (sym (low_bit t v j h)))
    (λ j h. f j ∙ ap₂ (λ (p q : Bool). p && not q) (sym (high_bit s u j h)) (sym (high_bit t v j h)))

pub plain-pair : (named : Names) (x y : ℕ) → ((n : ℕ) → in_number x n ≡ in_number named.named.standard n && not (in_number named.flagged.standard n))
    → ((n : ℕ) → in_number y n ≡ in_number named.named.user n && not (in_number named.flagged.user n)) → (a : ℕ) → a < 128 → in_words (x ∷ y ∷ []) a ≡ plain named a
unfolding plain
plain-pair named x y e f = minus-pair named.named.standard named.named.user named.flagged.standard named.flagged.user x y e f

-- They are no more than all that are named.
pub plain-few : (named : Names) (x y : ℕ) → ((a : ℕ) → a < 128 → in_words (x ∷ y ∷ []) a ≡ plain named a) → size_of (in_words (x ∷ y ∷ [])) ≤ size_of (in_words (named.named.standard ∷ named.named.user ∷ []))
unfolding plain without
plain-few named x y e =
    let p = in_words (named.named.standard ∷ named.named.user ∷ []) in
    let q = in_words (named.flagged.standard ∷ named.flagged.user ∷ []) in
    omega (arith, size_same (in_words (x ∷ y ∷ [])) (λ a. p a && not (q a)) e, size-split p q)

some-member : (p : ℕ → Bool) (xs : List ℕ) → 0 < length (keep p xs) → (a : ℕ) × Memᴰ a (keep p xs)
some-member p xs h = go (keep p xs) h
  where
    go : (l : List ℕ) → 0 < length l → (a : ℕ) × Memᴰ a l
    go [] k = absurd (omega arith)
    go (a ∷ l) k = (a, Memᴰ.head refl)

size-witness : (p : ℕ → Bool) → 0 < size_of p → (a : ℕ) × (a < 128) × (p a ≡ true)
unfolding size_of
size-witness p h =
    let (a, m) = some-member p (numbers 0 128) h in
    let r = keep-mem p (numbers 0 128) m in
    (a, omega (arith, (numbers-mem 0 128 r.1).1), r.0)

module _ (rows : List (List ℕ)) (n s u : ℕ) (blocks : List (List ℕ)) (m : ℕ) (so : Blocks rows s u blocks m n) where
  -- the sources of a block are some of the first n
  pub block-rowed : (k : ℕ) → k < m → Rowed n (get_or (get_or blocks k []) 2 0 ∷ get_or (get_or blocks k []) 3 0 ∷ [])
  unfolding has_source block_source naming
  block-rowed k h j l e =
      let (a, i, p) = size-witness (in_block (get_or blocks k [])) (so.laid.some k h) in
      let f = sym (so.sources k a j h i l p) ∙ e in
      ltb-true j n (and_l (ltb j n) _ (and_r (ltb 1 j) _ f))

  pub block-few : m ≤ size_of (in_words (s ∷ u ∷ []))
  block-few = omega (arith, so.laid.most, total-least blocks m so.laid.some)

  block-bits : (k a : ℕ) → k < m → a < 128 → in_block (get_or blocks k []) a ≡ true → (i : ℕ) → in_class rows (get_or (get_or blocks k []) 2 0 ∷ get_or (get_or blocks k []) 3 0 ∷ []) i ≡ in_named rows n a i
  unfolding in_class in_named has_source block_source
  block-bits k a h l e i =
      any_same (λ j. in_words (get_or (get_or blocks k []) 2 0 ∷ get_or (get_or blocks k []) 3 0 ∷ []) j && in_words (get_or rows j []) i) (λ j. naming rows n a j && in_words (get_or rows j []) i) 128
      (λ j o. ap (λ (b : Bool). b && in_words (get_or rows j []) i) (so.sources k a j h l o e))

  pub named-blocks : (named : Names) (words : ℕ) (classes₀ own₀ classes heads : List (List ℕ)) (buckets : List ℕ) (own : List (List ℕ)) (first count : ℕ)
      → ((a : ℕ) → a < 128 → in_words (s ∷ u ∷ []) a ≡ plain named a) → Assigned rows n words blocks m classes₀ own₀ classes heads buckets own first count
      → NamedOwn rows n words named classes₀ own₀ classes heads buckets own first count
  named-blocks named words classes₀ own₀ classes heads buckets own first count e all =
      record {
        table = all.table;
        more = all.few.0;
        kept = all.kept;
        slots = all.slots;
        inside = λ a h p. found a h (so.laid.cover a h (e a h ∙ p));
        outside = λ a h p. all.outside a h (λ l k. absent a h p l k (in_block (get_or blocks l []) a) refl);
      }
    where
      found : (a : ℕ) → a < 128 → (k : ℕ) × (k < m) × (in_block (get_or blocks k []) a ≡ true) → HasBits rows words classes count (class_at own a) (in_named rows n a)
      found a h (k, l, p) =
          let (j, o, q, has) = all.inside k a l h p in
          bits_of rows words classes count (class_at own a) _ (in_named rows n a) (λ i z. block-bits j a o h q i) has

      absent : (a : ℕ) → a < 128 → plain named a ≡ false → (l : ℕ) → l < m → (b : Bool) → in_block (get_or blocks l []) a ≡ b → b ≡ false
      absent a h p l k false q = refl
      absent a h p l k true q = absurd (false≢true (sym (e a h ∙ p) ∙ so.laid.inside l a k h q))

pub named_none : (rows : List (List ℕ)) (n words : ℕ) (named : Names) (classes heads : List (List ℕ)) (buckets : List ℕ) (own : List (List ℕ)) (count : ℕ)
    → ((a : ℕ) → a < 128 → plain named a ≡ false) → length own ≡ 128 → Table rows n words classes heads buckets count → NamedOwn rows n words named classes own classes heads buckets own count count
named_none rows n words named classes heads buckets own count e h t =
    record {
      table = t;
      more = omega arith;
      kept = λ c l. refl;
      slots = record { size = h; slots = λ a. refl };
      inside = λ a l p. absurd (false≢true (sym (e a l) ∙ p));
      outside = λ a l p. refl;
    }

-- ---- general, then legacy

pub first-own : (who : Applications) (named : Names) (first : First) (own mid after : List (List ℕ)) (x y : ℕ) → ((n : ℕ) → in_number x n ≡ in_number who.standard n && not (in_number named.named.standard n))
    → ((n : ℕ) → in_number y n ≡ in_number who.user n && not (in_number named.named.user n)) → Gave (in_words (x ∷ y ∷ [])) first.general own mid → Gave (in_words (named.flagged.standard ∷ named.flagged.user ∷ [])) first.legacy mid after
    → FirstOwn who named first own after
first-own who named first own mid after x y e f p q =
    record {
      slots = slots-then own mid after p.slots q.slots;
      flagged = λ a h l. q.classes a h ∙ ap (λ (b : Bool). cond b first.legacy (class_at mid a)) l;
      others = λ a h l w.
          q.classes a h ∙ ap (λ (b : Bool). cond b first.legacy (class_at mid a)) l ∙ p.classes a h
          ∙ ap (λ (b : Bool). cond b first.general (class_at own a)) (minus-pair who.standard who.user named.named.standard named.named.user x y e f a h ∙ w);
    }
