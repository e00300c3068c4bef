-- The blocks with one source more, block by block: one law for each way that a turn can go. Assumes nothing.
use Prim.Native.Nat.{ℕ, suc, ◌+◌, ◌≤◌, ◌<◌}
use mathlib.Core.Path.{◌≡◌, refl, sym, ◌∙◌, ap, ap₂}
use mathlib.Core.Logic.{◌⊎◌, inl, inr}
use mathlib.Core.Bool.{Bool, true, false, ◌||◌, ◌&&◌, not, or-false, and-false, and-true, false≢true}
use mathlib.Core.List.{List, [], ◌∷◌}
use native.Mathlib.Omega.{arith}
use borrow.Author.Tests.{eq-eqb, ne_eqb, lt-ltb, le-ltb, ltb-true, not-true}
use lib.Dec.{eqb, ltb}
use lib.Bits.{bit_and}
use lib.ListN.{length, get_or, set}
use lib.Seq.{get_or-set_same}
use Rattle.linkstate.specs.Masks.{in_number}
use Rattle.linkstate.proofs.ListLaws.{and_l, and_r}
use Rattle.srlg.proofs.Laws.{Order, less, more, same, order}
use Rattle.masks.proofs.Steps.{and_in, zero-none}
use Rattle.srlg_ranks.specs.Ranks.{in_words}
use Rattle.srlg_sources.proofs.Joins.{two-words}
use Rattle.srlg_table.specs.Blocks.{size_of, Alike, named_by, naming, in_block, block_source, Part, Rest, Cut, whole, two, Split, total, Laid, Blocks}
use Rattle.srlg_table.proofs.Sizes.{size-split, size_same, size_none, pair-bits, low_bit, high_bit, total-same, total-set, total-least, total-more}

-- ---- pairs of masks

-- What two masks have in common, and what the first has without the second.
common : (p q x y s u : ℕ) → x ≡ bit_and p s → y ≡ bit_and q u → (a : ℕ) → a < 128 → in_words (x ∷ y ∷ []) a ≡ in_words (p ∷ q ∷ []) a && in_words (s ∷ u ∷ []) a
common p q x y s u e f =
    pair-bits (λ a t. t ≡ in_words (p ∷ q ∷ []) a && in_words (s ∷ u ∷ []) a) x y
    (λ j h. ap (λ (m : ℕ). in_number m j) e ∙ and_in p s j ∙ ap₂ (λ (c d : Bool). c && d) (sym (low_bit p q j h)) (sym (low_bit s u j h)))
    (λ j h. ap (λ (m : ℕ). in_number m j) f ∙ and_in q u j ∙ ap₂ (λ (c d : Bool). c && d) (sym (high_bit p q j h)) (sym (high_bit s u j h)))

pub common-block : (b : List ℕ) (s u a : ℕ) → a < 128 → in_words (bit_and (get_or b 0 0) s ∷ bit_and (get_or b 1 0) u ∷ []) a ≡ in_block b a && in_words (s ∷ u ∷ []) a
unfolding in_block
common-block b s u a h =
    common (get_or b 0 0) (get_or b 1 0) (bit_and (get_or b 0 0) s) (bit_and (get_or b 1 0) u) s u refl refl a h
    ∙ ap (λ (t : Bool). t && in_words (s ∷ u ∷ []) a) (two-words (get_or b 0 0 ∷ get_or b 1 0 ∷ []) b a h refl refl)

pub minus : (s u x y s' u' : ℕ) → ((n : ℕ) → in_number s' n ≡ in_number s n && not (in_number x n)) → ((n : ℕ) → in_number u' n ≡ in_number u n && not (in_number y n))
    → (a : ℕ) → a < 128 → in_words (s' ∷ u' ∷ []) a ≡ in_words (s ∷ u ∷ []) a && not (in_words (x ∷ y ∷ []) a)
minus s u x y s' u' e f =
    pair-bits (λ a t. t ≡ in_words (s ∷ u ∷ []) a && not (in_words (x ∷ y ∷ []) a)) s' u'
    (λ j h. e j ∙ ap₂ (λ (c d : Bool). c && not d) (sym (low_bit s u j h)) (sym (low_bit x y j h)))
    (λ j h. f j ∙ ap₂ (λ (c d : Bool). c && not d) (sym (high_bit s u j h)) (sym (high_bit x y j h)))

-- The applications of two masks that source i names.
pub common-row : (rows : List (List ℕ)) (i s u a : ℕ) → a < 128
    → in_words (bit_and (get_or (get_or rows i []) 16 0) s ∷ bit_and (get_or (get_or rows i []) 17 0) u ∷ []) a ≡ named_by rows i a && in_words (s ∷ u ∷ []) a
unfolding named_by
common-row rows i s u a h = common (get_or (get_or rows i []) 16 0) (get_or (get_or rows i []) 17 0) _ _ s u refl refl a h

-- ---- a block that is split

-- Block k, the block behind the last, or another.
data Which (k n l : ℕ) : Type 0 where
  cut-one : l ≡ k → Which k n l
  new-one : l ≡ n → Which k n l
  other : l < n → (l ≡ k → ⊥) → Which k n l

which : (k n l : ℕ) → l < suc n → Which k n l
which k n l h = go (order l k) (order l n)
  where
    go : Order l k → Order l n → Which k n l
    go (same e) o = cut-one e
    go (less a) (less b) = other b (λ e. omega arith)
    go (less a) (same e) = new-one e
    go (less a) (more b) = absurd (omega arith)
    go (more a) (less b) = other b (λ e. omega arith)
    go (more a) (same e) = new-one e
    go (more a) (more b) = absurd (omega arith)

module _ (standard user : ℕ) (blocks after : List (List ℕ)) (k n x y i : ℕ) (laid : Laid standard user blocks n) (low : k < n)
    (others : (l : ℕ) → l < n → (l ≡ k → ⊥) → get_or after l [] ≡ get_or blocks l [])
    (part_of : (a : ℕ) → a < 128 → in_words (x ∷ y ∷ []) a ≡ true → in_block (get_or blocks k []) a ≡ true) where
  abbrev Has : List (List ℕ) → ℕ → ℕ → Type 0
  Has bs l a = in_block (get_or bs l []) a ≡ true

  -- the whole block is named
  module _ (all : Alike (x ∷ y ∷ []) (get_or blocks k [])) (part : Part (get_or blocks k []) x y i (get_or after k [])) where
    pub same-members : (l a : ℕ) → l < n → a < 128 → in_block (get_or after l []) a ≡ in_block (get_or blocks l []) a
    unfolding in_block
    same-members l a h m = go (which k n l (omega arith))
      where
        go : Which k n l → in_words (get_or after l []) a ≡ in_words (get_or blocks l []) a
        go (cut-one e) = rw e (part.masks a m ∙ all a m)
        go (new-one e) = absurd (omega arith)
        go (other j e) = ap (λ (b : List ℕ). in_words b a) (others l j e)

    pub laid-whole : Laid standard user after n
    laid-whole =
        record {
          cover = λ a m e. let (l, h, f) = laid.cover a m e in (l, h, same-members l a h m ∙ f);
          inside = λ l a h m e. laid.inside l a h m (sym (same-members l a h m) ∙ e);
          alone = λ l o a h j m e f. laid.alone l o a h j m (sym (same-members l a h m) ∙ e) (sym (same-members o a j m) ∙ f);
          some = λ l h. let z = size_same (in_block (get_or after l [])) (in_block (get_or blocks l [])) (λ a m. same-members l a h m) in omega (arith, laid.some l h);
          most = let z = total-same after blocks n (λ l h. size_same (in_block (get_or after l [])) (in_block (get_or blocks l [])) (λ a m. same-members l a h m)) in omega (arith, laid.most);
        }

  -- a part of it is named
  module _ (not-all : Alike (x ∷ y ∷ []) (get_or blocks k []) → ⊥) (some-named : 0 < size_of (in_words (x ∷ y ∷ []))) where
    rest_some : 0 < size_of (λ a. in_block (get_or blocks k []) a && not (in_words (x ∷ y ∷ []) a))
    unfolding in_block
    rest_some = go (order 0 (size_of (λ a. in_block (get_or blocks k []) a && not (in_words (x ∷ y ∷ []) a))))
      where
        equal : (p q : Bool) → (q ≡ true → p ≡ true) → p && not q ≡ false → q ≡ p
        equal true true h e = refl
        equal true false h e = sym e
        equal false true h e = sym (h refl)
        equal false false h e = refl

        go : Order 0 (size_of (λ a. in_words (get_or blocks k []) a && not (in_words (x ∷ y ∷ []) a))) → 0 < size_of (λ a. in_words (get_or blocks k []) a && not (in_words (x ∷ y ∷ []) a))
        go (less h) = h
        go (more h) = absurd (omega arith)
        go (same e) =
            let none = size_none (λ a. in_words (get_or blocks k []) a && not (in_words (x ∷ y ∷ []) a)) (sym e) in
            absurd (not-all (λ a m. equal (in_words (get_or blocks k []) a) (in_words (x ∷ y ∷ []) a) (part_of a m) (none a m)))

    both : size_of (in_block (get_or blocks k [])) ≡ size_of (in_words (x ∷ y ∷ [])) + size_of (λ a. in_block (get_or blocks k []) a && not (in_words (x ∷ y ∷ []) a))
    both =
        size-split (in_block (get_or blocks k [])) (in_words (x ∷ y ∷ []))
        ∙ ap (λ (m : ℕ). m + size_of (λ a. in_block (get_or blocks k []) a && not (in_words (x ∷ y ∷ []) a)))
        (size_same (λ a. in_block (get_or blocks k []) a && in_words (x ∷ y ∷ []) a) (in_words (x ∷ y ∷ [])) (λ a m. inner (in_block (get_or blocks k []) a) (in_words (x ∷ y ∷ []) a) (part_of a m)))
      where
        inner : (p q : Bool) → (q ≡ true → p ≡ true) → p && q ≡ q
        inner true q h = refl
        inner false true h = h refl
        inner false false h = refl

    pub split-room : n < size_of (in_words (standard ∷ user ∷ []))
    split-room = omega (arith, laid.most, total-more blocks k n low laid.some (omega (arith, both, rest_some, some-named)))

    module _ (rest : Rest (get_or blocks k []) x y (get_or after k [])) (part : Part (get_or blocks k []) x y i (get_or after n [])) where
      abbrev home : (l : ℕ) → Which k n l → ℕ
      home l (cut-one e) = k
      home l (new-one e) = k
      home l (other h e) = l

      home-low : (l : ℕ) (w : Which k n l) → home l w < n
      home-low l (cut-one e) = low
      home-low l (new-one e) = low
      home-low l (other h e) = h

      was : (l a : ℕ) → a < 128 → (w : Which k n l) → Has after l a → Has blocks (home l w) a
      was l a m (cut-one e) f = and_l _ (not (in_words (x ∷ y ∷ []) a)) (sym (rest.masks a m) ∙ (rw e at f))
      was l a m (new-one e) f = part_of a m (sym (part.masks a m) ∙ (rw e at f))
      was l a m (other h e) f = ap (λ (b : List ℕ). in_block b a) (sym (others l h e)) ∙ f

      apart : (a : ℕ) → a < 128 → Has after k a → Has after n a → ⊥
      apart a m f g = no_both (in_block (get_or blocks k []) a) (in_words (x ∷ y ∷ []) a) (sym (rest.masks a m) ∙ f) (sym (part.masks a m) ∙ g)
        where
          no_both : (p q : Bool) → p && not q ≡ true → q ≡ true → ⊥
          no_both true true e f = false≢true e
          no_both true false e f = false≢true f
          no_both false q e f = false≢true e

      one-home : (l o a : ℕ) → a < 128 → (v : Which k n l) (w : Which k n o) → home l v ≡ home o w → Has after l a → Has after o a → l ≡ o
      one-home l o a m (cut-one e) (cut-one f) h p q = e ∙ sym f
      one-home l o a m (cut-one e) (new-one f) h p q = absurd (apart a m (rw e at p) (rw f at q))
      one-home l o a m (cut-one e) (other j f) h p q = absurd (f (sym h))
      one-home l o a m (new-one e) (cut-one f) h p q = absurd (apart a m (rw f at q) (rw e at p))
      one-home l o a m (new-one e) (new-one f) h p q = e ∙ sym f
      one-home l o a m (new-one e) (other j f) h p q = absurd (f (sym h))
      one-home l o a m (other j e) (cut-one f) h p q = absurd (e h)
      one-home l o a m (other j e) (new-one f) h p q = absurd (e h)
      one-home l o a m (other j e) (other i f) h p q = h

      covered : (a : ℕ) → a < 128 → (l : ℕ) × (l < n) × Has blocks l a → (l : ℕ) × (l < suc n) × Has after l a
      covered a m (l, h, f) = go (which k n l (omega arith)) (in_words (x ∷ y ∷ []) a) refl
        where
          go : Which k n l → (b : Bool) → in_words (x ∷ y ∷ []) a ≡ b → (l : ℕ) × (l < suc n) × Has after l a
          go (new-one e) b g = absurd (omega arith)
          go (other j e) b g = (l, omega arith, ap (λ (b : List ℕ). in_block b a) (others l j e) ∙ f)
          go (cut-one e) true g = (n, omega arith, part.masks a m ∙ g)
          go (cut-one e) false g = (k, omega arith, rest.masks a m ∙ ap₂ (λ (p q : Bool). p && not q) (rw e at f) g)

      pub laid-two : Laid standard user after (suc n)
      unfolding total
      laid-two =
          record {
            cover = λ a m e. covered a m (laid.cover a m e);
            inside = λ l a h m e. let w = which k n l h in laid.inside (home l w) a (home-low l w) m (was l a m w e);
            alone = λ l o a h j m e f.
                let v = which k n l h in
                let w = which k n o j in
                one-home l o a m v w (laid.alone (home l v) (home o w) a (home-low l v) (home-low o w) m (was l a m v e) (was o a m w f)) e f;
            some = λ l h. size-at l (which k n l h);
            most =
                omega (
                  arith,
                  laid.most,
                  both,
                  size-rest,
                  size-part,
                  total-set blocks after k n low (λ l h e. ap (λ (b : List ℕ). size_of (in_block b)) (others l h e)),
                );
          }
        where
          size-rest : size_of (in_block (get_or after k [])) ≡ size_of (λ a. in_block (get_or blocks k []) a && not (in_words (x ∷ y ∷ []) a))
          size-rest = size_same (in_block (get_or after k [])) (λ a. in_block (get_or blocks k []) a && not (in_words (x ∷ y ∷ []) a)) rest.masks

          size-part : size_of (in_block (get_or after n [])) ≡ size_of (in_words (x ∷ y ∷ []))
          size-part = size_same (in_block (get_or after n [])) (in_words (x ∷ y ∷ [])) part.masks

          size-at : (l : ℕ) → Which k n l → 0 < size_of (in_block (get_or after l []))
          size-at l (cut-one e) = rw e (omega (arith, size-rest, rest_some))
          size-at l (new-one e) = rw e (omega (arith, size-part, some-named))
          size-at l (other h e) = rw (others l h e) (laid.some l h)

-- ---- the sources of a turn

module _ (rows : List (List ℕ)) (i a j : ℕ) (high : 1 < i) where
  pub naming-next : naming rows (suc i) a j ≡ naming rows i a j || (eqb j i && named_by rows i a)
  unfolding naming
  naming-next = go (order j i)
    where
      go : Order j i → ltb 1 j && (ltb j (suc i) && named_by rows j a) ≡ ltb 1 j && (ltb j i && named_by rows j a) || (eqb j i && named_by rows i a)
      go (less h) = rw (lt-ltb j (suc i) (omega arith), lt-ltb j i h, ne_eqb j i (λ e. omega arith)) (sym (or-false (ltb 1 j && named_by rows j a)))
      go (more h) = rw (le-ltb j (suc i) (omega arith), le-ltb j i (omega arith), ne_eqb j i (λ e. omega arith)) (sym (or-false (ltb 1 j && false)))
      go (same e) = rw (e, lt-ltb 1 i high, lt-ltb i (suc i) (omega arith), le-ltb i i (omega arith), eq-eqb i i refl)

  pub naming-not : named_by rows i a ≡ false → naming rows (suc i) a j ≡ naming rows i a j
  naming-not e = naming-next ∙ ap (λ (b : Bool). naming rows i a j || (eqb j i && b)) e ∙ ap (λ (b : Bool). naming rows i a j || b) (and-false (eqb j i)) ∙ or-false (naming rows i a j)

  pub naming-too : named_by rows i a ≡ true → naming rows (suc i) a j ≡ naming rows i a j || eqb j i
  naming-too e = naming-next ∙ ap (λ (b : Bool). naming rows i a j || (eqb j i && b)) e ∙ ap (λ (b : Bool). naming rows i a j || b) (and-true (eqb j i))

-- ---- a turn

-- Before block k: the blocks before it and the new ones have their sources with source i; of the others, s and u are the applications that it names.
pub record Refining (rows : List (List ℕ)) (i standard user : ℕ) (blocks : List (List ℕ)) (count n k s u : ℕ) : Type 0 where
  pub laid : Laid standard user blocks n
  pub upto : k ≤ count
  pub few : count ≤ n
  pub done : (l a j : ℕ) → l < n → (l < k) ⊎ (count ≤ l) → a < 128 → j < 128 → in_block (get_or blocks l []) a ≡ true → block_source (get_or blocks l []) j ≡ naming rows (suc i) a j
  pub left : (l a j : ℕ) → k ≤ l → l < count → a < 128 → j < 128 → in_block (get_or blocks l []) a ≡ true → block_source (get_or blocks l []) j ≡ naming rows i a j
  pub mask : (l a : ℕ) → k ≤ l → l < count → a < 128 → in_block (get_or blocks l []) a ≡ true → in_words (s ∷ u ∷ []) a ≡ named_by rows i a

module _ (rows : List (List ℕ)) (i standard user : ℕ) (blocks : List (List ℕ)) (high : 1 < i) where
  pub refining-start : (count s u : ℕ) → Blocks rows standard user blocks count i → ((a : ℕ) → a < 128 → in_words (s ∷ u ∷ []) a ≡ named_by rows i a && in_words (standard ∷ user ∷ []) a)
      → Refining rows i standard user blocks count count 0 s u
  refining-start count s u so e =
      record {
        laid = so.laid;
        upto = omega arith;
        few = omega arith;
        done = λ l a j h w. go l h w;
        left = λ l a j h w m o f. so.sources l a j w m o f;
        mask = λ l a h w m f. e a m ∙ ap (λ (b : Bool). named_by rows i a && b) (so.laid.inside l a w m f) ∙ and-true (named_by rows i a);
      }
    where
      go : {A : Type 0} (l : ℕ) → l < count → (l < 0) ⊎ (count ≤ l) → A
      go l h (inl w) = absurd (omega arith)
      go l h (inr w) = absurd (omega arith)

  module _ (count n k s u x y : ℕ) (so : Refining rows i standard user blocks count n k s u) (low : k < count)
      (part : (a : ℕ) → a < 128 → in_words (x ∷ y ∷ []) a ≡ in_block (get_or blocks k []) a && in_words (s ∷ u ∷ []) a) where
    -- those of block k that source i names
    named : (a : ℕ) → a < 128 → in_words (x ∷ y ∷ []) a ≡ true → named_by rows i a ≡ true
    named a m e =
        let f = sym (part a m) ∙ e in
        sym (so.mask k a (omega arith) low m (and_l _ (in_words (s ∷ u ∷ []) a) f)) ∙ and_r (in_block (get_or blocks k []) a) _ f

    not_named : (a : ℕ) → a < 128 → in_block (get_or blocks k []) a ≡ true → in_words (x ∷ y ∷ []) a ≡ false → named_by rows i a ≡ false
    not_named a m e f = sym (so.mask k a (omega arith) low m e) ∙ sym (ap (λ (b : Bool). b && in_words (s ∷ u ∷ []) a) e) ∙ sym (part a m) ∙ f

    pub in-block : (a : ℕ) → a < 128 → in_words (x ∷ y ∷ []) a ≡ true → in_block (get_or blocks k []) a ≡ true
    in-block a m e = and_l _ (in_words (s ∷ u ∷ []) a) (sym (part a m) ∙ e)

    -- block k has none of them
    pub refining-pass : ((a : ℕ) → a < 128 → in_words (x ∷ y ∷ []) a ≡ false) → Refining rows i standard user blocks count n (k + 1) s u
    refining-pass none =
        record {
          laid = so.laid;
          upto = omega arith;
          few = so.few;
          done = λ l a j h w m o e. go l a j h w m o e (order l k);
          left = λ l a j h. so.left l a j (omega arith);
          mask = λ l a h. so.mask l a (omega arith);
        }
      where
        go : (l a j : ℕ) → l < n → (l < k + 1) ⊎ (count ≤ l) → a < 128 → j < 128 → in_block (get_or blocks l []) a ≡ true → Order l k → block_source (get_or blocks l []) j ≡ naming rows (suc i) a j
        go l a j h w m o e (less q) = so.done l a j h (inl q) m o e
        go l a j h (inl w) m o e (more q) = absurd (omega arith)
        go l a j h (inr w) m o e (more q) = so.done l a j h (inr w) m o e
        go l a j h w m o e (same q) =
            so.left l a j (omega arith) (omega arith) m o e ∙ sym (naming-not rows i a j high (not_named a m (ap (λ (b : ℕ). in_block (get_or blocks b []) a) (sym q) ∙ e) (none a m)))

    -- block k has some
    module _ (after : List (List ℕ)) (r s' u' : ℕ) (some-named : 0 < size_of (in_words (x ∷ y ∷ []))) (split : Split blocks after k n r x y i)
        (less-of : (a : ℕ) → a < 128 → in_words (s' ∷ u' ∷ []) a ≡ in_words (s ∷ u ∷ []) a && not (in_words (x ∷ y ∷ []) a)) where
      abbrev lower : k < n
      lower = omega (arith, so.few)

      -- the sources of the part that is named, and of the others
      part-sources : (b : List ℕ) → Part (get_or blocks k []) x y i b → (a j : ℕ) → a < 128 → j < 128 → in_block b a ≡ true → block_source b j ≡ naming rows (suc i) a j
      part-sources b p a j m o e =
          let f = sym (p.masks a m) ∙ e in
          p.sources j o ∙ ap (λ (t : Bool). t || eqb j i) (so.left k a j (omega arith) low m o (in-block a m f)) ∙ sym (naming-too rows i a j high (named a m f))

      rest-sources : (b : List ℕ) → Rest (get_or blocks k []) x y b → (a j : ℕ) → a < 128 → j < 128 → in_block b a ≡ true → block_source b j ≡ naming rows (suc i) a j
      rest-sources b p a j m o e =
          let f = sym (p.masks a m) ∙ e in
          let g = and_l (in_block (get_or blocks k []) a) (not (in_words (x ∷ y ∷ []) a)) f in
          p.sources j ∙ so.left k a j (omega arith) low m o g
          ∙ sym (naming-not rows i a j high (not_named a m g (not-true (in_words (x ∷ y ∷ []) a) (and_r (in_block (get_or blocks k []) a) (not (in_words (x ∷ y ∷ []) a)) f))))

      -- the blocks that are left do not change, and have none of those that are named by block k
      kept : (l : ℕ) → k + 1 ≤ l → l < count → get_or after l [] ≡ get_or blocks l []
      kept l h w = split.others l (omega (arith, so.few)) (λ e. omega arith)

      mask-kept : (l a : ℕ) → k + 1 ≤ l → l < count → a < 128 → in_block (get_or after l []) a ≡ true → in_words (s' ∷ u' ∷ []) a ≡ named_by rows i a
      mask-kept l a h w m e =
          let f = ap (λ (b : List ℕ). in_block b a) (sym (kept l h w)) ∙ e in
          less-of a m ∙ ap (λ (b : Bool). in_words (s ∷ u ∷ []) a && not b) (absent f (in_words (x ∷ y ∷ []) a) refl) ∙ and-true (in_words (s ∷ u ∷ []) a) ∙ so.mask l a (omega arith) w m f
        where
          absent : in_block (get_or blocks l []) a ≡ true → (b : Bool) → in_words (x ∷ y ∷ []) a ≡ b → b ≡ false
          absent f false g = refl
          absent f true g = absurd (omega (arith, h, so.laid.alone k l a lower (omega (arith, so.few)) m (in-block a m g) f))

      pub refining-split : Refining rows i standard user after count r (k + 1) s' u'
      refining-split = go split.cut
        where
          go : Cut blocks after k n r x y i → Refining rows i standard user after count r (k + 1) s' u'
          go (whole e all p) =
              rw e
              record {
                laid = laid-whole standard user blocks after k n x y i so.laid lower split.others in-block all p;
                upto = omega arith;
                few = so.few;
                done = λ l a j h w m o f. at-whole l a j h w m o f (order l k);
                left = λ l a j h w m o f. rw (kept l h w) (so.left l a j (omega arith) w m o (rw (kept l h w) at f));
                mask = mask-kept;
              }
            where
              at-whole : (l a j : ℕ) → l < n → (l < k + 1) ⊎ (count ≤ l) → a < 128 → j < 128 → in_block (get_or after l []) a ≡ true → Order l k → block_source (get_or after l []) j ≡ naming rows (suc i) a j
              at-whole l a j h w m o f (same q) = rw q (part-sources (get_or after k []) p a j m o (rw q at f))
              at-whole l a j h w m o f (less q) = let z = split.others l h (λ g. omega arith) in rw z (so.done l a j h (inl q) m o (rw z at f))
              at-whole l a j h (inl w) m o f (more q) = absurd (omega arith)
              at-whole l a j h (inr w) m o f (more q) = let z = split.others l h (λ g. omega arith) in rw z (so.done l a j h (inr w) m o (rw z at f))
          go (two e not-all rest p) =
              rw e
              record {
                laid = laid-two standard user blocks after k n x y i so.laid lower split.others in-block not-all some-named rest p;
                upto = omega arith;
                few = omega (arith, so.few);
                done = λ l a j h w m o f. at-two l a j (which k n l h) w m o f;
                left = λ l a j h w m o f. rw (kept l h w) (so.left l a j (omega arith) w m o (rw (kept l h w) at f));
                mask = mask-kept;
              }
            where
              at-two : (l a j : ℕ) → Which k n l → (l < k + 1) ⊎ (count ≤ l) → a < 128 → j < 128 → in_block (get_or after l []) a ≡ true → block_source (get_or after l []) j ≡ naming rows (suc i) a j
              at-two l a j (cut-one q) w m o f = rw q (rest-sources (get_or after k []) rest a j m o (rw q at f))
              at-two l a j (new-one q) w m o f = rw q (part-sources (get_or after n []) p a j m o (rw q at f))
              at-two l a j (other h q) (inl w) m o f = let z = split.others l h q in rw z (so.done l a j h (inl (omega arith)) m o (rw z at f))
              at-two l a j (other h q) (inr w) m o f = let z = split.others l h q in rw z (so.done l a j h (inr w) m o (rw z at f))

      pub still-room : (room : ℕ) → size_of (in_words (standard ∷ user ∷ [])) ≤ room → r ≤ room
      still-room room h = omega (arith, refining-split.laid.most, total-least after r refining-split.laid.some)

  pub refined-early : (count n k s u : ℕ) → Refining rows i standard user blocks count n k s u → ((a : ℕ) → a < 128 → in_words (s ∷ u ∷ []) a ≡ false) → Blocks rows standard user blocks n (suc i)
  refined-early count n k s u so none = record { laid = so.laid; sources = λ l a j w m o e. go l a j w m o e (order l k) (order l count) }
    where
      ahead : (l a j : ℕ) → k ≤ l → l < count → a < 128 → j < 128 → in_block (get_or blocks l []) a ≡ true → block_source (get_or blocks l []) j ≡ naming rows (suc i) a j
      ahead l a j q p m o e = so.left l a j q p m o e ∙ sym (naming-not rows i a j high (sym (so.mask l a q p m e) ∙ none a m))

      go : (l a j : ℕ) → l < n → a < 128 → j < 128 → in_block (get_or blocks l []) a ≡ true → Order l k → Order l count → block_source (get_or blocks l []) j ≡ naming rows (suc i) a j
      go l a j w m o e (less q) p = so.done l a j w (inl q) m o e
      go l a j w m o e (more q) (less p) = ahead l a j (omega arith) p m o e
      go l a j w m o e (more q) (more p) = so.done l a j w (inr (omega arith)) m o e
      go l a j w m o e (more q) (same p) = so.done l a j w (inr (omega arith)) m o e
      go l a j w m o e (same q) (less p) = ahead l a j (omega arith) p m o e
      go l a j w m o e (same q) (more p) = so.done l a j w (inr (omega arith)) m o e
      go l a j w m o e (same q) (same p) = so.done l a j w (inr (omega arith)) m o e

-- ---- the first block, of all applications and no source

block_words : (standard user a : ℕ) → a < 128 → in_block (standard ∷ user ∷ 0 ∷ 0 ∷ []) a ≡ in_words (standard ∷ user ∷ []) a
unfolding in_block
block_words standard user a m = two-words (standard ∷ user ∷ 0 ∷ 0 ∷ []) (standard ∷ user ∷ []) a m refl refl

no_source : (standard user j : ℕ) → j < 128 → block_source (standard ∷ user ∷ 0 ∷ 0 ∷ []) j ≡ false
unfolding block_source
no_source standard user j o = pair-bits (λ a t. t ≡ false) 0 0 (λ i h. zero-none i) (λ i h. zero-none i) j o

low : (rows : List (List ℕ)) (a j : ℕ) (b : Bool) → ltb 1 j ≡ b → naming rows 2 a j ≡ false
unfolding naming
low rows a j true e = rw (e, le-ltb j 2 (omega (arith, ltb-true 1 j e)))
low rows a j false e = rw e

pub blocks-first : (rows : List (List ℕ)) (standard user : ℕ) (blocks : List (List ℕ)) → 0 < length blocks → 0 < size_of (in_words (standard ∷ user ∷ []))
    → Blocks rows standard user (set blocks 0 (standard ∷ user ∷ 0 ∷ 0 ∷ [])) 1 2
unfolding total
blocks-first rows standard user blocks room some =
    record {
      laid = record {
        cover = λ a m e. (0, omega arith, first 0 a (omega arith) m ∙ e);
        inside = λ k a h m e. sym (first k a h m) ∙ e;
        alone = λ k l a h j m e f. omega arith;
        some = λ k h. omega (arith, some, size k h);
        most = omega (arith, size 0 (omega arith));
      };
      sources = λ k a j h m o e. none k j h o ∙ sym (low rows a j (ltb 1 j) refl);
    }
  where
    w : List ℕ
    w = standard ∷ user ∷ 0 ∷ 0 ∷ []

    at : (k : ℕ) → k < 1 → get_or (set blocks 0 w) k [] ≡ w
    at k h = let z : k ≡ 0 = omega arith in ap (λ (i : ℕ). get_or (set blocks 0 w) i []) z ∙ get_or-set_same blocks 0 w [] room

    first : (k a : ℕ) → k < 1 → a < 128 → in_block (get_or (set blocks 0 w) k []) a ≡ in_words (standard ∷ user ∷ []) a
    first k a h m = ap (λ (b : List ℕ). in_block b a) (at k h) ∙ block_words standard user a m

    size : (k : ℕ) → k < 1 → size_of (in_block (get_or (set blocks 0 w) k [])) ≡ size_of (in_words (standard ∷ user ∷ []))
    size k h = size_same (in_block (get_or (set blocks 0 w) k [])) (in_words (standard ∷ user ∷ [])) (λ a m. first k a h m)

    none : (k j : ℕ) → k < 1 → j < 128 → block_source (get_or (set blocks 0 w) k []) j ≡ false
    none k j h o = ap (λ (b : List ℕ). block_source b j) (at k h) ∙ no_source standard user j o
