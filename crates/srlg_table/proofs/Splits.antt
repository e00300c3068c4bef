-- A block with one source more, its rest, and a block that is split. Assumes nothing.
use Prim.Native.Nat.{ℕ, suc, ◌+◌, ◌-◌, ◌*◌, ◌%◌, ◌^◌, ◌≤◌, ◌<◌}
use mathlib.Core.Path.{◌≡◌, refl, sym, ◌∙◌, ap, ap₂}
use mathlib.Core.Bool.{Bool, ◌||◌, ◌&&◌, not, or-false}
use mathlib.Core.List.{List, [], ◌∷◌}
use native.Mathlib.Omega.{arith}
use borrow.Author.Tests.{eq-eqb, ne_eqb}
use lib.Dec.{eqb}
use lib.Bits.{bit_or}
use lib.ListN.{length, get_or, set, length-set}
use lib.Seq.{get_or-set_same, get_or-set_other}
use Rattle.linkstate.specs.Masks.{in_number}
use Rattle.srlg.proofs.Laws.{Order, less, more, same, order}
use Rattle.srlg_ranks.specs.Ranks.{in_words}
use Rattle.srlg_ranks.proofs.Bits.{with_in}
use Rattle.srlg_sources.proofs.Joins.{two-words}
use Rattle.srlg_table.specs.Blocks.{Alike, in_block, block_source, Part, Rest, whole, two, Split}
use Rattle.srlg_table.proofs.Sizes.{pair-bits, low_bit, high_bit}

module _ (b : List ℕ) (x y i : ℕ) where
  abbrev Said : ℕ → Bool → Type 0
  Said j t = t ≡ block_source b j || eqb j i

  pub part_low : i < 64 → Part b x y i (x ∷ y ∷ bit_or (get_or b 2 0) ((1 * 2 ^ i) % 2 ^ 64) ∷ get_or b 3 0 ∷ [])
  unfolding in_block block_source
  part_low h =
      record {
        masks = λ a l. two-words (x ∷ y ∷ bit_or (get_or b 2 0) ((1 * 2 ^ i) % 2 ^ 64) ∷ get_or b 3 0 ∷ []) (x ∷ y ∷ []) a l refl refl;
        sources =
            pair-bits Said (bit_or (get_or b 2 0) ((1 * 2 ^ i) % 2 ^ 64)) (get_or b 3 0)
            (λ j l. with_in (get_or b 2 0) i h j ∙ ap (λ (t : Bool). t || eqb j i) (sym (low_bit (get_or b 2 0) (get_or b 3 0) j l)))
            (λ j l. sym (high_bit (get_or b 2 0) (get_or b 3 0) j l) ∙ sym (or-false _) ∙ ap (λ (t : Bool). block_source b (64 + j) || t) (sym (ne_eqb (64 + j) i (λ e. omega arith))));
      }

  pub part-high : 64 ≤ i → i < 128 → Part b x y i (x ∷ y ∷ get_or b 2 0 ∷ bit_or (get_or b 3 0) ((1 * 2 ^ (i - 64)) % 2 ^ 64) ∷ [])
  unfolding in_block block_source
  part-high h k =
      record {
        masks = λ a l. two-words (x ∷ y ∷ get_or b 2 0 ∷ bit_or (get_or b 3 0) ((1 * 2 ^ (i - 64)) % 2 ^ 64) ∷ []) (x ∷ y ∷ []) a l refl refl;
        sources =
            pair-bits Said (get_or b 2 0) (bit_or (get_or b 3 0) ((1 * 2 ^ (i - 64)) % 2 ^ 64))
            (λ j l. sym (low_bit (get_or b 2 0) (get_or b 3 0) j l) ∙ sym (or-false _) ∙ ap (λ (t : Bool). block_source b j || t) (sym (ne_eqb j i (λ e. omega arith))))
            (λ j l. with_in (get_or b 3 0) (i - 64) (omega arith) j ∙ ap₂ (λ (t v : Bool). t || v) (sym (high_bit (get_or b 2 0) (get_or b 3 0) j l)) (shifted j (order j (i - 64))));
      }
    where
      shifted : (j : ℕ) → Order j (i - 64) → eqb j (i - 64) ≡ eqb (64 + j) i
      shifted j (less l) = ne_eqb j (i - 64) (λ e. omega arith) ∙ sym (ne_eqb (64 + j) i (λ e. omega arith))
      shifted j (more l) = ne_eqb j (i - 64) (λ e. omega arith) ∙ sym (ne_eqb (64 + j) i (λ e. omega arith))
      shifted j (same e) = eq-eqb j (i - 64) e ∙ sym (eq-eqb (64 + j) i (omega arith))

  pub rest-is : (s u : ℕ) → ((n : ℕ) → in_number s n ≡ in_number (get_or b 0 0) n && not (in_number x n)) → ((n : ℕ) → in_number u n ≡ in_number (get_or b 1 0) n && not (in_number y n))
      → Rest b x y (s ∷ u ∷ get_or b 2 0 ∷ get_or b 3 0 ∷ [])
  unfolding in_block block_source
  rest-is s u es eu =
      record {
        masks = λ a l.
            two-words (s ∷ u ∷ get_or b 2 0 ∷ get_or b 3 0 ∷ []) (s ∷ u ∷ []) a l refl refl
            ∙ pair-bits (λ a t. t ≡ in_words (get_or b 0 0 ∷ get_or b 1 0 ∷ []) a && not (in_words (x ∷ y ∷ []) a)) s u
            (λ j k. es j ∙ ap₂ (λ (p q : Bool). p && not q) (sym (low_bit (get_or b 0 0) (get_or b 1 0) j k)) (sym (low_bit x y j k)))
            (λ j k. eu j ∙ ap₂ (λ (p q : Bool). p && not q) (sym (high_bit (get_or b 0 0) (get_or b 1 0) j k)) (sym (high_bit x y j k))) a l
            ∙ ap (λ (t : Bool). t && not (in_words (x ∷ y ∷ []) a)) (two-words (get_or b 0 0 ∷ get_or b 1 0 ∷ []) b a l refl refl);
        sources = λ j. refl;
      }

  pub alike-block : Alike (x ∷ y ∷ []) (get_or b 0 0 ∷ get_or b 1 0 ∷ []) → Alike (x ∷ y ∷ []) b
  alike-block h a l = h a l ∙ two-words (get_or b 0 0 ∷ get_or b 1 0 ∷ []) b a l refl refl

  pub alike-words : Alike (x ∷ y ∷ []) b → Alike (x ∷ y ∷ []) (get_or b 0 0 ∷ get_or b 1 0 ∷ [])
  alike-words h a l = h a l ∙ two-words b (get_or b 0 0 ∷ get_or b 1 0 ∷ []) a l refl refl

module _ (blocks : List (List ℕ)) (k n x y i : ℕ) (low : k < n) (room : n ≤ length blocks) (part : List ℕ) (is : Part (get_or blocks k []) x y i part) where
  pub split-whole : Alike (x ∷ y ∷ []) (get_or blocks k []) → Split blocks (set blocks k part) k n n x y i
  split-whole h =
      record {
        others = λ l j e. get_or-set_other blocks k l part [] e;
        cut = whole refl h (rw (get_or-set_same blocks k part [] (omega arith)) is);
      }

  pub split-two : (r : ℕ) (rest : List ℕ) → r ≡ suc n → n < length blocks → (Alike (x ∷ y ∷ []) (get_or blocks k []) → ⊥) → Rest (get_or blocks k []) x y rest → Split blocks (set (set blocks k rest) n part) k n r x y i
  split-two r rest e h not-all left =
      let here : get_or (set (set blocks k rest) n part) k [] ≡ rest = get_or-set_other (set blocks k rest) n k part [] (λ f. omega arith) ∙ get_or-set_same blocks k rest [] (omega arith) in
      let last : get_or (set (set blocks k rest) n part) n [] ≡ part = get_or-set_same (set blocks k rest) n part [] (rw length-set h) in
      record {
        others = λ l j f. get_or-set_other (set blocks k rest) n l part [] (λ g. omega arith) ∙ get_or-set_other blocks k l rest [] f;
        cut = two e not-all (rw here left) (rw last is);
      }
