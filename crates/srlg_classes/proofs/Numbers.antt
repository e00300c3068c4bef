-- Classes by their numbers: what bits pick of a list, and that different bits pick different numbers. Assumes nothing.
use Prim.Native.Nat.{ℕ, ◌+◌, ◌*◌, ◌≤◌, ◌<◌}
use mathlib.Core.Path.{◌≡◌, refl, sym, ◌∙◌, ap}
use mathlib.Core.Bool.{Bool, true, false, ◌&&◌, false≢true}
use mathlib.Core.List.{List, []}
use native.Mathlib.Omega.{arith}
use borrow.Author.Tests.{ltb-true, ltb-false}
use lib.Dec.{ltb}
use lib.ListN.{length, get_or, set, length-set}
use lib.Seq.{get_or-set_same}
use Rattle.linkstate.specs.Lists.{member}
use Rattle.srlg.specs.Ascending.{ascending}
use Rattle.srlg_ranks.specs.Ranks.{keep_from, in_words}
use Rattle.srlg_ranks.proofs.Laws.{keep_same, keep-none, keep-member}
use Rattle.srlg_sources.specs.Classes.{has_source, in_class, class_numbers, Classed}
use Rattle.srlg_sources.proofs.Joins.{any_none}
use Rattle.srlg_table.specs.Tables.{Equal, Rowed, Table}
use Rattle.srlg_table.proofs.Tabling.{none_row, none-bits, none-source}
use Rattle.srlg_classes.specs.Owned.{HasBits}
use Rattle.srlg_classes.specs.Sided.{Has}

kept_same : (n : ℕ) (p q : ℕ → Bool) (values : List ℕ) → length values ≤ n → Equal n p q → keep_from p 0 values ≡ keep_from q 0 values
kept_same n p q values h e = keep_same p q 0 0 values (λ j l. let z : 0 + j ≡ j = omega arith in rw z (e j (omega arith)))

-- The numbers of a class that has these bits.
pub has-numbers : (rows : List (List ℕ)) (words : ℕ) (classes : List (List ℕ)) (count c : ℕ) (p : ℕ → Bool) (values xs : List ℕ) → length values ≤ 64 * words → HasBits rows words classes count c p
    → keep_from p 0 values ≡ xs → Has values rows classes count c xs
unfolding class_numbers
has-numbers rows words classes count c p values xs h so e =
    record { low = so.low; numbers = kept_same (64 * words) (in_class rows (get_or classes c [])) p values h so.bits ∙ e }

-- Bits of the first n sources lie within the list.
class-within : (rows : List (List ℕ)) (n : ℕ) (values class : List ℕ) → Rowed n class → ((j i : ℕ) → j < n → length values ≤ i → i < 1024 → in_words (get_or rows j []) i ≡ false)
    → (i : ℕ) → length values ≤ i → i < 1024 → in_class rows class i ≡ false
unfolding in_class
class-within rows n values class rowed within i h l = any_none (λ j. has_source class j && in_words (get_or rows j []) i) 128 (λ j o. go j o (has_source class j) refl)
  where
    go : (j : ℕ) → j < 128 → (b : Bool) → has_source class j ≡ b → b && in_words (get_or rows j []) i ≡ false
    go j o true e = within j i (rowed j o e) h l
    go j o false e = refl

module _ (values : List ℕ) (rows : List (List ℕ)) (n words : ℕ) (classes heads : List (List ℕ)) (buckets : List ℕ) (count : ℕ) (t : Table rows n words classes heads buckets count)
    (asc : ascending values ≡ true) (short : length values ≤ 64 * words) (few : words ≤ 16) (in_rows : n ≤ length rows)
    (within : (j i : ℕ) → j < n → length values ≤ i → i < 1024 → in_words (get_or rows j []) i ≡ false) where
  beyond : (c : ℕ) → c < count → (i : ℕ) → length values ≤ i → i < 1024 → in_class rows (get_or classes c []) i ≡ false
  beyond c l = class-within rows n values (get_or classes c []) (t.rowed c l) within

  -- Classes with the same numbers have the same bits.
  same_numbers : (c d : ℕ) → c < count → d < count → class_numbers values rows (get_or classes c []) ≡ class_numbers values rows (get_or classes d []) → Equal (64 * words) (in_class rows (get_or classes c [])) (in_class rows (get_or classes d []))
  unfolding class_numbers
  same_numbers c d h l e i k = go (ltb i (length values)) refl
    where
      go : (b : Bool) → ltb i (length values) ≡ b → in_class rows (get_or classes c []) i ≡ in_class rows (get_or classes d []) i
      go true f =
          let o = ltb-true i (length values) f in
          let z : 0 + i ≡ i = omega arith in
          rw z at (sym (keep-member (in_class rows (get_or classes c [])) 0 values i asc o) ∙ ap (member (get_or values i 0)) e ∙ keep-member (in_class rows (get_or classes d [])) 0 values i asc o)
      go false f = let o = ltb-false i (length values) f in beyond c h i o (omega arith) ∙ sym (beyond d l i o (omega arith))

  pub classed : Classed values rows classes count
  unfolding class_numbers
  classed =
      record {
        room = t.room.0;
        class = λ c l.
            record {
              sources = λ j h e. let z = t.rowed c l j h e in omega arith;
              within = beyond c l;
              counted = t.counted c l values short (λ i h k. beyond c l i h (omega arith));
            };
        unwritten = t.unwritten;
        none = (t.none.0, kept_same (64 * words) (in_class rows (get_or classes 0 [])) (λ i. false) values short t.none.1 ∙ keep-none (λ i. false) 0 values (λ j h. refl));
        different = λ c d h l e. t.different c d h l (same_numbers c d h l e);
      }

-- Of no numbers there is class 0 alone.
pub classed-none : (values : List ℕ) (rows classes : List (List ℕ)) → length values ≡ 0 → 0 < length classes → Classed values rows (set classes 0 none_row) 1
unfolding class_numbers
classed-none values rows classes z h =
    record {
      room = omega (arith, length-set classes 0 none_row);
      class = λ c l. rw (at c l)
          record {
            sources = λ j k e. absurd (false≢true (sym (none-source j k) ∙ e));
            within = λ i k l. none-bits rows i;
            counted = sym (ap length empty);
          };
      unwritten = λ c l. rw (at c l);
      none = (omega arith, rw (at 0 (omega arith)) empty);
      different = λ c d k l e. omega arith;
    }
  where
    at : (c : ℕ) → c < 1 → get_or (set classes 0 none_row) c [] ≡ none_row
    at c k = let e : c ≡ 0 = omega arith in ap (λ (i : ℕ). get_or (set classes 0 none_row) i []) e ∙ get_or-set_same classes 0 none_row [] h

    empty : keep_from (in_class rows none_row) 0 values ≡ []
    empty = keep-none (in_class rows none_row) 0 values (λ j k. none-bits rows j)

pub has-none : (values : List ℕ) (rows classes : List (List ℕ)) (c : ℕ) (xs : List ℕ) → c ≡ 0 → 0 < length classes → [] ≡ xs → Has values rows (set classes 0 none_row) 1 c xs
unfolding class_numbers
has-none values rows classes c xs z h e =
    record {
      low = omega arith;
      numbers =
          ap (λ (r : List ℕ). keep_from (in_class rows r) 0 values) (ap (λ (i : ℕ). get_or (set classes 0 none_row) i []) z ∙ get_or-set_same classes 0 none_row [] h)
          ∙ keep-none (in_class rows none_row) 0 values (λ j k. none-bits rows j) ∙ e;
    }
