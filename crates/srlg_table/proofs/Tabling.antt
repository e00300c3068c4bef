-- The table of classes: searched, and with one class more. Assumes nothing.
use Prim.Native.Nat.{ℕ, zero, suc, ◌+◌, ◌-◌, ◌*◌, ◌%◌, ◌<◌}
use mathlib.Core.Path.{◌≡◌, refl, sym, ◌∙◌, ap}
use mathlib.Core.Bool.{Bool, true, false, cond, ◌&&◌, false≢true}
use mathlib.Core.List.{List, [], ◌∷◌}
use native.Mathlib.Omega.{arith}
use borrow.Author.Tests.{eq-eqb, ne_eqb, ltb-true, ltb-false}
use lib.Dec.{ltb}
use lib.ListN.{length, get_or, set, length-set}
use lib.Seq.{get_or-set_same, get_or-set_other}
use Rattle.linkstate.specs.Lists.{numbers}
use Rattle.linkstate.proofs.ListLaws.{length-numbers}
use Rattle.srlg.proofs.Laws.{Order, less, more, same, order}
use Rattle.srlg_ranks.specs.Ranks.{keep_from, in_words}
use Rattle.srlg_ranks.proofs.Laws.{keep_same, keep-none}
use Rattle.srlg_sources.specs.Classes.{has_source, in_class}
use Rattle.masks.proofs.Steps.{zero-none}
use Rattle.srlg_sources.proofs.Joins.{any_none, low-source, high-source, class-words, source-words}
use Rattle.srlg_table.specs.Chains.{Chain, Search}
use Rattle.srlg_table.proofs.ChainLaws.{search-start, search-next, search-end, chain_more, chain-none}
use Rattle.srlg_table.specs.Marks.{mark_of}
use Rattle.std.specs.Prelude.{None}
use Rattle.srlg_table.specs.Tables.{Equal, Counts, Rowed, bucket_of, next_of, first_of, Table, Finds, Adds, nothing, another, with_class, Given}
use Rattle.srlg_table.proofs.Words.{mark-same}

-- ---- searched

module _ (rows : List (List ℕ)) (words : ℕ) (x : List ℕ) (classes heads : List (List ℕ)) (buckets : List ℕ) (mark : ℕ) where
  abbrev pub Not : ℕ → Type 0
  Not c = Equal (64 * words) (in_words x) (in_class rows (get_or classes c [])) → ⊥

  abbrev pub Searching : ℕ → ℕ → Type 0
  Searching count i = Search (bucket_of heads) count (mark % 128) Not i

  module _ (is : mark ≡ mark_of words (in_words x)) (m count : ℕ) (t : Table rows m words classes heads buckets count) where
    -- the mark of a class with the bits that are sought
    mark-there : (c : ℕ) → 0 < c → c < count → Equal (64 * words) (in_words x) (in_class rows (get_or classes c [])) → get_or (get_or heads c []) 0 0 ≡ mark
    mark-there c h l e = t.marked c h l ∙ sym (mark-same words (in_words x) (in_class rows (get_or classes c [])) e) ∙ sym is

    pub searching-start : Searching count (get_or buckets (mark % 128) 0)
    unfolding first_of
    searching-start = search-start 128 (bucket_of heads) (next_of heads) (first_of buckets) count t.chain (mark % 128) Not (omega arith)

    pub searching-next : (i : ℕ) → 0 < i → (get_or (get_or heads i []) 0 0 ≡ mark → Not i) → Searching count i → Searching count (get_or (get_or heads i []) 1 0)
    unfolding next_of
    searching-next i h differs so =
        search-next 128 (bucket_of heads) (next_of heads) (first_of buckets) count t.chain (mark % 128) Not i h (λ e. differs (mark-there i h so.low e) e) so

    pub finds-none : (i : ℕ) → i ≡ 0 → Searching count i → Finds rows words x classes count None
    unfolding bucket_of
    finds-none i z so c h l f =
        search-end 128 (bucket_of heads) (next_of heads) (first_of buckets) count t.chain (mark % 128) Not i z so c h l (ap (λ (m : ℕ). m % 128) (mark-there c h l f)) f

-- ---- counted

pub counts_same : (n : ℕ) (p q : ℕ → Bool) (k : ℕ) → Equal n p q → Counts n p k → Counts n q k
counts_same n p q k e so values h w =
    so values h (λ i l m. e i m ∙ w i l m) ∙ ap length (keep_same p q 0 0 values (λ j l. let z : 0 + j ≡ j = omega arith in rw z (e j (omega arith))))

none_kept : (p : ℕ → Bool) (n from : ℕ) (l : List ℕ) → length (keep_from p from l) ≡ 0 → (i : ℕ) → i < length l → p (from + i) ≡ false
unfolding keep_from
none_kept p n from [] e i h = absurd (omega arith)
none_kept p n from (v ∷ l) e i h = go (p from) refl e i h (λ f j k. none_kept p n (suc from) l f j k)
  where
    go : (b : Bool) → p from ≡ b → length (cond b (v ∷ keep_from p (suc from) l) (keep_from p (suc from) l)) ≡ 0 → (i : ℕ) → i < suc (length l)
        → (length (keep_from p (suc from) l) ≡ 0 → (j : ℕ) → j < length l → p (suc from + j) ≡ false) → p (from + i) ≡ false
    go true f e i h ih = absurd (omega arith)
    go false f e zero h ih = let z : from + 0 ≡ from = omega arith in rw z f
    go false f e (suc j) h ih = let z : from + suc j ≡ suc from + j = omega arith in rw z (ih e j (omega arith))

-- A count of 0 is that of no bits, and of no other.
module _ (n : ℕ) (p : ℕ → Bool) (k : ℕ) (so : Counts n p k) where
  all-values : k ≡ length (keep_from p 0 (numbers 0 n))
  all-values = so (numbers 0 n) (omega (arith, length-numbers n 0)) (λ i l h. absurd (omega (arith, length-numbers n 0)))

  pub count_none : k ≡ 0 → Equal n p (λ i. false)
  count_none z i h = let e : 0 + i ≡ i = omega arith in rw e at (none_kept p n 0 (numbers 0 n) (omega (arith, all-values)) i (omega (arith, length-numbers n 0)))

  pub none-count : Equal n p (λ i. false) → k ≡ 0
  none-count e =
      all-values ∙ ap length (keep_same p (λ i. false) 0 0 (numbers 0 n) (λ j l. let z : 0 + j ≡ j = omega arith in rw z (e j (omega (arith, length-numbers n 0)))) ∙ keep-none (λ i. false) 0 (numbers 0 n) (λ j h. refl))

-- ---- one class more

module _ (rows : List (List ℕ)) (m words low high : ℕ) (x : List ℕ) (classes heads : List (List ℕ)) (buckets : List ℕ) (count : ℕ)
    (t : Table rows m words classes heads buckets count) (bits : Equal (64 * words) (in_words x) (in_class rows (low ∷ high ∷ []))) where
  kept-count : (r : ℕ) → r < count → with_class count r ≡ count
  unfolding with_class
  kept-count r h = rw (ne_eqb r count (λ e. omega arith))

  pub given-found : (r : ℕ) → r < count → Equal (64 * words) (in_words x) (in_class rows (get_or classes r [])) → Given rows m words low high classes classes heads buckets count r
  given-found r l f = record { table = rw (kept-count r l) t; kept = λ c k. refl; here = rw (kept-count r l) l; bits = λ i k. sym (f i k) ∙ bits i k }

  given-empty : Counts (64 * words) (in_words x) 0 → Given rows m words low high classes classes heads buckets count 0
  given-empty so =
      let l = t.none.0 in
      record { table = rw (kept-count 0 l) t; kept = λ c k. refl; here = rw (kept-count 0 l) l; bits = λ i k. t.none.1 i k ∙ sym (count_none (64 * words) (in_words x) 0 so refl i k) ∙ bits i k }

  module _ (n mark : ℕ) (counted : Counts (64 * words) (in_words x) n) (some : n ≡ 0 → ⊥) (is : mark ≡ mark_of words (in_words x)) (none : Finds rows words x classes count None) (rowed : Rowed m (low ∷ high ∷ []))
      (room : (length buckets ≡ 128) × (count < length classes) × (count < length heads)) where
    abbrev class : List ℕ
    class = low ∷ high ∷ n ∷ 0 ∷ []

    abbrev head : List ℕ
    head = mark ∷ get_or buckets (mark % 128) 0 ∷ []

    -- a row of either table is an old one, or the new one
    data Row (c : ℕ) : Type 0 where
      old : c < count → get_or (set classes count class) c [] ≡ get_or classes c [] → get_or (set heads count head) c [] ≡ get_or heads c [] → Row c
      new : c ≡ count → get_or (set classes count class) c [] ≡ class → get_or (set heads count head) c [] ≡ head → Row c

    row : (c : ℕ) → c < suc count → Row c
    row c h = go (order c count)
      where
        go : Order c count → Row c
        go (less l) = old l (get_or-set_other classes count c class [] (λ e. omega arith)) (get_or-set_other heads count c head [] (λ e. omega arith))
        go (more l) = absurd (omega arith)
        go (same e) =
            new e (ap (λ (i : ℕ). get_or (set classes count class) i []) e ∙ get_or-set_same classes count class [] room.1)
            (ap (λ (i : ℕ). get_or (set heads count head) i []) e ∙ get_or-set_same heads count head [] room.2)

    new-bits : Equal (64 * words) (in_words x) (in_class rows class)
    new-bits i k = bits i k ∙ sym (class-words rows class i)

    -- no class has the new one's bits
    apart : (c : ℕ) → c < count → Equal (64 * words) (in_words x) (in_class rows (get_or classes c [])) → ⊥
    apart c l e = go (order 0 c)
      where
        go : Order 0 c → ⊥
        go (less h) = none c h l e
        go (more h) = absurd (omega arith)
        go (same z) = some (none-count (64 * words) (in_words x) n counted (λ i k. e i k ∙ ap (λ (c : ℕ). in_class rows (get_or classes c []) i) (sym z) ∙ t.none.1 i k))

    differ : (c d : ℕ) → Row c → Row d → Equal (64 * words) (in_class rows (get_or (set classes count class) c [])) (in_class rows (get_or (set classes count class) d [])) → c ≡ d
    differ c d (old l e f) (old m g h) q = t.different c d l m (rw (e, g) at q)
    differ c d (old l e f) (new m g h) q = absurd (apart c l (λ i k. new-bits i k ∙ sym (rw (e, g) at (q i k))))
    differ c d (new l e f) (old m g h) q = absurd (apart d m (λ i k. new-bits i k ∙ (rw (e, g) at (q i k))))
    differ c d (new l e f) (new m g h) q = l ∙ sym m

    new-chain : Chain 128 (bucket_of (set heads count head)) (next_of (set heads count head)) (first_of (set buckets (mark % 128) count)) (suc count)
    unfolding bucket_of next_of first_of
    new-chain =
        chain_more 128 (bucket_of heads) (next_of heads) (first_of buckets) count t.chain (bucket_of (set heads count head)) (next_of (set heads count head)) (first_of (set buckets (mark % 128) count))
        (mark % 128) (omega arith) t.none.0
        (λ d l. ap (λ (h : List ℕ). get_or h 0 0 % 128) (get_or-set_other heads count d head [] (λ e. omega arith)))
        (λ d l. ap (λ (h : List ℕ). get_or h 1 0) (get_or-set_other heads count d head [] (λ e. omega arith)))
        (λ c l e. get_or-set_other buckets (mark % 128) c count 0 e)
        (ap (λ (h : List ℕ). get_or h 0 0 % 128) (get_or-set_same heads count head [] room.2))
        (ap (λ (h : List ℕ). get_or h 1 0) (get_or-set_same heads count head [] room.2))
        (get_or-set_same buckets (mark % 128) count 0 (omega (arith, room.0)))
        (λ d l. omega arith)

    more-count : with_class count count ≡ suc count
    unfolding with_class
    more-count = rw (eq-eqb count count refl)

    new-table : Table rows m words (set classes count class) (set heads count head) (set buckets (mark % 128) count) (suc count)
    new-table =
        record {
          room = (omega (arith, length-set classes count class, room.1), omega (arith, length-set heads count head, room.2));
          rowed = λ c h. rowed-at c (row c h);
          counted = λ c h. counted-at c (row c h);
          unwritten = λ c h. unwritten_at c (row c h);
          none = (omega arith, λ i k. rw (zero_row (row 0 (omega arith))) (t.none.1 i k));
          different = λ c d h l. differ c d (row c h) (row d l);
          marked = λ c p h. marked-at c p (row c h);
          chain = new-chain;
        }
      where
        zero_row : Row 0 → get_or (set classes count class) 0 [] ≡ get_or classes 0 []
        zero_row (old l e f) = e
        zero_row (new l e f) = absurd (omega (arith, t.none.0))

        rowed-at : (c : ℕ) → Row c → Rowed m (get_or (set classes count class) c [])
        rowed-at c (old l e f) = rw e (t.rowed c l)
        rowed-at c (new l e f) = rw e (λ j h s. rowed j h (sym (source-words class j h) ∙ s))

        counted-at : (c : ℕ) → Row c → Counts (64 * words) (in_class rows (get_or (set classes count class) c [])) (get_or (get_or (set classes count class) c []) 2 0)
        counted-at c (old l e f) = rw e (t.counted c l)
        counted-at c (new l e f) = rw e (counts_same (64 * words) (in_words x) (in_class rows class) n new-bits counted)

        unwritten_at : (c : ℕ) → Row c → get_or (get_or (set classes count class) c []) 3 0 ≡ 0
        unwritten_at c (old l e f) = rw e (t.unwritten c l)
        unwritten_at c (new l e f) = rw e

        marked-at : (c : ℕ) → 0 < c → Row c → get_or (get_or (set heads count head) c []) 0 0 ≡ mark_of words (in_class rows (get_or (set classes count class) c []))
        marked-at c p (old l e f) = rw (e, f) (t.marked c p l)
        marked-at c p (new l e f) = rw (e, f) (is ∙ mark-same words (in_words x) (in_class rows class) new-bits)

    given-new : Given rows m words low high classes (set classes count class) (set heads count head) (set buckets (mark % 128) count) count count
    given-new =
        record {
          table = rw more-count new-table;
          kept = λ c l. get_or-set_other classes count c class [] (λ e. omega arith);
          here = rw more-count (omega arith);
          bits = λ i k. ap (λ (c : List ℕ). in_class rows c i) (get_or-set_same classes count class [] room.1) ∙ class-words rows class i;
        }

  pub given-added : (mark r : ℕ) (classes' heads' : List (List ℕ)) (buckets' : List ℕ) → mark ≡ mark_of words (in_words x) → Finds rows words x classes count None → Rowed m (low ∷ high ∷ [])
      → (length buckets ≡ 128) × (count < length classes) × (count < length heads) → Adds words x low high mark classes heads buckets count r classes' heads' buckets'
      → Given rows m words low high classes classes' heads' buckets' count r
  given-added mark r classes' heads' buckets' is none rowed room (nothing so e f g h) = rw (e, f, g, h) (given-empty so)
  given-added mark r classes' heads' buckets' is none rowed room (another n so some e f g h) = rw (e, f, g, h) (given-new n mark so some is none rowed room)

-- ---- class 0 alone

abbrev pub none_row : List ℕ
none_row = 0 ∷ 0 ∷ 0 ∷ 0 ∷ []

pub none-source : (j : ℕ) → j < 128 → has_source none_row j ≡ false
none-source j h = source-words none_row j h ∙ go (ltb j 64) refl
  where
    go : (b : Bool) → ltb j 64 ≡ b → has_source (0 ∷ 0 ∷ []) j ≡ false
    go true e = low-source 0 0 j (ltb-true j 64 e) ∙ zero-none j
    go false e =
        let l = ltb-false j 64 e in
        let z : 64 + (j - 64) ≡ j = omega arith in
        rw z at (high-source 0 0 (j - 64) (omega arith) ∙ zero-none (j - 64))

pub none-bits : (rows : List (List ℕ)) (i : ℕ) → in_class rows none_row i ≡ false
unfolding in_class
none-bits rows i = any_none (λ j. has_source none_row j && in_words (get_or rows j []) i) 128 (λ j h. rw (none-source j h))

pub table_none : (rows : List (List ℕ)) (m words : ℕ) (classes heads : List (List ℕ)) (buckets : List ℕ) → 0 < length classes → 0 < length heads → ((b : ℕ) → b < 128 → get_or buckets b 0 ≡ 0)
    → Table rows m words (set classes 0 none_row) heads buckets 1
unfolding first_of
table_none rows m words classes heads buckets h l zero-at =
    record {
      room = (omega (arith, length-set classes 0 none_row), l);
      rowed = λ c k j o e. absurd (false≢true (sym (ap (λ (r : List ℕ). has_source r j) (at c k) ∙ none-source j o) ∙ e));
      counted = λ c k. rw (at c k) (λ values o w. sym (ap length (keep-none (in_class rows none_row) 0 values (λ i p. none-bits rows i))));
      unwritten = λ c k. rw (at c k);
      none = (omega arith, λ i k. rw (at 0 (omega arith)) (none-bits rows i));
      different = λ c d k o e. omega arith;
      marked = λ c p k. absurd (omega arith);
      chain = chain-none 128 (bucket_of heads) (next_of heads) (first_of buckets) zero-at;
    }
  where
    at : (c : ℕ) → c < 1 → get_or (set classes 0 none_row) c [] ≡ none_row
    at c k = let z : c ≡ 0 = omega arith in ap (λ (i : ℕ). get_or (set classes 0 none_row) i []) z ∙ get_or-set_same classes 0 none_row [] h
