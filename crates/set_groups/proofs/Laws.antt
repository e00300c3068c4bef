-- Laws of the table of groups: a member more, equal sets, the search by buckets, and what is left when an application has joined. Assumes nothing.
use Rattle.std.specs.Prelude.{None}
use mathlib.Core.Path.{◌≡◌, refl, sym, ◌∙◌, ap, ap₂, fun_ext, subst}
use mathlib.Core.Bool.{Bool, true, false, cond, ◌&&◌, ◌||◌, false≢true}
use mathlib.Core.List.{List, [], ◌∷◌, map}
use Prim.Native.Nat.{ℕ, zero, suc, ◌+◌, ◌-◌, ◌*◌, ◌/◌, ◌%◌, ◌^◌, ◌≤◌, ◌<◌}
use native.Mathlib.Nat.{add-zero}
use native.Mathlib.Omega.{arith}
use borrow.Author.Tests.{eq-eqb, ne_eqb, eqb-true, eqb-false, ltb-true, ltb-false}
use lib.Bits.{bit_or, or_lt}
use lib.Dec.{eqb, ltb}
use lib.ListN.{length, get_or, set, length-set}
use lib.Seq.{get_or-set_same, get_or-set_other}
use Rattle.linkstate.specs.Lists.{numbers, same_bytes, same_rows}
use Rattle.linkstate.specs.Bytes.{words, bytes_of_words}
use Rattle.linkstate.specs.Masks.{user, as_number, in_number}
use Rattle.linkstate.specs.Meaning.{row}
use Rattle.linkstate.proofs.ListLaws.{and_l, and_r, rows_refl, rows_eq}
use Rattle.octets.proofs.Laws.{same-complete, same-sound}
use Rattle.masks.specs.Sets.{turned_place}
use Rattle.masks.proofs.Laws.{is_number}
use Rattle.masks.proofs.Steps.{turned-back, turned-below}
use Rattle.kinds.specs.Rules.{grid_codes}
use Rattle.kinds.proofs.Computing.{computing}
use Rattle.srlg.proofs.Laws.{words-bytes_of_words}
use Rattle.srlg_ranks.proofs.Bits.{with_in}
use Rattle.grids.specs.Grids.{grid_value, set_of}
use Rattle.grids.specs.Slots.{slot_grid, slot_values, slot_mark, IsSet, Slots}
use Rattle.set_groups.specs.Groups.{Group, group, added, join}
use Rattle.set_groups.specs.Members.{with_member}
use Rattle.set_groups.specs.Table.{word, slot_in, class_in, next_in, bucket_of, bucket_in, Same, Tells, Latest, Entries, Chained, Finds, entry_group, table_groups, Differ, Joined}

-- ---- a member more

or-false : (b : Bool) → b || false ≡ b
or-false true = refl
or-false false = refl

turned-eqb : (k n : ℕ) → eqb k (turned_place n) ≡ eqb (turned_place k) n
turned-eqb k n = go (eqb k (turned_place n)) refl
  where
    go : (b : Bool) → eqb k (turned_place n) ≡ b → b ≡ eqb (turned_place k) n
    go true e = sym (eq-eqb (turned_place k) n (ap turned_place (eqb-true k (turned_place n) e) ∙ turned-back n))
    go false e = sym (ne_eqb (turned_place k) n (λ z. eqb-false k (turned_place n) e (sym (turned-back k) ∙ ap turned_place z)))

-- A mask with the bit of place j, which t says is application n; and one that no bit of is.
module _ (m n : ℕ) (small : m < 2 ^ 64) (t : ℕ → ℕ) where
  bit-more : (j : ℕ) → j < 64 → ((i : ℕ) → i < 64 → eqb i j ≡ eqb (t i) n) → bit_or m ((1 * 2 ^ j) % 2 ^ 64) ≡ as_number (λ i. in_number m i || eqb (t i) n)
  bit-more j l e =
      is_number (bit_or m ((1 * 2 ^ j) % 2 ^ 64)) (λ i. in_number m i || eqb (t i) n) (or_lt 64 m ((1 * 2 ^ j) % 2 ^ 64) small (omega arith)) (λ i h.
      with_in m j l i ∙ ap (λ (b : Bool). in_number m i || b) (e i h))

  bit-none : ((i : ℕ) → i < 64 → eqb (t i) n ≡ false) → m ≡ as_number (λ i. in_number m i || eqb (t i) n)
  bit-none e = is_number m (λ i. in_number m i || eqb (t i) n) small (λ i h. sym (ap (λ (b : Bool). in_number m i || b) (e i h) ∙ or-false (in_number m i)))

module _ (m n : ℕ) (small : m < 2 ^ 64) where
  standard-more : n < 64 → (j : ℕ) → j ≡ turned_place n → bit_or m ((1 * 2 ^ j) % 2 ^ 64) ≡ as_number (λ k. in_number m k || eqb (turned_place k) n)
  standard-more h j e = rw e (bit-more m n small turned_place (turned_place n) (turned-below n h) (λ i l. turned-eqb i n))

  standard-none : 64 ≤ n → m ≡ as_number (λ k. in_number m k || eqb (turned_place k) n)
  standard-none h = bit-none m n small turned_place (λ i l. ne_eqb (turned_place i) n (λ z. omega (arith, turned-below i l)))

  user-more : 64 ≤ n → n < 128 → (j : ℕ) → j ≡ turned_place (n - 64) → bit_or m ((1 * 2 ^ j) % 2 ^ 64) ≡ as_number (λ k. in_number m k || eqb (user (turned_place k)) n)
  unfolding user
  user-more h l j e =
      rw e (bit-more m n small (λ k. 64 + turned_place k) (turned_place (n - 64)) (turned-below (n - 64) (omega arith)) (λ i k. turned-eqb i (n - 64) ∙ shift (turned_place i)))
    where
      shift : (i : ℕ) → eqb i (n - 64) ≡ eqb (64 + i) n
      shift i = go (eqb i (n - 64)) refl
        where
          go : (b : Bool) → eqb i (n - 64) ≡ b → b ≡ eqb (64 + i) n
          go true e = let q = eqb-true i (n - 64) e in sym (eq-eqb (64 + i) n (omega arith))
          go false e = let q = eqb-false i (n - 64) e in sym (ne_eqb (64 + i) n (λ z. omega arith))

  user-none : n < 64 → m ≡ as_number (λ k. in_number m k || eqb (user (turned_place k)) n)
  unfolding user
  user-none h = bit-none m n small (λ k. 64 + turned_place k) (λ i l. ne_eqb (64 + turned_place i) n (λ z. omega arith))

-- The bit of an application in the first mask or in the second, by its half.
pub member-more : (h : List ℕ) (n p : ℕ) → length h ≡ 3 → ((i : ℕ) → get_or h i 0 < 2 ^ 64) → n < 128 → p ≡ turned_place (n % 64) → set h (n / 64) (bit_or (get_or h (n / 64) 0) ((1 * 2 ^ p) % 2 ^ 64)) ≡ with_member h n
unfolding with_member
member-more [] n p l small b e = absurd (omega arith)
member-more (s ∷ []) n p l small b e = absurd (omega arith)
member-more (s ∷ u ∷ []) n p l small b e = absurd (omega arith)
member-more (s ∷ u ∷ x ∷ y ∷ r) n p l small b e = absurd (omega arith)
member-more (s ∷ u ∷ x ∷ []) n p l small b e = go (ltb n 64) refl
  where
    go : (q : Bool) → ltb n 64 ≡ q → set (s ∷ u ∷ x ∷ []) (n / 64) (bit_or (get_or (s ∷ u ∷ x ∷ []) (n / 64) 0) ((1 * 2 ^ p) % 2 ^ 64)) ≡ as_number (λ k. in_number s k || eqb (turned_place k) n) ∷ as_number (λ k. in_number u k || eqb (user (turned_place k)) n) ∷ x ∷ []
    go true q =
        let a = ltb-true n 64 q in
        let d : n / 64 ≡ 0 = omega arith in
        let m : n % 64 ≡ n = omega arith in
        rw d (ap₂ (λ (y z : ℕ). y ∷ z ∷ x ∷ []) (standard-more s n (small 0) a p (e ∙ ap turned_place m)) (user-none u n (small 1) a))
    go false q =
        let a = ltb-false n 64 q in
        let d : n / 64 ≡ 1 = omega arith in
        let m : n % 64 ≡ n - 64 = omega arith in
        rw d (ap₂ (λ (y z : ℕ). y ∷ z ∷ x ∷ []) (standard-none s n (small 0) a) (user-more u n (small 1) a b p (e ∙ ap turned_place m)))

-- ---- the same set

module _ (run : List ℕ) (sets : List (List ℕ)) (x s c : ℕ) where
  abbrev Here : Type 0
  Here = Same run sets x s c

  module _ (ok : Slots run sets) (of_x : IsSet sets (slot_in x)) (of_s : IsSet sets s) where
    pub same-bucket : Here → bucket_of (slot_mark sets (slot_in x)) (class_in x) ≡ bucket_of (slot_mark sets s) c
    same-bucket h = ap₂ bucket_of (ok.marked (slot_in x) s of_x of_s h.values) h.class

  pub grids-tell : (r : Bool) → class_in x ≡ c → r ≡ same_rows (slot_values run sets (slot_in x)) (slot_values run sets s) → Tells Here r
  grids-tell r e f =
      record {
        yes = λ t. record { class = e; values = rows_eq (slot_values run sets (slot_in x)) (slot_values run sets s) (sym f ∙ t) };
        no = λ n h. false≢true (sym n ∙ f ∙ ap (λ (v : List (List ℕ)). same_rows v (slot_values run sets s)) h.values ∙ rows_refl (slot_values run sets s));
      }

-- Two words that say the same set say each other's.
both : (run : List ℕ) (sets : List (List ℕ)) (x y s c : ℕ) → Same run sets x s c → Same run sets y s c → Same run sets x (slot_in y) (class_in y)
both run sets x y s c e f = record { class = e.class ∙ sym f.class; values = e.values ∙ sym f.values }

-- ---- the search by buckets

-- Where the search stands: at an entry of the bucket, or at its end; those passed have other sets.
pub record At (run : List ℕ) (sets : List (List ℕ)) (w : ℕ → ℕ) (count s c i : ℕ) : Type 0 where
  pub inside : i < count
  pub here : (i ≡ 0 → ⊥) → bucket_in sets w i ≡ bucket_of (slot_mark sets s) c
  pub passed : (j : ℕ) → i < j → j < count → Same run sets (w j) s c → ⊥

module _ (run : List ℕ) (sets : List (List ℕ)) (w : ℕ → ℕ) (count s c : ℕ) (ok : Slots run sets) (of_s : IsSet sets s) (is : Entries run sets w count) where
  pub search-start : (i : ℕ) → Latest (bucket_in sets w) (bucket_of (slot_mark sets s) c) count i → At run sets w count s c i
  search-start i l =
      record { inside = l.below; here = l.there; passed = λ j a h e. l.between j a h (same-bucket run sets (w j) s c ok (is.slot j (omega arith) h) of_s e) }

  pub search-next : (i : ℕ) → At run sets w count s c i → (i ≡ 0 → ⊥) → (r : Bool) → Tells (Same run sets (w i) s c) r → r ≡ false → At run sets w count s c (next_in (w i))
  search-next i at some r t f =
      let inside = at.inside in
      let l = is.next i (omega arith) inside in
      let low = l.below in
      record { inside = omega arith; here = λ n. l.there n ∙ at.here some; passed = λ j a h e. go j a h e l (eqb j i) refl }
    where
      go : (j : ℕ) → next_in (w i) < j → j < count → Same run sets (w j) s c → Latest (bucket_in sets w) (bucket_in sets w i) i (next_in (w i)) → (q : Bool) → eqb j i ≡ q → ⊥
      go j a h e l true q = t.no f (subst (λ (k : ℕ). Same run sets (w k) s c) (eqb-true j i q) e)
      go j a h e l false q = later j a h e l (eqb-false j i q) (eqb (j - i) 0) refl
        where
          later : (j : ℕ) → next_in (w i) < j → j < count → Same run sets (w j) s c → Latest (bucket_in sets w) (bucket_in sets w i) i (next_in (w i)) → (j ≡ i → ⊥) → (z : Bool) → eqb (j - i) 0 ≡ z → ⊥
          later j a h e l d true z =
              let y = eqb-true (j - i) 0 z in
              l.between j a (omega arith) (same-bucket run sets (w j) s c ok (is.slot j (omega arith) h) of_s e ∙ sym (at.here some))
          later j a h e l d false z = let y = eqb-false (j - i) 0 z in at.passed j (omega arith) h e

  pub search-end : (i : ℕ) → At run sets w count s c i → i ≡ 0 → Finds run sets w count s c None
  search-end i at z = λ j l k e. at.passed j (omega arith) k e

-- ---- equal sets have equal rows, and no others

third-first : (p q s t : Bool) → p && (q && (s && t)) ≡ s && (p && (q && t))
third-first true true s t = refl
third-first true false true t = refl
third-first true false false t = refl
third-first false q true t = refl
third-first false q false t = refl

module _ (run : List ℕ) (g h : List (List ℕ)) (xs ys : List ℕ) where
  sets-are : same_rows (row (set_of run g xs)) (row (set_of run h ys)) ≡ same_bytes (bytes_of_words xs) (bytes_of_words ys) && same_rows (map (grid_value run g) grid_codes) (map (grid_value run h) grid_codes)
  unfolding row set_of computing
  sets-are = third-first (same_bytes (grid_value run g 1088) (grid_value run h 1088)) (same_bytes (grid_value run g 1092) (grid_value run h 1092)) (same_bytes (bytes_of_words xs) (bytes_of_words ys)) _

  sets_same : xs ≡ ys → map (grid_value run g) grid_codes ≡ map (grid_value run h) grid_codes → same_rows (row (set_of run g xs)) (row (set_of run h ys)) ≡ true
  sets_same e f = sets-are ∙ rw (e, f, same-complete (bytes_of_words ys)) (rows_refl (map (grid_value run h) grid_codes))

  sets-back : same_rows (row (set_of run g xs)) (row (set_of run h ys)) ≡ true → (xs ≡ ys) × (map (grid_value run g) grid_codes ≡ map (grid_value run h) grid_codes)
  sets-back e =
      let f = sym sets-are ∙ e in
      let a = same-sound (bytes_of_words xs) (bytes_of_words ys) (and_l (same_bytes (bytes_of_words xs) (bytes_of_words ys)) _ f) in (
        sym (words-bytes_of_words xs) ∙ ap words a ∙ words-bytes_of_words ys,
        rows_eq (map (grid_value run g) grid_codes) (map (grid_value run h) grid_codes) (and_r (same_bytes (bytes_of_words xs) (bytes_of_words ys)) _ f),
      )

-- An entry and the set of a slot and a class, with the numbers of classes of which no two are the same.
module _ (run : List ℕ) (sets : List (List ℕ)) (srlgs : ℕ → List ℕ) (k : ℕ) (differ : Differ srlgs k) (s c : ℕ) (of_c : c < k) (h : List ℕ) (of_h : class_in (get_or h 2 0) < k) where
  entry-values : (entry_group run sets srlgs h).values ≡ row (set_of run (slot_grid sets (slot_in (get_or h 2 0))) (srlgs (class_in (get_or h 2 0))))
  unfolding entry_group group
  entry-values = refl

  abbrev with : Bool
  with = same_rows (entry_group run sets srlgs h).values (row (set_of run (slot_grid sets s) (srlgs c)))

  entry-same : Same run sets (get_or h 2 0) s c → with ≡ true
  entry-same e =
      ap (λ (v : List (List ℕ)). same_rows v (row (set_of run (slot_grid sets s) (srlgs c)))) entry-values
      ∙ sets_same run (slot_grid sets (slot_in (get_or h 2 0))) (slot_grid sets s) (srlgs (class_in (get_or h 2 0))) (srlgs c) (ap srlgs e.class) e.values

  entry-differs : (Same run sets (get_or h 2 0) s c → ⊥) → with ≡ false
  entry-differs d = go with refl
    where
      go : (b : Bool) → with ≡ b → b ≡ false
      go true e =
          let q = sets-back run (slot_grid sets (slot_in (get_or h 2 0))) (slot_grid sets s) (srlgs (class_in (get_or h 2 0))) (srlgs c)
          (ap (λ (v : List (List ℕ)). same_rows v (row (set_of run (slot_grid sets s) (srlgs c)))) (sym entry-values) ∙ e) in
          absurd (d (record { class = differ (class_in (get_or h 2 0)) c of_h of_c q.0; values = q.1 }))
      go false e = refl

-- ---- joining, entry by entry

map_same : (f g : ℕ → Group) (c from : ℕ) → ((j : ℕ) → from ≤ j → j < from + c → f j ≡ g j) → map f (numbers from c) ≡ map g (numbers from c)
unfolding numbers
map_same f g zero from h = refl
map_same f g (suc c) from h = ap₂ (λ (x : Group) (xs : List Group). x ∷ xs) (h from (omega arith) (omega arith)) (map_same f g c (suc from) (λ j a b. h j (omega arith) (omega arith)))

module _ (n : ℕ) (vs : List (List ℕ)) (f g : ℕ → Group) where
  join-at : (c from r : ℕ) → from ≤ r → r < from + c → ((j : ℕ) → from ≤ j → j < r → same_rows (f j).values vs ≡ false) → same_rows (f r).values vs ≡ true
      → ((j : ℕ) → j < from + c → (j ≡ r → ⊥) → g j ≡ f j) → g r ≡ added n (f r) → map g (numbers from c) ≡ join n vs (map f (numbers from c))
  unfolding join numbers
  join-at zero from r a b before there other here = absurd (omega arith)
  join-at (suc c) from r a b before there other here =
      go (eqb from r) refl (λ h. join-at c (suc from) r h (omega arith) (λ j x y. before j (omega arith) y) there (λ j x y. other j (omega arith) y) here)
    where
      go : (t : Bool) → eqb from r ≡ t → (suc from ≤ r → map g (numbers (suc from) c) ≡ join n vs (map f (numbers (suc from) c)))
          → g from ∷ map g (numbers (suc from) c) ≡ cond (same_rows (f from).values vs) (added n (f from) ∷ map f (numbers (suc from) c)) (f from ∷ join n vs (map f (numbers (suc from) c)))
      go true e r' =
          let q = eqb-true from r e in
          rw (ap (λ (i : ℕ). same_rows (f i).values vs) q ∙ there)
          (ap₂ (λ (x : Group) (xs : List Group). x ∷ xs) (ap g q ∙ here ∙ ap (λ (i : ℕ). added n (f i)) (sym q)) (map_same g f c (suc from) (λ j x y. other j (omega arith) (λ z. omega arith))))
      go false e r' =
          let q = eqb-false from r e in
          rw (before from (omega arith) (omega arith)) (ap₂ (λ (x : Group) (xs : List Group). x ∷ xs) (other from (omega arith) q) (r' (omega arith)))

  join-behind : (c from : ℕ) → ((j : ℕ) → from ≤ j → j < from + c → same_rows (f j).values vs ≡ false) → ((j : ℕ) → j < from + c → g j ≡ f j) → g (from + c) ≡ added n (group vs 0 0)
      → map g (numbers from (suc c)) ≡ join n vs (map f (numbers from c))
  unfolding join numbers
  join-behind zero from differ other here = ap (λ (x : Group). x ∷ []) (ap g (sym (add-zero from)) ∙ here)
  join-behind (suc c) from differ other here =
      let e : from + suc c ≡ suc from + c = omega arith in
      rw (differ from (omega arith) (omega arith))
      (ap₂ (λ (x : Group) (xs : List Group). x ∷ xs) (other from (omega arith))
      (join-behind c (suc from) (λ j a b. differ j (omega arith) (omega arith)) (λ j a. other j (omega arith)) (ap g (sym e) ∙ here)))

-- ---- what is left

module _ (run : List ℕ) (sets : List (List ℕ)) (srlgs : ℕ → List ℕ) where
  entry_more : (h : List ℕ) (n : ℕ) → entry_group run sets srlgs (with_member h n) ≡ added n (entry_group run sets srlgs h)
  unfolding entry_group group added with_member
  entry_more h n = refl

  entry_new : (x n s c : ℕ) → slot_in x ≡ s → class_in x ≡ c → entry_group run sets srlgs (with_member (0 ∷ 0 ∷ x ∷ []) n) ≡ added n (group (row (set_of run (slot_grid sets s) (srlgs c))) 0 0)
  unfolding entry_group group added with_member
  entry_new x n s c e f = ap₂ (λ (i j : ℕ). added n (group (row (set_of run (slot_grid sets i) (srlgs j))) 0 0)) e f

-- A member more of the entry r.
module _ (run : List ℕ) (sets groups : List (List ℕ)) (buckets : List ℕ) (count n s c r : ℕ) (ok : Chained run sets (word groups) buckets count) (room : count ≤ length groups)
    (low : 1 ≤ r) (inside : r < count) (same : Same run sets (word groups r) s c) (h : List ℕ) (is : h ≡ with_member (get_or groups r []) n) where
  abbrev groups₁ : List (List ℕ)
  groups₁ = set groups r h

  here : get_or groups₁ r [] ≡ with_member (get_or groups r []) n
  here = get_or-set_same groups r h [] (omega arith) ∙ is

  other : (i : ℕ) → (i ≡ r → ⊥) → get_or groups₁ i [] ≡ get_or groups i []
  other i d = get_or-set_other groups r i h [] d

  word_at : (i : ℕ) → word groups₁ i ≡ word groups i
  unfolding with_member
  word_at i = go (eqb i r) refl
    where
      go : (q : Bool) → eqb i r ≡ q → word groups₁ i ≡ word groups i
      go true e = rw (eqb-true i r e) (ap (λ (l : List ℕ). get_or l 2 0) here)
      go false e = ap (λ (l : List ℕ). get_or l 2 0) (other i (eqb-false i r e))

  there-joins : (srlgs : ℕ → List ℕ) (k : ℕ) → Differ srlgs k → c < k → ((i : ℕ) → 1 ≤ i → i < count → class_in (word groups i) < k)
      → table_groups run sets srlgs groups₁ count ≡ join n (row (set_of run (slot_grid sets s) (srlgs c))) (table_groups run sets srlgs groups count)
  unfolding table_groups
  there-joins srlgs k differ l all =
      join-at n (row (set_of run (slot_grid sets s) (srlgs c))) (λ i. entry_group run sets srlgs (get_or groups i [])) (λ i. entry_group run sets srlgs (get_or groups₁ i [])) (count - 1) 1 r low (omega arith)
      (λ j a b. entry-differs run sets srlgs k differ s c l (get_or groups j []) (all j a (omega arith)) (λ e.
      ok.entries.apart j r a (omega arith) low inside (λ z. omega arith) (both run sets (word groups j) (word groups r) s c e same)))
      (entry-same run sets srlgs k differ s c l (get_or groups r []) (all r low inside) same)
      (λ j a d. ap (entry_group run sets srlgs) (other j d))
      (ap (entry_group run sets srlgs) here ∙ entry_more run sets srlgs (get_or groups r []) n)

  pub joined-there : Joined run sets n s c groups count count groups₁ buckets
  joined-there =
      record {
        chained = subst (λ (w : ℕ → ℕ). Chained run sets w buckets count) (sym (fun_ext word_at)) ok;
        more = omega arith;
        stays = λ i l. word_at i;
        new = λ i a l. absurd (omega arith);
        joins = there-joins;
      }

-- An entry more, behind the others.
latest-same : (p q : ℕ → ℕ) (b i r : ℕ) → ((j : ℕ) → j < i → q j ≡ p j) → Latest p b i r → Latest q b i r
latest-same p q b i r e l =
    record { below = l.below; there = λ n. e r l.below ∙ l.there n; between = λ j a h z. l.between j a h (sym (e j h) ∙ z) }

-- What holds of every entry that was there and of the new one holds of all.
each-entry : (P : ℕ → Type 0) (count : ℕ) → ((i : ℕ) → 1 ≤ i → i < count → P i) → P count → (i : ℕ) → 1 ≤ i → i < suc count → P i
each-entry P count old new i a l = go (eqb i count) refl
  where
    go : (q : Bool) → eqb i count ≡ q → P i
    go true e = rw (eqb-true i count e) new
    go false e = let d = eqb-false i count e in old i a (omega arith)

module _ (run : List ℕ) (sets groups : List (List ℕ)) (buckets : List ℕ) (count n s c : ℕ) (ok : Chained run sets (word groups) buckets count) (room : count < length groups) (few : count < 128) (of_s : IsSet sets s)
    (b x : ℕ) (of_b : b < 128) (is_b : b ≡ bucket_of (slot_mark sets s) c) (is_s : slot_in x ≡ s) (is_c : class_in x ≡ c) (is_n : next_in x ≡ get_or buckets b 0)
    (none : Finds run sets (word groups) count s c None) (h : List ℕ) (is : h ≡ with_member (0 ∷ 0 ∷ x ∷ []) n) where
  abbrev groups₂ : List (List ℕ)
  groups₂ = set groups count h

  abbrev w : ℕ → ℕ
  w = word groups

  abbrev w₂ : ℕ → ℕ
  w₂ = word groups₂

  new_row : get_or groups₂ count [] ≡ with_member (0 ∷ 0 ∷ x ∷ []) n
  new_row = get_or-set_same groups count h [] room ∙ is

  old_row : (i : ℕ) → i < count → get_or groups₂ i [] ≡ get_or groups i []
  old_row i l = get_or-set_other groups count i h [] (λ z. omega arith)

  new_word : w₂ count ≡ x
  unfolding with_member
  new_word = ap (λ (l : List ℕ). get_or l 2 0) new_row

  old-word : (i : ℕ) → i < count → w₂ i ≡ w i
  old-word i l = ap (λ (y : List ℕ). get_or y 2 0) (old_row i l)

  old-bucket : (i : ℕ) → i < count → bucket_in sets w₂ i ≡ bucket_in sets w i
  old-bucket i l = ap (λ (y : ℕ). bucket_of (slot_mark sets (slot_in y)) (class_in y)) (old-word i l)

  new-bucket : bucket_in sets w₂ count ≡ b
  new-bucket = ap (λ (y : ℕ). bucket_of (slot_mark sets (slot_in y)) (class_in y)) new_word ∙ ap₂ (λ (i j : ℕ). bucket_of (slot_mark sets i) j) is_s is_c ∙ sym is_b

  new-next : Latest (bucket_in sets w₂) (bucket_in sets w₂ count) count (next_in (w₂ count))
  new-next =
      subst (λ (y : ℕ). Latest (bucket_in sets w₂) y count (next_in (w₂ count))) (sym new-bucket)
      (subst (λ (y : ℕ). Latest (bucket_in sets w₂) b count y) (sym (ap next_in new_word ∙ is_n)) (latest-same (bucket_in sets w) (bucket_in sets w₂) b count (get_or buckets b 0) old-bucket (ok.first b of_b)))

  old-next : (i : ℕ) → 1 ≤ i → i < count → Latest (bucket_in sets w₂) (bucket_in sets w₂ i) i (next_in (w₂ i))
  old-next i a l =
      subst (λ (y : ℕ). Latest (bucket_in sets w₂) y i (next_in (w₂ i))) (sym (old-bucket i l))
      (subst (λ (y : ℕ). Latest (bucket_in sets w₂) (bucket_in sets w i) i (next_in y)) (sym (old-word i l))
      (latest-same (bucket_in sets w) (bucket_in sets w₂) (bucket_in sets w i) i (next_in (w i)) (λ j k. old-bucket j (omega arith)) (ok.entries.next i a l)))

  -- The same set, of the old entries and the new one.
  abbrev Equal : ℕ → ℕ → Type 0
  Equal x y = Same run sets x (slot_in y) (class_in y)

  new-old : (j : ℕ) → 1 ≤ j → j < count → Equal (w₂ count) (w₂ j) → ⊥
  new-old j a l e =
      let f : Equal x (w j) = subst (λ (y : ℕ). Equal x y) (old-word j l) (subst (λ (y : ℕ). Equal y (w₂ j)) new_word e) in
      none j a l (record { class = sym f.class ∙ is_c; values = sym f.values ∙ ap (slot_values run sets) is_s })

  old-new : (j : ℕ) → 1 ≤ j → j < count → Equal (w₂ j) (w₂ count) → ⊥
  old-new j a l e =
      let f : Equal (w j) x = subst (λ (y : ℕ). Equal (w j) y) new_word (subst (λ (y : ℕ). Equal y (w₂ count)) (old-word j l) e) in
      none j a l (record { class = f.class ∙ is_c; values = f.values ∙ ap (slot_values run sets) is_s })

  all_apart : (i j : ℕ) → 1 ≤ i → i < suc count → 1 ≤ j → j < suc count → (i ≡ j → ⊥) → Equal (w₂ i) (w₂ j) → ⊥
  all_apart i j a k b l =
      each-entry (λ i. (i ≡ j → ⊥) → Equal (w₂ i) (w₂ j) → ⊥) count
      (λ i p q. each-entry (λ j. (i ≡ j → ⊥) → Equal (w₂ i) (w₂ j) → ⊥) count
      (λ j y z d e. ok.entries.apart i j p q y z d (subst (λ (v : ℕ). Equal v (w j)) (old-word i q) (subst (λ (v : ℕ). Equal (w₂ i) v) (old-word j z) e)))
      (λ d e. old-new i p q e) j b l)
      (each-entry (λ j. (count ≡ j → ⊥) → Equal (w₂ count) (w₂ j) → ⊥) count (λ j y z d e. new-old j y z e) (λ d e. d refl) j b l) i a k

  new-first : (d : ℕ) → d < 128 → Latest (bucket_in sets w₂) d (suc count) (get_or (set buckets b count) d 0)
  new-first d l = go (eqb d b) refl
    where
      last : Latest (bucket_in sets w₂) b (suc count) count
      last = record { below = omega arith; there = λ z. new-bucket; between = λ j a k. absurd (omega arith) }

      earlier : (d ≡ b → ⊥) → Latest (bucket_in sets w) d count (get_or buckets d 0) → Latest (bucket_in sets w₂) d (suc count) (get_or buckets d 0)
      earlier z f =
          let low = f.below in
          record { below = omega arith; there = λ p. old-bucket (get_or buckets d 0) low ∙ f.there p; between = λ j a k e. split j a k e (eqb j count) refl }
        where
          split : (j : ℕ) → get_or buckets d 0 < j → j < suc count → bucket_in sets w₂ j ≡ d → (q : Bool) → eqb j count ≡ q → ⊥
          split j a k e true q = z (sym e ∙ ap (bucket_in sets w₂) (eqb-true j count q) ∙ new-bucket)
          split j a k e false q = let y = eqb-false j count q in f.between j a (omega arith) (sym (old-bucket j (omega arith)) ∙ e)

      go : (q : Bool) → eqb d b ≡ q → Latest (bucket_in sets w₂) d (suc count) (get_or (set buckets b count) d 0)
      go true e =
          let o = ok.of_buckets in
          let g = get_or-set_same buckets b count 0 (omega arith) in
          rw (eqb-true d b e) (subst (λ (y : ℕ). Latest (bucket_in sets w₂) b (suc count) y) (sym g) last)
      go false e =
          let g = get_or-set_other buckets b d count 0 (eqb-false d b e) in
          subst (λ (y : ℕ). Latest (bucket_in sets w₂) d (suc count) y) (sym g) (earlier (eqb-false d b e) (ok.first d l))

  new-chained : Chained run sets w₂ (set buckets b count) (suc count)
  new-chained =
      record {
        entries =
            record {
              some = omega arith;
              most = omega arith;
              slot = each-entry (λ i. IsSet sets (slot_in (w₂ i))) count (λ i a l. subst (λ (y : ℕ). IsSet sets (slot_in y)) (sym (old-word i l)) (ok.entries.slot i a l))
                  (subst (λ (y : ℕ). IsSet sets y) (sym (ap slot_in new_word ∙ is_s)) of_s);
              next = each-entry (λ i. Latest (bucket_in sets w₂) (bucket_in sets w₂ i) i (next_in (w₂ i))) count old-next new-next;
              apart = all_apart;
            };
        of_buckets = simp length-set ok.of_buckets;
        first = new-first;
      }

  new-joins : (srlgs : ℕ → List ℕ) (k : ℕ) → Differ srlgs k → c < k → ((i : ℕ) → 1 ≤ i → i < count → class_in (word groups i) < k)
      → table_groups run sets srlgs groups₂ (suc count) ≡ join n (row (set_of run (slot_grid sets s) (srlgs c))) (table_groups run sets srlgs groups count)
  unfolding table_groups
  new-joins srlgs k differ l all =
      let some = ok.entries.some in
      let e : suc count - 1 ≡ suc (count - 1) = omega arith in
      let z : 1 + (count - 1) ≡ count = omega arith in
      ap (λ (j : ℕ). map (λ i. entry_group run sets srlgs (get_or groups₂ i [])) (numbers 1 j)) e
      ∙ join-behind n (row (set_of run (slot_grid sets s) (srlgs c))) (λ i. entry_group run sets srlgs (get_or groups i [])) (λ i. entry_group run sets srlgs (get_or groups₂ i [])) (count - 1) 1
      (λ j a q. entry-differs run sets srlgs k differ s c l (get_or groups j []) (all j a (omega arith)) (none j a (omega arith)))
      (λ j q. ap (entry_group run sets srlgs) (old_row j (omega arith)))
      (ap (λ (j : ℕ). entry_group run sets srlgs (get_or groups₂ j [])) z ∙ ap (entry_group run sets srlgs) new_row ∙ entry_new run sets srlgs x n s c is_s is_c)

  pub joined-new : Joined run sets n s c groups count (suc count) groups₂ (set buckets b count)
  joined-new =
      record {
        chained = new-chained;
        more = omega arith;
        stays = old-word;
        new = λ i a l. let e : i ≡ count = omega arith in rw e (ap slot_in new_word ∙ is_s, ap class_in new_word ∙ is_c);
        joins = new-joins;
      }

  pub joined-more : (r : ℕ) → r ≡ count + 1 → Joined run sets n s c groups count r groups₂ (set buckets b count)
  joined-more r e = let f : suc count ≡ r = omega arith in subst (λ (k : ℕ). Joined run sets n s c groups count k groups₂ (set buckets b count)) f joined-new

-- ---- as the code has it

pub first-of : (run : List ℕ) (sets : List (List ℕ)) (w : ℕ → ℕ) (buckets : List ℕ) (count b k f : ℕ) → Chained run sets w buckets count → b < 128 → b ≡ k → f ≡ get_or buckets b 0 → Latest (bucket_in sets w) k count f
first-of run sets w buckets count b k f ok l e g = subst (λ (y : ℕ). Latest (bucket_in sets w) y count f) e (subst (λ (y : ℕ). Latest (bucket_in sets w) b count y) (sym g) (ok.first b l))

-- The word of a slot, a class and the entry before it.
module _ (s c f : ℕ) (ls : s < 256) (lc : c < 256) where
  abbrev packed : ℕ
  packed = s + 256 * c + 65536 * f

  slot-packed : slot_in packed ≡ s
  slot-packed = omega arith

  class-packed : class_in packed ≡ c
  class-packed = omega arith

  next-packed : next_in packed ≡ f
  next-packed = omega arith

pub joined-last : (run : List ℕ) (sets groups : List (List ℕ)) (buckets : List ℕ) (count n s c : ℕ) → Chained run sets (word groups) buckets count → count < length groups → count < 128 → IsSet sets s → s < 256 → c < 256
    → (b f : ℕ) → b < 128 → b ≡ bucket_of (slot_mark sets s) c → f ≡ get_or buckets b 0 → Finds run sets (word groups) count s c None
    → (h : List ℕ) → h ≡ with_member (0 ∷ 0 ∷ (s + 256 * c + 65536 * f) ∷ []) n → Joined run sets n s c groups count (count + 1) (set groups count h) (set buckets b count)
joined-last run sets groups buckets count n s c ok room few of_s ls lc b f of_b is_b is_f none h is =
    joined-more run sets groups buckets count n s c ok room few of_s b (packed s c f ls lc) of_b is_b (slot-packed s c f ls lc) (class-packed s c f ls lc) (next-packed s c f ls lc ∙ is_f)
    none h is (count + 1) refl
