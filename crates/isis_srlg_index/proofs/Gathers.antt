-- The keys and sources of run B, TLV by TLV: one law for each way that a turn can go. Assumes nothing.
use mathlib.Core.Path.{◌≡◌, refl, sym, ap, ap₂, subst, ◌∙◌}
use mathlib.Core.Bool.{Bool, true, false, cond, ◌&&◌, ◌||◌, or-false, and-false, false≢true}
use mathlib.Core.List.{List, [], ◌∷◌, ◌++◌, map, append_assoc, append-nil}
use Prim.Native.Nat.{ℕ, ◌+◌, ◌*◌, ◌/◌, ◌%◌, ◌≤◌, ◌<◌}
use native.Mathlib.Omega.{arith}
use borrow.Author.Tests.{eq-eqb, ne_eqb, lt-ltb, le-ltb}
use lib.Dec.{eqb, ltb}
use lib.Bits.{bit_or}
use lib.ListN.{length, get_or, set, take, replicate, get_or-replicate, length-take, length-set, length-append}
use lib.Seq.{get_or-set_same, get_or-set_other}
use Rattle.linkstate.specs.Lists.{put, each, all, any, keep, numbers, member}
use Rattle.linkstate.specs.Bytes.{words}
use Rattle.linkstate.specs.Masks.{in_number}
use Rattle.linkstate.specs.Attributes.{srlgs}
use Rattle.linkstate.specs.Sides.{Side, names, of_live, general_set}
use Rattle.linkstate.specs.Elements.{Element, elements}
use Rattle.octets.proofs.Laws.{put-nil, put_then, front-is}
use Rattle.masks.specs.Sets.{turned_place}
use Rattle.masks.proofs.Steps.{zero-none}
use Rattle.rules.specs.declared.Names.{Names}
use Rattle.masks.specs.declared.Applications.{Applications}
use Rattle.masks.specs.Applications.{in_set}
use Rattle.masks.proofs.Sets.{place_none, set-none}
use Rattle.rules.proofs.NameLaws.{side-flagged}
use Rattle.srlg.proofs.Laws.{Order, less, more, same, order}
use Rattle.srlg_ranks.specs.Ranks.{in_words}
use Rattle.srlg_ranks.proofs.Bits.{or-none}
use Rattle.srlg_ranks.proofs.Members.{member-append, member-distinct}
use Rattle.key_sort.specs.Keys.{group}
use Rattle.srlg_sources.specs.declared.Keys.{Keys}
use Rattle.srlg_sources.specs.Sources.{Small, key_of, in_rows, numbers_of, source_row, Ordered}
use Rattle.srlg_sources.proofs.Joins.{any_same, any_none, any_some, any_out}
use Rattle.srlg_sources.proofs.Marks.{length-keys}
use Rattle.srlg_sources.proofs.Keying.{numbers-append, numbers-own, numbers-beyond, all_append, all_more, rows_more, own-rows}
use Rattle.srlg_table.specs.Blocks.{named_by, naming}
use Rattle.srlg_table.proofs.Sizes.{low_bit}
use Rattle.srlg_classes.specs.Sided.{carried, Carried}
use Rattle.srlg_classes.proofs.Siding.{both_words}
use Rattle.srlg_classes.proofs.Carrying.{sourced, values-small}
use Rattle.isis.specs.RunB.{side_b, srlg_attribute}
use Rattle.isis_tlvs_238.specs.declared.Which.{Which}
use Rattle.isis_tlvs_238.specs.declared.Which.TheVariants.{Naming, General}
use Rattle.isis_tlvs_238.specs.Selected.{selects, srlg_words, words_in}
use Rattle.isis_tlvs_238.proofs.Tlvs.{words-one}
use Rattle.isis_tlvs_238.proofs.Walks.{AtPlace, live-words}
use Rattle.isis_srlg_index.specs.Sources.{Adds, nothing, generals, source, Gathering, Unused, Legacy, Indexes}
use Rattle.isis_srlg_index.specs.declared.Indexed.{Indexed}

-- ---- more keys of one source

-- The numbers of source j with those of source s.
more_numbers : (j s : ℕ) (K ws : List ℕ) → Small ws → numbers_of j (K ++ map (key_of s) ws) ≡ numbers_of j K ++ cond (eqb s j) ws []
more_numbers j s K ws small = numbers-append j K (map (key_of s) ws) ∙ ap (λ (l : List ℕ). numbers_of j K ++ l) (numbers-own j s ws small)

pub other-numbers : (j s : ℕ) (K ws : List ℕ) → Small ws → (s ≡ j → ⊥) → numbers_of j (K ++ map (key_of s) ws) ≡ numbers_of j K
other-numbers j s K ws small n = more_numbers j s K ws small ∙ ap (λ (b : Bool). numbers_of j K ++ cond b ws []) (ne_eqb s j n) ∙ append-nil (numbers_of j K)

pub own-numbers : (s : ℕ) (K ws : List ℕ) → Small ws → numbers_of s (K ++ map (key_of s) ws) ≡ numbers_of s K ++ ws
own-numbers s K ws small = more_numbers s s K ws small ∙ ap (λ (b : Bool). numbers_of s K ++ cond b ws []) (eq-eqb s s refl)

still-member : (v j s : ℕ) (K ws : List ℕ) → Small ws → member v (numbers_of j K) ≡ true → member v (numbers_of j (K ++ map (key_of s) ws)) ≡ true
still-member v j s K ws small e = ap (member v) (more_numbers j s K ws small) ∙ member-append v (numbers_of j K) (cond (eqb s j) ws []) ∙ rw e

-- Sources that name somebody are neither legacy nor general.
naming-high : (rows : List (List ℕ)) (n a j : ℕ) → j ≤ 1 → naming rows n a j ≡ false
unfolding naming
naming-high rows n a j h = rw (le-ltb 1 j (omega arith))

-- Keys of the first two sources change nothing of what applications are named for.
pub carried-low : (rows : List (List ℕ)) (n s : ℕ) (K ws : List ℕ) → s ≤ 1 → Small ws → (a v : ℕ)
    → carried rows n (K ++ map (key_of s) ws) a v ≡ carried rows n K a v
unfolding carried
carried-low rows n s K ws h small a v =
    any_same (λ j. naming rows n a j && member v (numbers_of j (K ++ map (key_of s) ws))) (λ j. naming rows n a j && member v (numbers_of j K)) 128
    (λ j l. go j (order j 1))
  where
    go : (j : ℕ) → Order j 1 → naming rows n a j && member v (numbers_of j (K ++ map (key_of s) ws)) ≡ naming rows n a j && member v (numbers_of j K)
    go j (more q) = ap (λ (l : List ℕ). naming rows n a j && member v l) (other-numbers j s K ws small (λ e. omega arith))
    go j (less q) = rw (naming-high rows n a j (omega arith))
    go j (same q) = rw (naming-high rows n a j (omega arith))

-- ---- a source more

row-size : (s u : ℕ) → length (source_row s u) ≡ 18
unfolding source_row
row-size s u = length-set (set (replicate 18 0) 16 s) 17 u ∙ length-set (replicate 18 0) 16 s

row-blank : (s u i : ℕ) → i < 1024 → in_words (source_row s u) i ≡ false
unfolding source_row in_words
row-blank s u i h =
    rw (
      get_or-set_other (set (replicate 18 0) 16 s) 17 (i / 64) u 0 (λ e. omega arith),
      get_or-set_other (replicate 18 0) 16 (i / 64) s 0 (λ e. omega arith),
      get_or-replicate {A = ℕ} 18 (i / 64) 0 0 (omega arith),
    )
    (zero-none (i % 64))

module _ (rows : List (List ℕ)) (n s u : ℕ) (high : 1 < n) (low : n < 128) (room : n < length rows) where
  abbrev after : List (List ℕ)
  after = set rows n (source_row s u)

  old_row : (j : ℕ) → (j ≡ n → ⊥) → get_or after j [] ≡ get_or rows j []
  old_row j e = get_or-set_other rows n j (source_row s u) [] e

  new_row : get_or after n [] ≡ source_row s u
  new_row = get_or-set_same rows n (source_row s u) [] room

  pub wide-more : ((j : ℕ) → j < n → length (get_or rows j []) ≡ 18) → (j : ℕ) → j < n + 1 → length (get_or after j []) ≡ 18
  wide-more h j l = go (order j n)
    where
      go : Order j n → length (get_or after j []) ≡ 18
      go (less q) = ap length (old_row j (λ e. omega arith)) ∙ h j q
      go (more q) = absurd (omega arith)
      go (same e) = ap (λ (i : ℕ). length (get_or after i [])) e ∙ ap length new_row ∙ row-size s u

  pub blank-more : ((j i : ℕ) → j < n → i < 1024 → in_words (get_or rows j []) i ≡ false) → (j i : ℕ) → j < n + 1 → i < 1024 → in_words (get_or after j []) i ≡ false
  blank-more h j i l k = go (order j n)
    where
      go : Order j n → in_words (get_or after j []) i ≡ false
      go (less q) = ap (λ (r : List ℕ). in_words r i) (old_row j (λ e. omega arith)) ∙ h j i q k
      go (more q) = absurd (omega arith)
      go (same e) = ap (λ (m : ℕ). in_words (get_or after m []) i) e ∙ ap (λ (r : List ℕ). in_words r i) new_row ∙ row-blank s u i k

  naming-new : (a : ℕ) → naming after (n + 1) a n ≡ in_words (s ∷ u ∷ []) a
  unfolding naming named_by source_row
  naming-new a = rw (lt-ltb 1 n high, lt-ltb n (n + 1) (omega arith), new_row)

  naming-old : (a j : ℕ) → (j ≡ n → ⊥) → naming after (n + 1) a j ≡ naming rows n a j
  unfolding naming named_by
  naming-old a j e = ap₂ (λ (b : Bool) (r : List ℕ). ltb 1 j && (b && in_words (get_or r 16 0 ∷ get_or r 17 0 ∷ []) a)) (bound (order j n)) (old_row j e)
    where
      bound : Order j n → ltb j (n + 1) ≡ ltb j n
      bound (less q) = lt-ltb j (n + 1) (omega arith) ∙ sym (lt-ltb j n q)
      bound (more q) = le-ltb j (n + 1) (omega arith) ∙ sym (le-ltb j n (omega arith))
      bound (same q) = absurd (e q)

  naming-not : (a : ℕ) → naming rows n a n ≡ false
  unfolding naming
  naming-not a = rw (le-ltb n n (omega arith)) (and-false (ltb 1 n))

  pub carried-more : (K ws : List ℕ) → Small ws → all (in_rows n) K ≡ true → (a v : ℕ)
      → carried after (n + 1) (K ++ map (key_of n) ws) a v ≡ (in_words (s ∷ u ∷ []) a && member v ws) || carried rows n K a v
  unfolding carried
  carried-more K ws small inside a v =
      any_out (λ j. naming after (n + 1) a j && member v (numbers_of j (K ++ map (key_of n) ws))) (λ j. naming rows n a j && member v (numbers_of j K)) 128 n low
      (λ j l e. sym (ap₂ (λ (x y : Bool). x && y) (naming-old a j e) (ap (member v) (other-numbers j n K ws small (λ f. e (sym f))))))
      (ap (λ (b : Bool). b && member v (numbers_of n K)) (naming-not a))
      ∙ ap (λ (b : Bool). b || any (λ j. naming rows n a j && member v (numbers_of j K)) (numbers 0 128))
      (ap₂ (λ (x y : Bool). x && y) (naming-new a)
      (ap (member v) (own-numbers n K ws small ∙ ap (λ (l : List ℕ). l ++ ws) (numbers-beyond n n K (omega arith) inside))))

-- ---- a turn

member-cond : (v : ℕ) (b : Bool) (ws : List ℕ) → member v (cond b ws []) ≡ b && member v ws
unfolding member
member-cond v true ws = refl
member-cond v false ws = refl

first_member : (ws : List ℕ) → 0 < length ws → (v : ℕ) × (member v ws ≡ true)
unfolding member
first_member [] h = absurd (omega arith)
first_member (w ∷ ws) h = (w, rw (eq-eqb w w refl))

swap : (x y z : Bool) → (x || y) || z ≡ y || (x || z)
swap true true z = refl
swap true false z = refl
swap false y z = refl

module _ (b : List ℕ) {es rest : List Element} {x : Element} (is : es ≡ x ∷ rest) (at next : ℕ) (keys₀ keys : List ℕ) (rows : List (List ℕ)) (k : Keys)
    (so : Gathering b es at keys₀ keys rows k) (low : k.sources < 128) where
  abbrev K : List ℕ
  K = so.written

  step : (w : Which) → each (words_in w) es ≡ words_in w x ++ each (words_in w) rest
  unfolding each
  step w = ap (each (words_in w)) is

  none-step : (w : Which) → words_in w x ≡ [] → each (words_in w) rest ≡ each (words_in w) es
  none-step w e = sym (step w ∙ ap (λ (l : List ℕ). l ++ each (words_in w) rest) e)

  pub gathering-next : (r : Keys) (keys' : List ℕ) (rows' : List (List ℕ)) → r.count ≤ length keys₀ → 27 * r.sources ≤ 54 + next
      → (k.sources + 1 ≤ r.sources → k.sources < length rows)
      → Adds x keys rows k r keys' rows' → Gathering b rest next keys₀ keys' rows' r
  gathering-next r keys' rows' fits few room (nothing no_names no-general e f g) =
      rw (e, f, g)
      record {
        written = K;
        count = so.count;
        list = so.list;
        few = (so.few.0, rw e at few);
        low = so.low;
        wide = so.wide;
        blank = so.blank;
        none = so.none;
        filled = so.filled;
        general = ap (λ (l : List ℕ). numbers_of 1 K ++ l) (none-step General no-general) ∙ so.general;
        naming = λ a v h. ap (λ (l : List ℕ). carried rows k.sources K (turned_place a) v || member v l) (none-step (Naming a) (no_names a))
            ∙ so.naming a v h;
      }
  gathering-next r keys' rows' fits few room (generals no_names small count e f g) =
      let ws = words_in General x in
      let added = map (key_of 1) ws in
      let two = so.few.0 in
      record {
        written = K ++ added;
        count = omega (arith, count, so.count, length-append K added, length-keys 1 ws);
        list = put_then keys₀ keys keys' 0 K k.count added so.list f (omega (arith, so.count)) (omega (arith, count, length-keys 1 ws));
        few = (omega arith, few);
        low = rw e (all_append (in_rows k.sources) K added so.low (own-rows 1 k.sources ws (omega arith) small));
        wide = rw (e, g) so.wide;
        blank = rw (e, g) so.blank;
        none = other-numbers 0 1 K ws small (λ z. omega arith) ∙ so.none;
        filled = λ j h l. let (v, m) = so.filled j h (omega arith) in (v, still-member v j 1 K ws small m);
        general = ap (λ (l : List ℕ). l ++ each (words_in General) rest) (own-numbers 1 K ws small)
            ∙ append_assoc (numbers_of 1 K) ws (each (words_in General) rest)
            ∙ ap (λ (l : List ℕ). numbers_of 1 K ++ l) (sym (step General)) ∙ so.general;
        naming = λ a v h.
            ap₂ (λ (x y : Bool). x || y) (ap₂ (λ (q : List (List ℕ)) (n : ℕ). carried q n (K ++ added) (turned_place a) v) g e
            ∙ carried-low rows k.sources 1 K ws (omega arith) small (turned_place a) v)
            (ap (member v) (none-step (Naming a) (no_names a))) ∙ so.naming a v h;
      }
  gathering-next r keys' rows' fits few room (source who ws some small named no-general count e f g) =
      let n = k.sources in
      let added = map (key_of n) ws in
      let two = so.few.0 in
      let l = room (omega arith) in
      record {
        written = K ++ added;
        count = omega (arith, count, so.count, length-append K added, length-keys n ws);
        list = put_then keys₀ keys keys' 0 K k.count added so.list f (omega (arith, so.count)) (omega (arith, count, length-keys n ws));
        few = (omega arith, few);
        low = rw e (all_append (in_rows (n + 1)) K added (all_more (in_rows n) (in_rows (n + 1)) K (λ x. rows_more n (n + 1) x (omega arith)) so.low)
            (own-rows n (n + 1) ws (omega arith) small));
        wide = rw (e, g) (wide-more rows n who.standard who.user (omega arith) low l so.wide);
        blank = rw (e, g) (blank-more rows n who.standard who.user (omega arith) low l so.blank);
        none = other-numbers 0 n K ws small (λ z. omega arith) ∙ so.none;
        filled = λ j h p. filled_at j h (order j n) (rw e at p);
        general = ap (λ (l : List ℕ). l ++ each (words_in General) rest) (other-numbers 1 n K ws small (λ z. omega arith))
            ∙ ap (λ (l : List ℕ). numbers_of 1 K ++ l) (none-step General no-general) ∙ so.general;
        naming = λ a v h.
            ap₂ (λ (x y : Bool). x || y) (ap₂ (λ (q : List (List ℕ)) (m : ℕ). carried q m (K ++ added) (turned_place a) v) g e
            ∙ carried-more rows n who.standard who.user (omega arith) low l K ws small so.low (turned_place a) v) refl
            ∙ swap (in_words (who.standard ∷ who.user ∷ []) (turned_place a) && member v ws) (carried rows n K (turned_place a) v)
            (member v (each (words_in (Naming a)) rest))
            ∙ ap (λ (x : Bool). carried rows n K (turned_place a) v || x)
            (ap (λ (x : Bool). (x && member v ws) || member v (each (words_in (Naming a)) rest)) (sym (both_words who a h))
            ∙ sym (ap (member v) (step (Naming a)) ∙ member-append v (words_in (Naming a) x) (each (words_in (Naming a)) rest)
            ∙ ap (λ (x : Bool). x || member v (each (words_in (Naming a)) rest)) (ap (member v) (named a) ∙ member-cond v (in_set who a) ws)))
            ∙ so.naming a v h;
      }
    where
      filled_at : (j : ℕ) → 1 < j → Order j k.sources → j < k.sources + 1 → (v : ℕ) × (member v (numbers_of j (K ++ map (key_of k.sources) ws)) ≡ true)
      filled_at j h (less q) p = let (v, m) = so.filled j h q in (v, still-member v j k.sources K ws small m)
      filled_at j h (more q) p = absurd (omega arith)
      filled_at j h (same q) p =
          let (v, m) = first_member ws some in (
            v,
            ap (λ (i : ℕ). member v (numbers_of i (K ++ map (key_of k.sources) ws))) q
                ∙ ap (member v) (own-numbers k.sources K ws small
                ∙ ap (λ (l : List ℕ). l ++ ws) (numbers-beyond k.sources k.sources K (omega arith) so.low)) ∙ m,
          )

-- What a turn of the loop keeps, with the elements that are left.
pub record Kept (b : List ℕ) (es : List Element) (keys₀ keys : List ℕ) (rows₀ rows : List (List ℕ)) (k : Keys) : Type 0 where
  pub at : AtPlace b es 0 k.count
  pub keys_length : length keys ≡ length keys₀
  pub rows_length : length rows ≡ length rows₀
  pub so : Gathering b es at.place keys₀ keys rows k

-- ---- before the first TLV

abbrev pub blank-row : List ℕ
blank-row = replicate 18 0

blank-bits : (i : ℕ) → i < 1024 → in_words blank-row i ≡ false
unfolding in_words
blank-bits i h = rw (get_or-replicate {A = ℕ} 18 (i / 64) 0 0 (omega arith)) (zero-none (i % 64))

no-numbers : (j : ℕ) → numbers_of j [] ≡ []
unfolding numbers_of group keep
no-numbers j = refl

none-carried : (rows : List (List ℕ)) (n a v : ℕ) → carried rows n [] a v ≡ false
unfolding carried member
none-carried rows n a v = any_none (λ j. naming rows n a j && member v (numbers_of j [])) 128
    (λ j h. ap (λ (l : List ℕ). naming rows n a j && member v l) (no-numbers j) ∙ and-false (naming rows n a j))

pub gathering-start : (b : List ℕ) {es : List Element} → es ≡ elements 1 0 b → (keys : List ℕ) (rows : List (List ℕ)) (k : Keys) → 2 ≤ length rows → k.count ≡ 0 → k.sources ≡ 2
    → Gathering b es 0 keys keys (set (set rows 0 blank-row) 1 blank-row) k
unfolding all
gathering-start b {es} e keys rows k room count sources =
    record {
      written = [];
      count = count;
      list = put-nil keys 0;
      few = (omega arith, omega arith);
      low = refl;
      wide = λ j h. ap length (at j (rw sources at h));
      blank = λ j i h l. ap (λ (r : List ℕ). in_words r i) (at j (rw sources at h)) ∙ blank-bits i l;
      none = no-numbers 0;
      filled = λ j h l. absurd (omega arith);
      general = ap (λ (l : List ℕ). l ++ each (words_in General) es) (no-numbers 1) ∙ ap (each (words_in General)) e;
      naming = λ a v h. ap (λ (x : Bool). x || member v (each (words_in (Naming a)) es))
          (none-carried (set (set rows 0 blank-row) 1 blank-row) k.sources (turned_place a) v)
          ∙ ap (λ (es : List Element). member v (each (words_in (Naming a)) es)) e;
    }
  where
    at : (j : ℕ) → j < 2 → get_or (set (set rows 0 blank-row) 1 blank-row) j [] ≡ blank-row
    at j h = go (order j 1)
      where
        go : Order j 1 → get_or (set (set rows 0 blank-row) 1 blank-row) j [] ≡ blank-row
        go (less q) =
            let z : j ≡ 0 = omega arith in
            get_or-set_other (set rows 0 blank-row) 1 j blank-row [] (λ e. omega arith) ∙ ap (λ (i : ℕ). get_or (set rows 0 blank-row) i []) z
            ∙ get_or-set_same rows 0 blank-row [] (omega arith)
        go (more q) = absurd (omega arith)
        go (same e) = ap (λ (i : ℕ). get_or (set (set rows 0 blank-row) 1 blank-row) i []) e
            ∙ get_or-set_same (set rows 0 blank-row) 1 blank-row [] (omega (arith, length-set rows 0 blank-row))

-- ---- all of run B, and run C

pub gathering-end : (b : List ℕ) {es : List Element} (at : ℕ) (keys₀ keys : List ℕ) (rows : List (List ℕ)) (k : Keys) → es ≡ [] → at ≤ length b
    → Gathering b es at keys₀ keys rows k → Gathering b [] (length b) keys₀ keys rows k
gathering-end b {es} at keys₀ keys rows k e h before =
    let so : Gathering b [] at keys₀ keys rows k = subst (λ (es : List Element). Gathering b es at keys₀ keys rows k) e before in
    record {
      written = so.written;
      count = so.count;
      list = so.list;
      few = (so.few.0, omega (arith, so.few.1));
      low = so.low;
      wide = so.wide;
      blank = so.blank;
      none = so.none;
      filled = so.filled;
      general = so.general;
      naming = so.naming;
    }

-- A source that names RSVP-TE and has a number gives it to RSVP-TE.
named-carried : (rows : List (List ℕ)) (n : ℕ) (K : List ℕ) (j v : ℕ) → 1 < j → j < n → n ≤ 128 → named_by rows j 7 ≡ true → member v (numbers_of j K) ≡ true
    → carried rows n K (turned_place 0) v ≡ true
unfolding carried naming turned_place
named-carried rows n K j v h l m e f =
    any_some (λ j. ltb 1 j && (ltb j n && named_by rows j 7) && member v (numbers_of j K)) 128 j (omega arith) (rw (lt-ltb 1 j h, lt-ltb j n l, e, f))

no_member : (v : ℕ) (l : List ℕ) → l ≡ [] → member v l ≡ false
unfolding member
no_member v l e = rw e

legacy-words : (b c : List ℕ) (v : ℕ) → member v (words c) ≡ member v (srlgs (side_b b c).legacy)
unfolding side_b srlgs srlg_words
legacy-words b c v = sym (member-distinct v (srlg_words (srlg_attribute 0 c ∷ [])) ∙ ap (member v) (words-one 0 c))

module _ (b c : List ℕ) (named : Names) (keys₀ keys : List ℕ) (rows : List (List ℕ)) (k : Keys) (is : Legacy b c named keys₀ keys rows k)
    (room : k.sources ≤ length rows) where
  abbrev so : Gathering b [] (length b) keys₀ keys rows k
  so = is.gathered

  abbrev K' : List ℕ
  K' = so.written

  -- what one kind of TLVs carries together
  all_words : (w : Which) (v : ℕ) → member v (each (words_in w) (elements 1 0 b)) ≡ member v (srlgs (of_live (selects w) (side_b b c)))
  unfolding srlgs srlg_words
  all_words w v = ap (member v) (live-words w b c) ∙ sym (member-distinct v (srlg_words (of_live (selects w) (side_b b c))))

  general-all : (v : ℕ) → member v (numbers_of 1 K') ≡ member v (srlgs (general_set (side_b b c)))
  unfolding general_set selects each
  general-all v =
      ap (member v) (sym (append-nil (numbers_of 1 K')) ∙ so.general) ∙ all_words General v

  naming-all : (a v : ℕ) → a < 128 → carried rows k.sources K' (turned_place a) v ≡ member v (srlgs (of_live (names a) (side_b b c)))
  unfolding selects member each
  naming-all a v h =
      sym (or-false (carried rows k.sources K' (turned_place a) v))
      ∙ so.naming a v h ∙ all_words (Naming a) v

  sources-few : k.sources ≤ 128
  sources-few = omega (arith, so.few.1, is.short)

  front : (K keys' : List ℕ) (n : ℕ) → n ≡ length K → keys' ≡ put keys₀ 0 K → length K ≤ length keys₀ → take n keys' ≡ K
  front K keys' n e f h = ap₂ (λ (i : ℕ) (l : List ℕ). take i l) e f ∙ front-is keys₀ K (omega arith)

  -- without run C
  pub carried-unused : k.count ≤ length keys → Unused named rows k.sources → Carried (take k.count keys) rows k.sources (side_b b c)
  carried-unused fits un =
      rw (front K' keys k.count so.count so.list (omega (arith, so.count, is.size)))
      record {
        few = (so.few.0, sources-few, room);
        low = so.low;
        wide = so.wide;
        blank = so.blank;
        general = general-all;
        naming = naming-all;
        by_l = λ a v e. absurd (false≢true (sym (un.nobody a) ∙ side-flagged (side_b b c) named is.tells a ∙ e));
        bare = λ v e. absurd (has_some e);
      }
    where
      has_some : srlgs (of_live (names 0) (side_b b c)) ≡ [] → ⊥
      has_some e =
          let (j, h, l, m) = un.source in
          let (v, w) = so.filled j h l in
          false≢true (sym (no_member v (srlgs (of_live (names 0) (side_b b c))) e) ∙ sym (naming-all 0 v (omega arith))
          ∙ named-carried rows k.sources K' j v h l sources-few m w)

  -- with it
  pub carried-used : (r : Keys) (keys' : List ℕ) → r.count ≡ k.count + length (words c) → r.sources ≡ k.sources
      → keys' ≡ put keys k.count (map (key_of 0) (words c)) → Small (words c) → r.count ≤ length keys
      → Carried (take r.count keys') rows r.sources (side_b b c)
  carried-used r keys' e f g small fits =
      let ws = words c in
      let added = map (key_of 0) ws in
      let two = so.few.0 in
      let same = is.size in
      let whole : keys' ≡ put keys₀ 0 (K' ++ added) = put_then keys₀ keys keys' 0 K' k.count added so.list g (omega (arith, so.count))
      (omega (arith, length-keys 0 ws)) in
      rw (
        front (K' ++ added) keys' r.count (omega (arith, so.count, length-append K' added, length-keys 0 ws)) whole
            (omega (arith, so.count, length-append K' added, length-keys 0 ws)),
        f,
      )
      record {
        few = (so.few.0, sources-few, room);
        low = all_append (in_rows k.sources) K' added so.low (own-rows 0 k.sources ws (omega arith) small);
        wide = so.wide;
        blank = so.blank;
        general = λ v. ap (member v) (other-numbers 1 0 K' ws small (λ z. omega arith)) ∙ general-all v;
        naming = λ a v h. carried-low rows k.sources 0 K' ws (omega arith) small (turned_place a) v ∙ naming-all a v h;
        by_l = λ a v q. legacy v;
        bare = λ v q. legacy v;
      }
    where
      legacy : (v : ℕ) → member v (numbers_of 0 (K' ++ map (key_of 0) (words c))) ≡ member v (srlgs (side_b b c).legacy)
      legacy v = ap (member v) (own-numbers 0 K' (words c) small ∙ ap (λ (l : List ℕ). l ++ words c) so.none) ∙ legacy-words b c v

-- ---- whether run C is read

-- RSVP-TE is bit 7 of a standard mask as sent.
pub named-seven : (rows : List (List ℕ)) (j : ℕ) → named_by rows j 7 ≡ in_number (get_or (get_or rows j []) 16 0) 7
unfolding named_by
named-seven rows j = low_bit (get_or (get_or rows j []) 16 0) (get_or (get_or rows j []) 17 0) 7 (omega arith)

pub nobody-flagged : (m : Applications) → bit_or m.standard m.user ≡ 0 → (n : ℕ) → in_set m n ≡ false
nobody-flagged m e n = let (a, b) = or-none m.standard m.user e in set-none m (place_none m a b) n

-- ---- all in order

pub low_rows : (keys : List ℕ) (rows : List (List ℕ)) (n : ℕ) (side : Side) → Carried keys rows n side → all (in_rows (length rows)) keys ≡ true
low_rows keys rows n side told = all_more (in_rows n) (in_rows (length rows)) keys (λ x. rows_more n (length rows) x told.few.2) told.low

pub indexes : (side : Side) (keys values : List ℕ) (rows ranked : List (List ℕ)) (m : ℕ) (r : Indexed) → Carried (take m keys) rows r.sources side
    → Ordered (take m keys) values r.count rows ranked → m ≤ 768 → length ranked ≡ length rows → Indexes side values ranked r
indexes side keys values rows ranked m r told is few size =
    let short : length (take m keys) ≤ 768 = omega (arith, length-take m keys) in
    record {
      sourced = sourced (take m keys) rows ranked r.sources side values r.count told is (omega arith);
      small = values-small (take m keys) values r.count rows ranked is;
      few = (omega (arith, is.few), is.room);
      used = (told.few.0, told.few.1, omega (arith, told.few.2));
    }
