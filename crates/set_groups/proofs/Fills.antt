-- The table filled with the groups of all named applications: the next one, the table before and after it has joined. Assumes nothing.
use mathlib.Core.Path.{◌≡◌, refl, sym, ◌∙◌, ap, subst}
use mathlib.Core.Bool.{Bool, true, false, ◌&&◌, not, and-true, false≢true}
use mathlib.Core.List.{List, []}
use Prim.Native.Nat.{ℕ, zero, suc, ◌+◌, ◌-◌, ◌≤◌, ◌<◌}
use native.Mathlib.Omega.{arith}
use native.Mathlib.Nat.{sub-zero}
use borrow.Author.Tests.{eqb-false, ne_eqb, ltb-true, ltb-false}
use lib.Dec.{eqb, ltb, eqb-suc-zero}
use lib.ListN.{length, get_or, replicate, get_or-replicate}
use Rattle.linkstate.specs.Lists.{numbers}
use Rattle.linkstate.specs.Masks.{in_number}
use Rattle.linkstate.specs.Meaning.{Meaning, row}
use Rattle.linkstate.proofs.ListLaws.{and_l, and_r}
use Rattle.masks.proofs.Steps.{zero-none}
use Rattle.masks.proofs.LowestBit.{half_in, odd-in}
use Rattle.masks.specs.Sets.{turned_place, Lowest}
use Rattle.masks.proofs.Laws.{walk-next, walk-member}
use Rattle.masks.specs.declared.Applications.{Applications}
use Rattle.masks.specs.Applications.{at_place}
use Rattle.masks.proofs.Sets.{place-low, place-user}
use Rattle.srlg_sources.specs.Classes.{class_of}
use Rattle.grids.specs.Grids.{set_of}
use Rattle.grids.specs.Slots.{slot_grid, slot_of}
use Rattle.set_groups.specs.Groups.{join, groups_below}
use Rattle.set_groups.specs.Table.{word, slot_in, class_in, bucket_in, Latest, table_groups, Joined, left, Named, Owned, Grouped, Begun, Ahead, Filled}
use Rattle.set_groups.proofs.Joined.{joins, skips}
use Rattle.set_groups.proofs.Tlvs.{groups-start}

-- ---- how many are left

module _ (p : ℕ → Bool) where
  left-skip : (from n : ℕ) → from ≤ n → n ≤ 128 → ((j : ℕ) → from ≤ j → j < n → p j ≡ false) → left p from ≡ left p n
  left-skip from n a b none = ap length (walk-next p 128 from n a b none)

  left_one : (n : ℕ) → n < 128 → p n ≡ true → left p n ≡ suc (left p (n + 1))
  left_one n h e = ap length (walk-member p 128 n h e)

-- ---- the table of the applications below one

module _ (run : List ℕ) (sets own : List (List ℕ)) (p : ℕ → Bool) where
  -- Past some that are not named.
  later : (m : Meaning) → ((j : ℕ) → 1 ≤ j → j < 128 → m.named j ≡ p j) → (from n : ℕ) → 1 ≤ from → from ≤ n → n ≤ 128 → ((j : ℕ) → from ≤ j → j < n → p j ≡ false) → groups_below m from ≡ groups_below m n
  later m by from n h low high none =
      let e : from + (n - from) ≡ n = omega arith in
      skips m (n - from) from h (λ j x y. by j (omega arith) (omega arith) ∙ none j x (omega arith)) ∙ ap (groups_below m) e

  no-groups : (srlgs : ℕ → List ℕ) (groups : List (List ℕ)) → table_groups run sets srlgs groups 1 ≡ []
  unfolding table_groups numbers
  no-groups srlgs groups = refl

  pub begun : (groups : List (List ℕ)) (buckets : List ℕ) → buckets ≡ replicate 128 0 → 1 + left p 1 ≤ length groups → Begun run sets own p 1 1 groups buckets
  begun groups buckets z room =
      record {
        low = omega arith;
        high = omega arith;
        chained =
            record {
              entries = record { some = omega arith; most = omega arith; slot = λ i a l. absurd (omega arith); next = λ i a l. absurd (omega arith); apart = λ i j a l. absurd (omega arith) };
              of_buckets = ap length z;
              first = λ b l. subst (λ (y : ℕ). Latest (bucket_in sets (word groups)) b 1 y) (sym (ap (λ (d : List ℕ). get_or d b 0) z ∙ get_or-replicate {A = ℕ} 128 b 0 0 l)) (none b);
            };
        owned = λ i a l. absurd (omega arith);
        grouped = λ srlgs k differ classes m g. no-groups srlgs groups ∙ groups-start m;
        room = room;
      }
    where
      none : (b : ℕ) → Latest (bucket_in sets (word groups)) b 1 0
      none b = record { below = omega arith; there = λ n. absurd (n refl); between = λ j a l. absurd (omega arith) }

  module _ {count : ℕ} {groups : List (List ℕ)} {buckets : List ℕ} where
    pub skipped : {from : ℕ} → Begun run sets own p from count groups buckets → (n : ℕ) → from ≤ n → n ≤ 128 → ((j : ℕ) → from ≤ j → j < n → p j ≡ false) → Begun run sets own p n count groups buckets
    skipped {from} was n a b none =
        let low = was.low in
        let some = was.chained.entries.some in
        let room = was.room in
        let e = left-skip p from n a b none in
        record {
          low = omega arith;
          high = b;
          chained = was.chained;
          owned = was.owned;
          grouped = λ srlgs k differ classes m g. was.grouped srlgs k differ classes m g ∙ later m g.named from n (omega arith) a b none;
          room = omega arith;
        }

    module _ {n : ℕ} (was : Begun run sets own p n count groups buckets) (h : n < 128) (here : p n ≡ true) where
      pub named_here : Named p n
      named_here = let low = was.low in let some = was.chained.entries.some in record { low = omega arith; high = h; passes = here }

      pub one_more : (count < 128) × (count < length groups)
      one_more = let l = left_one p n h here in let room = was.room in let low = was.low in (omega arith, omega arith)

      module _ (s c : ℕ) (es : s ≡ slot_of own n) (ec : c ≡ class_of own n) (r : ℕ) (groups' : List (List ℕ)) (buckets' : List ℕ)
          (j : Joined run sets n s c groups count r groups' buckets') (kept : length groups' ≡ length groups) where
        still-owned : Owned own p groups' r
        still-owned i a l = go (ltb i count) refl
          where
            go : (b : Bool) → ltb i count ≡ b → (n : ℕ) × Named p n × (slot_in (word groups' i) ≡ slot_of own n) × (class_in (word groups' i) ≡ class_of own n)
            go true e =
                let x = ltb-true i count e in
                let o = was.owned i a x in
                (o.0, o.1, ap slot_in (j.stays i x) ∙ o.2, ap class_in (j.stays i x) ∙ o.3)
            go false e = let y = j.new i (ltb-false i count e) l in (n, named_here, y.0 ∙ es, y.1 ∙ ec)

        still-grouped : Grouped run sets own p groups' r (n + 1)
        still-grouped srlgs q differ classes m g =
            let e : row (set_of run (slot_grid sets s) (srlgs c)) ≡ row (m.set n) = rw (es, ec) (g.set n named_here) in
            let low = named_here.low in
            j.joins srlgs q differ (subst (λ (y : ℕ). y < q) (sym ec) (classes n named_here)) (λ i a l. let o = was.owned i a l in subst (λ (y : ℕ). y < q) (sym o.3) (classes o.0 o.1))
            ∙ ap (λ (v : List (List ℕ)). join n v (table_groups run sets srlgs groups count)) e
            ∙ ap (join n (row (m.set n))) (was.grouped srlgs q differ classes m g)
            ∙ joins m g.only n (g.named n low h ∙ here)

        pub goes_on : Begun run sets own p (n + 1) r groups' buckets'
        goes_on =
            let one = left_one p n h here in
            let room = was.room in
            let low = was.low in
            let more = j.more in
            record { low = omega arith; high = omega arith; chained = j.chained; owned = still-owned; grouped = still-grouped; room = omega arith }

    pub filled : Begun run sets own p 128 count groups buckets → Filled run sets own p groups count
    filled was =
        let room = was.room in
        record { some = was.chained.entries.some; most = was.chained.entries.most; room = omega arith; owned = was.owned; grouped = was.grouped }

-- ---- a walk over the bits of a word

one-in : (j : ℕ) → in_number 1 j ≡ eqb j 0
one-in zero = odd-in 1 0 refl
one-in (suc j) = half_in 1 j ∙ zero-none j ∙ sym (eqb-suc-zero j)

module _ {p : ℕ → Bool} {base from x : ℕ} (low : base ≤ 64) (a : Ahead p base from x) where
  pub all-past : x ≡ 0 → (j : ℕ) → from ≤ j → j < base + 64 → p j ≡ false
  all-past e j h l = (a.here j h l).1 ∙ ap (λ (y : ℕ). in_number y (j - base)) e ∙ zero-none (j - base)

  module _ {t rest : ℕ} (r : Lowest 64 x t rest) where
    pub next-low : from ≤ base + t
    next-low = a.past t r.inside r.there

    pub next-here : p (base + t) ≡ true
    next-here =
        let e : base + t - base ≡ t = omega arith in
        let i = r.inside in
        (a.here (base + t) next-low (omega arith)).1 ∙ ap (in_number x) e ∙ r.there

    pub next-none : (j : ℕ) → from ≤ j → j < base + t → p j ≡ false
    next-none j h l = let i = r.inside in let k = a.here j h (omega arith) in k.1 ∙ r.none (j - base) (let b = k.0 in omega arith)

    pub next-ahead : Ahead p base (base + t + 1) rest
    next-ahead = let i = r.inside in let l = next-low in record {
      high = omega arith;
      here = λ j h k.
          let s = a.here j (omega arith) k in
          (s.0, s.1 ∙ sym (r.cleared (j - base) ∙ ap (λ (b : Bool). in_number x (j - base) && not b) (ne_eqb (j - base) t (λ e. let b = s.0 in omega arith)) ∙ and-true (in_number x (j - base))));
      past = λ j h e. further j h (sym (r.cleared j) ∙ e) (ltb t j) refl;
    }
      where
        further : (j : ℕ) → j < 64 → in_number x j && not (eqb j t) ≡ true → (b : Bool) → ltb t j ≡ b → base + t + 1 ≤ base + j
        further j h e true l = let k = ltb-true t j l in omega arith
        further j h e false l = absurd (same j e (ltb-false t j l) (eqb j t) refl)
          where
            same : (j : ℕ) → in_number x j && not (eqb j t) ≡ true → j ≤ t → (b : Bool) → eqb j t ≡ b → ⊥
            same j e k true q = false≢true (sym (ap not q) ∙ and_r (in_number x j) (not (eqb j t)) e)
            same j e k false q = let d = eqb-false j t q in false≢true (sym (r.none j (omega arith)) ∙ and_l (in_number x j) (not (eqb j t)) e)

-- The first word without RSVP-TE, and the second.
module _ (m : Applications) where
  pub ahead-standard : (x : ℕ) → ((n : ℕ) → in_number x n ≡ in_number m.standard n && not (in_number 1 n)) → Ahead (at_place m) 0 1 x
  ahead-standard x e = record {
    high = omega arith;
    here = λ j h l. (omega arith, place-low m j l ∙ sym (ap (in_number x) (sub-zero j) ∙ e j ∙ ap (λ (b : Bool). in_number m.standard j && not b) (one-in j ∙ ne_eqb j 0 (λ z. omega arith)) ∙ and-true (in_number m.standard j)));
    past = λ j h i. go j (sym (e j) ∙ i) (eqb j 0) refl;
  }
    where
      go : (j : ℕ) → in_number m.standard j && not (in_number 1 j) ≡ true → (b : Bool) → eqb j 0 ≡ b → 1 ≤ 0 + j
      go j i true q = absurd (false≢true (sym (ap not (one-in j ∙ q)) ∙ and_r (in_number m.standard j) (not (in_number 1 j)) i))
      go j i false q = let d = eqb-false j 0 q in omega arith

  pub ahead-user : Ahead (at_place m) 64 64 m.user
  ahead-user = record { high = omega arith; here = λ j h l. (h, place-user m j h); past = λ j h e. omega arith }

-- ---- the slot and the class of an application

module _ (own : List (List ℕ)) (n j x : ℕ) (at : j ≡ turned_place n) where
  pub slot_is : x ≡ get_or (get_or own j []) 0 0 → x ≡ slot_of own n
  unfolding slot_of
  slot_is e = e ∙ ap (λ (i : ℕ). get_or (get_or own i []) 0 0) at

  pub class-is : x ≡ get_or (get_or own j []) 1 0 → x ≡ class_of own n
  unfolding class_of
  class-is e = e ∙ ap (λ (i : ℕ). get_or (get_or own i []) 1 0) at

pub filled-as : {run : List ℕ} {sets own groups : List (List ℕ)} {count : ℕ} {p q : ℕ → Bool} → p ≡ q → Filled run sets own p groups count → Filled run sets own q groups count
filled-as {run} {sets} {own} {groups} {count} e f = subst (λ (p : ℕ → Bool). Filled run sets own p groups count) e f
