-- Keys that climb, one after the other: the bits of the sources' numbers so far. Assumes nothing.
use Prim.Native.Nat.{ℕ, ◌+◌, ◌-◌, ◌≤◌, ◌<◌}
use mathlib.Core.Path.{◌≡◌, refl, sym, ◌∙◌, ap, ap₂}
use mathlib.Core.Bool.{Bool, true, false, cond, ◌||◌, ◌&&◌, or-false}
use mathlib.Core.List.{List, [], ◌∷◌, map}
use native.Mathlib.Omega.{arith}
use native.Mathlib.Numerals.{add-one}
use borrow.Author.Tests.{ne_eqb, lt-ltb, le-ltb, ltb-true, ltb-false}
use lib.Dec.{eqb, ltb}
use lib.ListN.{length, get_or, set, take, length-take, length-set}
use lib.Seq.{take-suc, take_all, get_or-take, get_or-set_same, get_or-set_other}
use Rattle.linkstate.specs.Lists.{member, keep}
use Rattle.linkstate.proofs.ListLaws.{map-append, keep_append}
use Rattle.srlg.proofs.Laws.{Order, less, more, same, order}
use Rattle.srlg_ranks.specs.Ranks.{in_words}
use Rattle.srlg_ranks.proofs.Members.{member-distinct, member-append, same_place}
use Rattle.key_sort.specs.Keys.{number, group, Climbs}
use Rattle.key_sort.proofs.Numbers.{Numbered, numbered-ascending, numbered-new, numbered-again, numbered-all, below_new}
use Rattle.srlg_sources.specs.Sources.{source_of, numbers_of, Marked, Ranked}
use Rattle.srlg_sources.proofs.Keying.{of-keys}

-- What the rows have of the first t keys.
pub record Noted (ks values : List ℕ) (rows₀ rows : List (List ℕ)) (t n : ℕ) : Type 0 where
  pub wide : (j : ℕ) → length (get_or rows j []) ≡ length (get_or rows₀ j [])
  pub bits : (j i : ℕ) → length (get_or rows₀ j []) ≡ 18 → i < 1024
      → in_words (get_or rows j []) i ≡ in_words (get_or rows₀ j []) i || (ltb i n && member (get_or values i 0) (numbers_of j (take t ks)))
  pub masks : (j k : ℕ) → 16 ≤ k → get_or (get_or rows j []) k 0 ≡ get_or (get_or rows₀ j []) k 0

pub noted-none : (ks values : List ℕ) (rows : List (List ℕ)) → Noted ks values rows rows 0 0
noted-none ks values rows = record { wide = λ j. refl; bits = λ j i w h. sym (rw (le-ltb i 0 (omega arith)) (or-false (in_words (get_or rows j []) i))); masks = λ j k h. refl }

-- The numbers of a source with the next key.
numbers-next : (ks : List ℕ) (t j w : ℕ) → t < length ks
    → member w (numbers_of j (take (t + 1) ks)) ≡ member w (numbers_of j (take t ks)) || (eqb (source_of (get_or ks t 0)) j && eqb w (number (get_or ks t 0)))
unfolding numbers_of group keep member
numbers-next ks t j w h =
    ap (λ (i : ℕ). member w (numbers_of j (take i ks))) (add-one t) ∙ ap (λ (l : List ℕ). member w (numbers_of j l)) (take-suc ks t 0 h)
    ∙ ap (λ (l : List ℕ). member w (map number l)) (keep_append (λ y. eqb (source_of y) j) (take t ks) (x ∷ []))
    ∙ ap (member w) (map-append number (keep (λ y. eqb (source_of y) j) (take t ks)) (keep (λ y. eqb (source_of y) j) (x ∷ [])))
    ∙ member-append w (numbers_of j (take t ks)) (map number (keep (λ y. eqb (source_of y) j) (x ∷ [])))
    ∙ ap (λ (b : Bool). member w (numbers_of j (take t ks)) || b) (one (eqb (source_of x) j))
  where
    x : ℕ
    x = get_or ks t 0

    one : (b : Bool) → member w (map number (cond b (x ∷ []) [])) ≡ b && eqb w (number x)
    one true = or-false (eqb w (number x))
    one false = refl

-- A turn's numbers: those of one key more, the last of them the key's own; and the bits so far say the same over the new list.
pub record Turned (ks values values' : List ℕ) (t n n' : ℕ) : Type 0 where
  pub numbered : Numbered ks values' (t + 1) n'
  pub some : 0 < n'
  pub latest : get_or values' (n' - 1) 0 ≡ number (get_or ks t 0)
  pub size : length values' ≡ length values
  pub kept : (j i : ℕ) → (ltb i n && member (get_or values i 0) (numbers_of j (take t ks))) ≡ ltb i n' && member (get_or values' i 0) (numbers_of j (take t ks))

module _ (ks values values' : List ℕ) (t n n' : ℕ) (so : Numbered ks values t n) (inside : t < length ks) (climbs : Climbs number ks) where
  abbrev v : ℕ
  v = number (get_or ks t 0)

  kept_new : n < length values → (0 < n → v ≡ get_or values (n - 1) 0 → ⊥) → (j i : ℕ)
      → (ltb i n && member (get_or values i 0) (numbers_of j (take t ks))) ≡ ltb i (n + 1) && member (get_or (set values n v) i 0) (numbers_of j (take t ks))
  kept_new room new j i = go (order i n)
    where
      absent : (b : Bool) → member v (numbers_of j (take t ks)) ≡ b → b ≡ false
      absent false e = refl
      absent true e =
          let f : member v (take n values) ≡ true = ap (member v) so.numbers ∙ member-distinct v (map number (take t ks)) ∙ of-keys v j (take t ks) e in
          absurd (omega (arith, below_new ks values t n so inside climbs v refl (omega arith) new v f))

      go : Order i n → (ltb i n && member (get_or values i 0) (numbers_of j (take t ks))) ≡ ltb i (n + 1) && member (get_or (set values n v) i 0) (numbers_of j (take t ks))
      go (less h) = rw (lt-ltb i n h, lt-ltb i (n + 1) (omega arith), get_or-set_other values n i v 0 (λ e. omega arith))
      go (more h) = rw (le-ltb i n (omega arith), le-ltb i (n + 1) (omega arith))
      go (same e) = rw (e, le-ltb n n (omega arith), lt-ltb n (n + 1) (omega arith), get_or-set_same values n v 0 room) (sym (absent (member v (numbers_of j (take t ks))) refl))

  pub turned-new : n < length values → (0 < n → v ≡ get_or values (n - 1) 0 → ⊥) → values' ≡ set values n v → n' ≡ n + 1 → Turned ks values values' t n n'
  turned-new room new e f =
      let z : n + 1 - 1 ≡ n = omega arith in
      rw (e, f)
      record {
        numbered = numbered-new ks values t n so inside climbs v refl room new;
        some = omega arith;
        latest = rw z (get_or-set_same values n v 0 room);
        size = length-set values n v;
        kept = kept_new room new;
      }

  pub turned-again : 0 < n → n ≤ length values → v ≡ get_or values (n - 1) 0 → values' ≡ values → n' ≡ n → Turned ks values values' t n n'
  turned-again some room again e f =
      rw (e, f)
      record {
        numbered = numbered-again ks values t n so inside climbs v refl some room again;
        some = some;
        latest = sym again;
        size = refl;
        kept = λ j i. refl;
      }

  -- The row of the key's source with the bit of its number.
  module _ (turn : Turned ks values values' t n n') (room : n' ≤ length values') (s : ℕ) (of : s ≡ source_of (get_or ks t 0)) (rows₀ rows rows' : List (List ℕ)) where
    place : (i : ℕ) → eqb i (n' - 1) ≡ ltb i n' && eqb (get_or values' i 0) v
    place i = go (ltb i n') refl
      where
        l : List ℕ
        l = take n' values'

        go : (b : Bool) → ltb i n' ≡ b → eqb i (n' - 1) ≡ b && eqb (get_or values' i 0) v
        go true e =
            let h = ltb-true i n' e in
            let some = turn.some in
            sym (same_place l i (n' - 1) (numbered-ascending ks values' (t + 1) n' turn.numbered) (omega (arith, length-take n' values')) (omega (arith, length-take n' values')))
            ∙ ap₂ eqb (get_or-take n' values' i 0 h) (get_or-take n' values' (n' - 1) 0 (omega arith) ∙ turn.latest)
        go false e = ne_eqb i (n' - 1) (λ f. omega (arith, turn.some, ltb-false i n' e))

    join : (r a b c d : Bool) → (r || (c && a)) || (b && (c && d)) ≡ r || (c && (a || (b && d)))
    join true a b c d = refl
    join false true b true d = refl
    join false false b true d = refl
    join false a true false d = refl
    join false a false false d = refl

    pub noted-next : Marked rows s (n' - 1) rows' → Noted ks values rows₀ rows t n → Noted ks values' rows₀ rows' (t + 1) n'
    noted-next m was =
        record {
          wide = λ j. m.wide j ∙ was.wide j;
          bits = λ j i w h.
              let N = numbers_of j (take t ks) in
              let r = in_words (get_or rows₀ j []) i in
              m.bits j i (was.wide j ∙ w) h
              ∙ ap₂ (λ (x y : Bool). x || y) (was.bits j i w h ∙ ap (λ (x : Bool). r || x) (turn.kept j i)) (ap₂ (λ (x y : Bool). x && y) (ap (λ (k : ℕ). eqb k j) of) (place i))
              ∙ join r (member (get_or values' i 0) N) (eqb (source_of (get_or ks t 0)) j) (ltb i n') (eqb (get_or values' i 0) v)
              ∙ ap (λ (x : Bool). r || (ltb i n' && x)) (sym (numbers-next ks t j (get_or values' i 0) inside));
          masks = λ j k h. m.masks j k h ∙ was.masks j k h;
        }

pub ranked : (ks values : List ℕ) (rows₀ rows : List (List ℕ)) (t n : ℕ) → t ≡ length ks → Numbered ks values t n → Noted ks values rows₀ rows t n → Ranked ks values n rows₀ rows
ranked ks values rows₀ rows t n e so was =
    record {
      few = omega (arith, so.few);
      numbers = numbered-all ks values t n (omega arith) so;
      wide = was.wide;
      bits = λ j i w h. was.bits j i w h ∙ ap (λ (l : List ℕ). in_words (get_or rows₀ j []) i || (ltb i n && member (get_or values i 0) (numbers_of j l))) (take_all t ks (omega arith));
      masks = was.masks;
    }
