-- From keys to ranks: what the ranked sources say of a side. Assumes nothing.
use Prim.Native.Nat.{ℕ, ◌≤◌, ◌<◌, min}
use mathlib.Core.Path.{◌≡◌, refl, sym, ◌∙◌, ap, ap₂}
use mathlib.Core.Bool.{Bool, true, false, ◌&&◌, ◌||◌}
use mathlib.Core.List.{List, [], ◌∷◌, map}
use native.Mathlib.Omega.{arith}
use borrow.Author.Tests.{lt-ltb, le-ltb, ltb-true, ltb-false}
use lib.Dec.{ltb}
use lib.ListN.{length, get_or, take, length-take, get_or-eq_default}
use lib.Seq.{get_or-take}
use Rattle.linkstate.specs.Lists.{numbers, any, member}
use Rattle.linkstate.specs.Bytes.{distinct}
use Rattle.linkstate.specs.Attributes.{Attribute, srlgs}
use Rattle.linkstate.specs.Sides.{Side, names, of_live, general_set}
use Rattle.linkstate.proofs.ListLaws.{and_l, and_r, any-mem, numbers-mem, map-mem, member-mem}
use Rattle.masks.specs.Sets.{turned_place}
use Rattle.srlg.specs.Ascending.{ascending}
use Rattle.srlg.proofs.Laws.{ascending-distinct, distinct-twice}
use Rattle.srlg_ranks.specs.Ranks.{keep_from, in_words, picked}
use Rattle.srlg_ranks.proofs.Laws.{keep-is}
use Rattle.srlg_ranks.proofs.Members.{member-distinct}
use Rattle.srlg_ranks.proofs.Steps.{member-at}
use Rattle.key_sort.specs.Keys.{number}
use Rattle.srlg_sources.specs.Sources.{Small, numbers_of, Ordered}
use Rattle.srlg_sources.proofs.Joins.{any_same}
use Rattle.srlg_sources.proofs.Keying.{of-keys}
use Rattle.srlg_table.specs.Blocks.{named_by, naming}
use Rattle.srlg_classes.specs.Owned.{in_named}
use Rattle.srlg_classes.specs.Sided.{Sourced, carried, Carried}

distinct-srlgs : (ts : List Attribute) → distinct (srlgs ts) ≡ srlgs ts
unfolding srlgs
distinct-srlgs ts = distinct-twice _

-- Some test below n that holds.
any_found : (p : ℕ → Bool) (n : ℕ) → any p (numbers 0 n) ≡ true → (j : ℕ) × (j < n) × (p j ≡ true)
any_found p n e = let (j, m, f) = any-mem p (numbers 0 n) e in (j, omega (arith, (numbers-mem 0 n m).1), f)

carried-key : (rows : List (List ℕ)) (n : ℕ) (keys : List ℕ) (a v : ℕ) → carried rows n keys a v ≡ true → member v (map number keys) ≡ true
unfolding carried
carried-key rows n keys a v e =
    let (j, h, f) = any_found (λ j. naming rows n a j && member v (numbers_of j keys)) 128 e in
    of-keys v j keys (and_r (naming rows n a j) (member v (numbers_of j keys)) f)

module _ (keys : List ℕ) (rows after : List (List ℕ)) (n : ℕ) (side : Side) (vs : List ℕ) (r : ℕ) (so : Carried keys rows n side) (is : Ordered keys vs r rows after) where
  abbrev values : List ℕ
  values = take r vs

  count : length values ≡ r
  count = length-take r vs ∙ (let z : min r (length vs) ≡ r = omega (arith, is.room) in z)

  in-values : (v : ℕ) → member v (map number keys) ≡ true → member v values ≡ true
  in-values v e = ap (member v) is.numbers ∙ member-distinct v (map number keys) ∙ e

  ascends : ascending values ≡ true
  ascends = ap ascending is.numbers ∙ ascending-distinct (map number keys)

  value-at : (i : ℕ) → i < length values → get_or vs i 0 ≡ get_or values i 0
  value-at i h = sym (get_or-take r vs i 0 (omega (arith, count)))

  -- the bits of a source at the place of a number
  bit_at : (j i : ℕ) → j < n → i < length values → i < 1024 → in_words (get_or after j []) i ≡ member (get_or values i 0) (numbers_of j keys)
  bit_at j i h l k =
      is.bits j i (so.wide j h) k
      ∙ ap₂ (λ (a b : Bool). a || b) (so.blank j i h k) (ap₂ (λ (a b : Bool). a && b) (lt-ltb i r (omega (arith, count))) (ap (λ (v : ℕ). member v (numbers_of j keys)) (value-at i l)))

  -- one source that says what some attributes carry
  source-numbers : length keys ≤ 1024 → (j : ℕ) (ts : List Attribute) → j < n → ((v : ℕ) → member v (numbers_of j keys) ≡ member v (srlgs ts)) → picked values (get_or after j []) ≡ srlgs ts
  unfolding picked
  source-numbers few j ts h e =
      keep-is (in_words (get_or after j [])) values (srlgs ts) ascends (λ v m. in-values v (of-keys v j keys (e v ∙ m)))
      (λ i l. bit_at j i h l (omega (arith, count, is.few)) ∙ e (get_or values i 0)) ∙ distinct-srlgs ts

  naming-kept : (a j : ℕ) → naming after n a j ≡ naming rows n a j
  unfolding naming named_by
  naming-kept a j = ap₂ (λ (x y : ℕ). ltb 1 j && (ltb j n && in_words (x ∷ y ∷ []) a)) (is.masks j 16 (omega arith)) (is.masks j 17 (omega arith))

  named-source : (a j : ℕ) → naming rows n a j ≡ true → j < n
  unfolding naming
  named-source a j e = ltb-true j n (and_l (ltb j n) _ (and_r (ltb 1 j) _ e))

  named-bits : length keys ≤ 1024 → (a i : ℕ) → i < length values → in_named after n a i ≡ carried rows n keys a (get_or values i 0)
  unfolding in_named carried
  named-bits few a i l =
      any_same (λ j. naming after n a j && in_words (get_or after j []) i) (λ j. naming rows n a j && member (get_or values i 0) (numbers_of j keys)) 128
      (λ j h. ap (λ (b : Bool). b && in_words (get_or after j []) i) (naming-kept a j) ∙ go j (naming rows n a j) refl)
    where
      go : (j : ℕ) (b : Bool) → naming rows n a j ≡ b → b && in_words (get_or after j []) i ≡ b && member (get_or values i 0) (numbers_of j keys)
      go j true e = bit_at j i (named-source a j e) l (omega (arith, count, is.few))
      go j false e = refl

  named-numbers : length keys ≤ 1024 → (a : ℕ) → a < 128 → keep_from (in_named after n (turned_place a)) 0 values ≡ srlgs (of_live (names a) side)
  named-numbers few a h =
      keep-is (in_named after n (turned_place a)) values (srlgs (of_live (names a) side)) ascends (λ v m. in-values v (among v (so.naming a v h ∙ m)))
      (λ i l. named-bits few (turned_place a) i l ∙ so.naming a (get_or values i 0) h) ∙ distinct-srlgs (of_live (names a) side)
    where
      among : (v : ℕ) → carried rows n keys (turned_place a) v ≡ true → member v (map number keys) ≡ true
      among v e = carried-key rows n keys (turned_place a) v e

  pub sourced : length keys ≤ 1024 → Sourced values after n side
  sourced few =
      record {
        ascends = ascends;
        within = λ j i h l k.
            is.bits j i (so.wide j h) k
            ∙ ap₂ (λ (a b : Bool). a || b) (so.blank j i h k) (ap (λ (a : Bool). a && member (get_or vs i 0) (numbers_of j keys)) (le-ltb i r (omega (arith, count))));
        general = source-numbers few 1 (general_set side) (omega (arith, so.few.0)) so.general;
        naming = named-numbers few;
        by_l = λ a e. source-numbers few 0 side.legacy (omega (arith, so.few.0)) (λ v. so.by_l a v e);
        bare = λ e. source-numbers few 0 side.legacy (omega (arith, so.few.0)) (λ v. so.bare v e);
      }

-- ---- numbers of 32 bits

number_small : (v : ℕ) (keys : List ℕ) → member v (map number keys) ≡ true → v < 4294967296
unfolding number
number_small v keys e = let (x, m, f) = map-mem number keys (member-mem v (map number keys) e) in omega arith

pub values-small : (keys vs : List ℕ) (r : ℕ) (rows after : List (List ℕ)) → Ordered keys vs r rows after → Small (take r vs)
values-small keys vs r rows after is i = go (ltb i (length (take r vs))) refl
  where
    go : (b : Bool) → ltb i (length (take r vs)) ≡ b → get_or (take r vs) i 0 < 4294967296
    go true e =
        number_small (get_or (take r vs) i 0) keys
        (sym (member-distinct (get_or (take r vs) i 0) (map number keys)) ∙ ap (member (get_or (take r vs) i 0)) (sym is.numbers) ∙ member-at (take r vs) i (ltb-true i (length (take r vs)) e))
    go false e = omega (arith, get_or-eq_default (take r vs) 0 {n = i} (ltb-false i (length (take r vs)) e))
