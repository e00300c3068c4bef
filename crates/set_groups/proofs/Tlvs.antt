-- The ASLA TLVs of the groups that all named applications make are those of the export (rules L3, L7). Assumes nothing.
use mathlib.Core.Path.{◌≡◌, refl, sym, ◌∙◌, ap, ap₂}
use mathlib.Core.Bool.{Bool, true, false, cond, ◌&&◌}
use mathlib.Core.List.{List, [], ◌∷◌, ◌++◌, map, append-nil}
use Prim.Native.Nat.{ℕ, zero, suc, ◌+◌, ◌-◌, ◌≤◌, ◌<◌}
use native.Mathlib.Omega.{arith}
use borrow.Author.Tests.{lt-ltb, ltb-true, ltb-false}
use lib.Dec.{eqb, ltb}
use Rattle.linkstate.specs.Lists.{numbers, keep, each}
use Rattle.linkstate.proofs.ListLaws.{keep_append, keep-no, numbers-mem}
use Rattle.linkstate.specs.Kinds.{application_codes}
use Rattle.linkstate.specs.Masks.{user, others, as_number, in_number, mask_size, mask}
use Rattle.linkstate.specs.Meaning.{Meaning, row}
use Rattle.linkstate.specs.Export.{Tlv, tlv, bytes_of, present, asla_value, leader, in_group, leaders, group_value}
use Rattle.masks.proofs.Laws.{in-number, size_same, mask-same}
use Rattle.kinds.proofs.Computing.{computing}
use Rattle.masks.specs.Sets.{turned_place}
use Rattle.masks.proofs.Steps.{turned-back, turned-below}
use Rattle.masks.specs.declared.Applications.{Applications}
use Rattle.masks.specs.Applications.{in_set}
use Rattle.set_groups.specs.Groups.{group, value_in, group_tlv, group_below, groups_below}

-- ---- an ASLA depends on the 128 applications and the eleven kinds only

pub asla-same : (p q : ℕ → Bool) (f : ℕ → List ℕ) → ((n : ℕ) → n < 128 → p n ≡ q n) → asla_value p f ≡ asla_value q f
unfolding asla_value user
asla-same p q f h =
    let low : (n : ℕ) → n < 64 → p n ≡ q n = λ n l. h n (omega arith) in
    let high : (n : ℕ) → n < 64 → p (64 + n) ≡ q (64 + n) = λ n l. h (64 + n) (omega arith) in
    let a = size_same p q low in
    let b = size_same (λ n. p (64 + n)) (λ n. q (64 + n)) high in
    let c = mask-same p q low in
    let d = mask-same (λ n. p (64 + n)) (λ n. q (64 + n)) high in
    rw (a, b, c, d)

pub present-same : (f g : ℕ → List ℕ) (ks : List ℕ) → map f ks ≡ map g ks → present ks f ≡ present ks g
unfolding present
present-same f g [] e = refl
present-same f g (k ∷ ks) e =
    let h : f k ≡ g k = cc in
    let t : map f ks ≡ map g ks = cc in
    rw (h, present-same f g ks t)

pub asla-row : (p : ℕ → Bool) (f g : ℕ → List ℕ) → row f ≡ row g → asla_value p f ≡ asla_value p g
unfolding asla_value row
asla-row p f g e = ap (λ (ts : List Tlv). mask_size p ∷ mask_size (λ n. p (user n)) ∷ 0 ∷ 0 ∷ mask p ++ mask (λ n. p (user n)) ++ each bytes_of ts) (present-same f g application_codes e)

-- The set of the values of a set.
row_back : (f : ℕ → List ℕ) → row (value_in (row f)) ≡ row f
unfolding value_in row computing
row_back f = refl

-- The TLV of a group by any set of its values.
pub tlv-is : (f : ℕ → List ℕ) (s u : ℕ) → group_tlv (group (row f) s u) ≡ bytes_of (tlv 1122 (asla_value (in_set (record { standard = s; user = u })) f))
unfolding group_tlv group
tlv-is f s u = ap (λ (v : List ℕ). bytes_of (tlv 1122 v)) (asla-row (in_set (record { standard = s; user = u })) (value_in (row f)) f (row_back f))

-- ---- the groups of all

pub each_map : {A B C : Type 0} (g : C → List B) (h : A → C) (xs : List A) → each g (map h xs) ≡ each (λ x. g (h x)) xs
unfolding each
each_map g h [] = refl
each_map {B = B} g h (x ∷ xs) = ap (λ (l : List B). g (h x) ++ l) (each_map g h xs)

pub each-ext : {A B : Type 0} (f g : A → List B) (xs : List A) → ((x : A) → f x ≡ g x) → each f xs ≡ each g xs
unfolding each
each-ext f g [] h = refl
each-ext {B = B} f g (x ∷ xs) h = ap₂ (λ (l k : List B). l ++ k) (h x) (each-ext f g xs h)

module _ (p : ℕ → Bool) where
  abbrev standards : ℕ
  standards = as_number (λ i. ltb (turned_place i) 128 && p (turned_place i))

  abbrev users : ℕ
  users = as_number (λ i. ltb (user (turned_place i)) 128 && p (user (turned_place i)))

  abbrev these : Applications
  these = record { standard = standards; user = users }

  members-are : (n : ℕ) → n < 128 → in_set these n ≡ p n
  unfolding in_set user
  members-are n h = go (ltb n 64) refl
    where
      go : (b : Bool) → ltb n 64 ≡ b → cond b (in_number standards (turned_place n)) (in_number users (turned_place (n - 64))) ≡ p n
      go true e =
          let l = ltb-true n 64 e in
          in-number (λ i. ltb (turned_place i) 128 && p (turned_place i)) (turned_place n) (turned-below n l) ∙ ap (λ (i : ℕ). ltb i 128 && p i) (turned-back n) ∙ rw (lt-ltb n 128 h)
      go false e =
          let x = ltb-false n 64 e in
          let z : 64 + (n - 64) ≡ n = omega arith in
          in-number (λ i. ltb (64 + turned_place i) 128 && p (64 + turned_place i)) (turned_place (n - 64)) (turned-below (n - 64) (omega arith))
          ∙ ap (λ (i : ℕ). ltb (64 + i) 128 && p (64 + i)) (turned-back (n - 64)) ∙ ap (λ (i : ℕ). ltb i 128 && p i) z ∙ rw (lt-ltb n 128 h)

-- A row of numbers is two rows.
numbers-split : (a k n : ℕ) → numbers a (k + n) ≡ numbers a k ++ numbers (a + k) n
unfolding numbers
numbers-split a zero n = let e : 0 + n ≡ n = omega arith in let f : a + 0 ≡ a = omega arith in rw (e, f)
numbers-split a (suc k) n =
    let e : suc k + n ≡ suc (k + n) = omega arith in
    let f : a + suc k ≡ suc a + k = omega arith in
    rw (e, f) (ap (λ (l : List ℕ). a ∷ l) (numbers-split (suc a) k n))

module _ (m : Meaning) where
  -- Nobody from 96 on is named, so nobody there leads.
  all-leaders : ((n : ℕ) → m.named n ≡ true → n < 96) → keep (λ a. in_group m a a) (numbers 1 127) ≡ leaders m
  unfolding leaders others in_group
  all-leaders low =
      ap (keep (λ a. m.named a && eqb (leader m a) a)) (numbers-split 1 95 32)
      ∙ keep_append (λ a. m.named a && eqb (leader m a) a) (numbers 1 95) (numbers 96 32)
      ∙ ap (λ (l : List ℕ). keep (λ a. m.named a && eqb (leader m a) a) (numbers 1 95) ++ l)
      (keep-no (λ a. m.named a && eqb (leader m a) a) (numbers 96 32) (λ a i. unnamed a (numbers-mem 96 32 i).0 (m.named a) refl))
      ∙ append-nil (keep (λ a. m.named a && eqb (leader m a) a) (numbers 1 95))
    where
      unnamed : (a : ℕ) → 96 ≤ a → (b : Bool) → m.named a ≡ b → b && eqb (leader m a) a ≡ false
      unnamed a h true e = let l = low a e in absurd (omega arith)
      unnamed a h false e = refl

  one-tlv : (l : ℕ) → group_tlv (group_below m 128 l) ≡ bytes_of (tlv 1122 (group_value m l))
  unfolding group_below group_value
  one-tlv l =
      tlv-is (m.set l) (standards (in_group m l)) (users (in_group m l))
      ∙ ap (λ (v : List ℕ). bytes_of (tlv 1122 v)) (asla-same (in_set (these (in_group m l))) (in_group m l) (m.set l) (members-are (in_group m l)))

  pub groups-are : ((n : ℕ) → m.named n ≡ true → n < 96) → each group_tlv (groups_below m 128) ≡ each bytes_of (map (tlv 1122) (map (group_value m) (leaders m)))
  unfolding groups_below
  groups-are low =
      let ls = leaders m in
      ap (λ (l : List ℕ). each group_tlv (map (group_below m 128) l)) (all-leaders low)
      ∙ each_map group_tlv (group_below m 128) ls
      ∙ each-ext (λ l. group_tlv (group_below m 128 l)) (λ l. bytes_of (tlv 1122 (group_value m l))) ls one-tlv
      ∙ sym (each_map bytes_of (tlv 1122) (map (group_value m) ls) ∙ each_map (λ v. bytes_of (tlv 1122 v)) (group_value m) ls)

  pub groups-start : [] ≡ groups_below m 1
  unfolding groups_below computing
  groups-start = refl
