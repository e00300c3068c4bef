-- Sets of applications: their places, none, joined, turned, and with the masks of an advertisement. Assumes nothing.
use mathlib.Core.Path.{◌≡◌, refl, sym, ap, ap₂, ◌∙◌}
use mathlib.Core.Bool.{Bool, true, false, cond, ◌&&◌, ◌||◌}
use mathlib.Core.List.{List}
use Prim.Native.Nat.{ℕ, ◌+◌, ◌-◌, ◌*◌, ◌/◌, ◌%◌, ◌^◌, ◌≤◌, ◌<◌}
use native.Mathlib.Nat.{div-eq_of_lt, lt_of_lt_of_le}
use native.Mathlib.Omega.{arith}
use borrow.Author.Tests.{lt-ltb, le-ltb, ltb-true, ltb-false}
use lib.Dec.{eqb, ltb}
use lib.ListN.{take, length-take}
use lib.Seq.{get_or-take}
use lib.Pow.{pow_mono}
use Rattle.linkstate.specs.Masks.{bit, in_masks, in_number}
use Rattle.masks.specs.Sets.{turned_place, in_sent}
use Rattle.masks.specs.declared.Applications.{Applications}
use Rattle.masks.specs.Applications.{in_set, at_place, user_bytes}
use Rattle.masks.proofs.Laws.{bit-beyond}
use Rattle.masks.proofs.Steps.{turned-below, turned-back, zero-none}

-- ---- places

module _ (m : Applications) where
  pub place-low : (j : ℕ) → j < 64 → at_place m j ≡ in_number m.standard j
  unfolding at_place
  place-low j h = rw (lt-ltb j 64 h)

  pub place-user : (j : ℕ) → 64 ≤ j → at_place m j ≡ in_number m.user (j - 64)
  unfolding at_place
  place-user j h = rw (le-ltb j 64 h)

  pub place-high : (j : ℕ) → at_place m (64 + j) ≡ in_number m.user j
  place-high j = let e : 64 + j - 64 ≡ j = omega arith in place-user (64 + j) (omega arith) ∙ ap (in_number m.user) e

  turned-large : (n : ℕ) → 64 ≤ n → 64 + turned_place (n - 64) ≡ turned_place n
  unfolding turned_place
  turned-large n h = omega arith

  -- an application stands at its place
  pub place_set : (n : ℕ) → at_place m (turned_place n) ≡ in_set m n
  unfolding in_set
  place_set n = go (ltb n 64) refl
    where
      go : (b : Bool) → ltb n 64 ≡ b → at_place m (turned_place n) ≡ cond b (in_sent m.standard n) (in_sent m.user (n - 64))
      go true e = place-low (turned_place n) (turned-below n (ltb-true n 64 e))
      go false e = ap (at_place m) (sym (turned-large n (ltb-false n 64 e))) ∙ place-high (turned_place (n - 64))

  -- and a place is that of an application
  pub set-place : (p : ℕ) → in_set m (turned_place p) ≡ at_place m p
  set-place p = sym (place_set (turned_place p)) ∙ ap (at_place m) (turned-back p)

  pub set-low : (n : ℕ) → n < 64 → in_set m n ≡ in_sent m.standard n
  unfolding in_set
  set-low n h = rw (lt-ltb n 64 h)

  pub set-user : (n : ℕ) → 64 ≤ n → in_set m n ≡ in_sent m.user (n - 64)
  unfolding in_set
  set-user n h = rw (le-ltb n 64 h)

  -- the bit that is looked at
  pub low_bit : (n : ℕ) → n < 64 → in_number m.standard (n / 8 * 8 + (7 - n % 8)) ≡ in_set m n
  unfolding turned_place
  low_bit n h = sym (set-low n h)

  pub user-bit : (n : ℕ) → 64 ≤ n → in_number m.user ((n - 64) / 8 * 8 + (7 - (n - 64) % 8)) ≡ in_set m n
  unfolding turned_place
  user-bit n h = sym (set-user n h)

-- ---- what holds of the bits of both masks holds at every place

pub place-by : (f : Bool → Bool → Bool → Type 0) (x y z : Applications) → ((j : ℕ) → f (in_number x.standard j) (in_number y.standard j) (in_number z.standard j))
    → ((j : ℕ) → f (in_number x.user j) (in_number y.user j) (in_number z.user j)) → (p : ℕ) → f (at_place x p) (at_place y p) (at_place z p)
unfolding at_place
place-by f x y z low high p = go (ltb p 64)
  where
    go : (b : Bool)
        → f (cond b (in_number x.standard p) (in_number x.user (p - 64))) (cond b (in_number y.standard p) (in_number y.user (p - 64)))
        (cond b (in_number z.standard p) (in_number z.user (p - 64)))
    go true = low p
    go false = high (p - 64)

-- what holds at every place holds of every application
pub set-by : (f : Bool → Bool → Bool → Type 0) (x y z : Applications) → ((p : ℕ) → f (at_place x p) (at_place y p) (at_place z p)) → (n : ℕ)
    → f (in_set x n) (in_set y n) (in_set z n)
set-by f x y z h n = let e = h (turned_place n) in rw (place_set x n, place_set y n, place_set z n) at e

-- ---- nobody

module _ (m : Applications) (s : m.standard ≡ 0) (u : m.user ≡ 0) where
  pub place_none : (p : ℕ) → at_place m p ≡ false
  unfolding at_place
  place_none p = rw (s, u, zero-none p, zero-none (p - 64)) (go (ltb p 64))
    where
      go : (b : Bool) → cond b false false ≡ false
      go true = refl
      go false = refl

pub set-none : (m : Applications) → ((p : ℕ) → at_place m p ≡ false) → (n : ℕ) → in_set m n ≡ false
set-none m h n = sym (place_set m n) ∙ h (turned_place n)

-- ---- with two masks

-- two fronts that both have a bit's byte
bit-both : (l : List ℕ) (k i j : ℕ) → k / 8 < i → k / 8 < j → bit (take i l) k ≡ bit (take j l) k
unfolding bit
bit-both l k i j h g = ap (λ (x : ℕ). eqb (x / 2 ^ (7 - k % 8) % 2) 1) (get_or-take i l (k / 8) 0 h ∙ sym (get_or-take j l (k / 8) 0 g))

-- what is read of a user mask has its bits below 32
pub user-read : (l : List ℕ) (n k : ℕ) → bit (take (user_bytes n) l) k ≡ ltb k 32 && bit (take n l) k
user-read l n k = go (ltb k 32) refl (ltb n 4) refl
  where
    beyond-four : (i : ℕ) → i ≤ 4 → 32 ≤ k → bit (take i l) k ≡ false
    beyond-four i h g = bit-beyond (take i l) k (omega (arith, length-take i l))

    go : (b : Bool) → ltb k 32 ≡ b → (c : Bool) → ltb n 4 ≡ c → bit (take (cond c n 4) l) k ≡ b && bit (take n l) k
    go true e true f = refl
    go true e false f = let h = ltb-true k 32 e in let g = ltb-false n 4 f in bit-both l k 4 n (omega arith) (omega arith)
    go false e true f = let h = ltb-true n 4 f in beyond-four n (omega arith) (ltb-false k 32 e)
    go false e false f = beyond-four 4 (omega arith) (ltb-false k 32 e)

module _ (x l : List ℕ) (i : ℕ) (m r : Applications) (p : (n : ℕ) → in_sent r.standard n ≡ in_sent m.standard n || bit x n) (few : ℕ) (is : few ≡ user_bytes i)
    (q : (n : ℕ) → in_sent r.user n ≡ in_sent m.user n || bit (take few l) n) where
  pub set-added : (n : ℕ) → in_set r n ≡ in_set m n || in_masks x (take i l) n
  unfolding in_set in_masks
  set-added n = go (ltb n 64) refl
    where
      high : 64 ≤ n → ltb (n - 64) 32 ≡ ltb n 96
      high h = by (ltb n 96) refl
        where
          by : (b : Bool) → ltb n 96 ≡ b → ltb (n - 64) 32 ≡ b
          by true e = let g = ltb-true n 96 e in lt-ltb (n - 64) 32 (omega arith)
          by false e = let g = ltb-false n 96 e in le-ltb (n - 64) 32 (omega arith)

      go : (b : Bool) → ltb n 64 ≡ b → cond b (in_sent r.standard n) (in_sent r.user (n - 64))
          ≡ cond b (in_sent m.standard n) (in_sent m.user (n - 64)) || cond b (bit x n) (ltb n 96 && bit (take i l) (n - 64))
      go true e = p n
      go false e =
          q (n - 64)
          ∙ ap (λ (b : Bool). in_sent m.user (n - 64) || b)
          (ap (λ (j : ℕ). bit (take j l) (n - 64)) is ∙ user-read l i (n - 64) ∙ ap (λ (b : Bool). b && bit (take i l) (n - 64)) (high (ltb-false n 64 e)))

-- of nobody: whom they name
pub masks-alone : (x y : List ℕ) (m r : Applications) → ((p : ℕ) → at_place m p ≡ false) → ((n : ℕ) → in_set r n ≡ in_set m n || in_masks x y n) → (n : ℕ)
    → in_set r n ≡ in_masks x y n
masks-alone x y m r none h n = h n ∙ ap (λ (b : Bool). b || in_masks x y n) (set-none m none n)

-- ---- turned

-- no number has a bit beyond its width
pub beyond : (m n : ℕ) → m < 2 ^ 64 → 64 ≤ n → in_number m n ≡ false
unfolding in_number
beyond m n f h = rw (div-eq_of_lt (lt_of_lt_of_le f (pow_mono h)))

high-place : (n : ℕ) → 64 ≤ n → 64 ≤ turned_place n
unfolding turned_place
high-place n h = omega arith

turned-one : (m t : ℕ) → m < 2 ^ 64 → t < 2 ^ 64 → ((i : ℕ) → i < 64 → in_number t i ≡ in_sent m i) → (n : ℕ) → in_number t n ≡ in_sent m n
turned-one m t fm ft e n = go (ltb n 64) refl
  where
    go : (b : Bool) → ltb n 64 ≡ b → in_number t n ≡ in_sent m n
    go true q = e n (ltb-true n 64 q)
    go false q = let h = ltb-false n 64 q in beyond t n ft h ∙ sym (beyond m (turned_place n) fm (high-place n h))

pub turned_same : (m r : Applications) → m.standard < 2 ^ 64 → m.user < 2 ^ 64 → r.standard < 2 ^ 64 → r.user < 2 ^ 64
    → ((n : ℕ) → n < 64 → in_number r.standard n ≡ in_sent m.standard n) → ((n : ℕ) → n < 64 → in_number r.user n ≡ in_sent m.user n) → (n : ℕ)
    → at_place r n ≡ in_set m n
unfolding at_place in_set
turned_same m r fs fu ft fv ts tu n =
    ap₂ (λ (a b : Bool). cond (ltb n 64) a b) (turned-one m.standard r.standard fs ft ts n) (turned-one m.user r.user fu fv tu (n - 64))
