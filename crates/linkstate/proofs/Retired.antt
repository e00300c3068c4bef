-- User bits from 32 on are retired (E12): no masks name such an application. Assumes nothing.
use mathlib.Core.Path.{◌≡◌, refl}
use mathlib.Core.Bool.{Bool, true, false, cond, ◌&&◌, and-false}
use mathlib.Core.List.{List, [], ◌∷◌}
use Prim.Native.Nat.{ℕ, ◌+◌, ◌-◌, ◌≤◌, ◌<◌}
use native.Mathlib.Omega.{arith}
use borrow.Author.Tests.{lt-ltb, le-ltb, ltb-true, ltb-false}
use lib.Dec.{ltb}
use Rattle.linkstate.specs.Lists.{any, member, numbers}
use Rattle.linkstate.specs.Masks.{bit, user, in_masks, others}
use Rattle.linkstate.specs.Sides.{Advertisement, Side, names, named}
use Rattle.linkstate.proofs.ListLaws.{mem-member, mem-numbers}

module _ (x y : List ℕ) (n : ℕ) where
  pub in-standard : n < 64 → in_masks x y n ≡ bit x n
  unfolding in_masks
  in-standard h = rw (lt-ltb n 64 h)

  pub in-user : 64 ≤ n → n < 96 → in_masks x y n ≡ bit y (n - 64)
  unfolding in_masks
  in-user h l = rw (le-ltb n 64 h, lt-ltb n 96 l)

  pub in-retired : 96 ≤ n → in_masks x y n ≡ false
  unfolding in_masks
  in-retired h = rw (le-ltb n 64 (omega arith), le-ltb n 96 h)

  -- Masks whose bits are all 0 name nobody.
  pub in-nobody : bit x n ≡ false → bit y (n - 64) ≡ false → in_masks x y n ≡ false
  unfolding in_masks
  in-nobody e f = rw (e, f, and-false (ltb n 96)) (go (ltb n 64))
    where
      go : (b : Bool) → cond b false false ≡ false
      go true = refl
      go false = refl

module _ (n : ℕ) (h : 96 ≤ n) where
  pub none-retired : (ds : List Advertisement) → any (names n) ds ≡ false
  unfolding any names
  none-retired [] = refl
  none-retired (d ∷ ds) = rw (in-retired d.standard_mask d.user_mask n h) (none-retired ds)

  pub named-retired : (s : Side) → named n s ≡ false
  unfolding named
  named-retired s = none-retired s.live

-- A test that fails for retired applications, and whether they are among the others.
pub user-among : (n : ℕ) (b : Bool) → (32 ≤ n → b ≡ false) → member (user n) others && b ≡ b
unfolding others user
user-among n b h = go (ltb n 32) refl
  where
    go : (c : Bool) → ltb n 32 ≡ c → member (64 + n) (numbers 1 95) && b ≡ b
    go true e =
        let l = ltb-true n 32 e in
        let i : 1 + (63 + n) ≡ 64 + n = omega arith in
        let m : member (64 + n) (numbers 1 95) ≡ true = rw i at (mem-member (numbers 1 95) (mem-numbers 95 1 (63 + n) (omega arith))) in
        rw m
    go false e = rw (h (ltb-false n 32 e)) (and-false (member (64 + n) (numbers 1 95)))
