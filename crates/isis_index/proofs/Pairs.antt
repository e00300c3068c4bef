-- Two masks as sent, and whom an advertisement with such masks names. Assumes nothing.
use mathlib.Core.Path.{◌≡◌, refl, sym, ap, ap₂, ◌∙◌}
use mathlib.Core.Bool.{Bool, true, false, ◌&&◌, not, false≢true}
use Prim.Native.Nat.{ℕ, ◌+◌, ◌-◌, ◌^◌, ◌≤◌, ◌<◌}
use native.Mathlib.Omega.{arith}
use borrow.Author.Tests.{eqb-true, eqb-false, ne_eqb, ltb-true, ltb-false}
use lib.Dec.{eqb, ltb}
use Rattle.linkstate.specs.Lists.{any, numbers}
use Rattle.linkstate.specs.Masks.{others}
use Rattle.linkstate.proofs.Retired.{in-retired}
use Rattle.linkstate.specs.Sides.{Advertisement, names, rsvp_te_alone}
use Rattle.linkstate.proofs.Computing.{computing}
use Rattle.linkstate.proofs.ListLaws.{any-no, mem-any, numbers-mem, mem-numbers}
use Rattle.masks.specs.Sets.{turned_place}
use Rattle.masks.proofs.Laws.{same-members}
use Rattle.masks.proofs.Steps.{turned-back}
use Rattle.masks.specs.declared.Applications.{Applications}
use Rattle.masks.specs.Applications.{at_place}
use Rattle.masks.proofs.Sets as sets
use Rattle.isis_index.proofs.Codes.{every, every-at, same, same-eq}
use Rattle.isis_index.proofs.Cells.{place-low}

-- A place is that of an application.
pub place_of : (m : Applications) (p : ℕ) → at_place m (turned_place (turned_place p)) ≡ at_place m p
place_of m p = ap (at_place m) (turned-back p)

-- ---- RSVP-TE alone

abbrev first : Applications
first = record { standard = 128; user = 0 }

only-first : (n : ℕ) → n < 128 → at_place first (turned_place n) ≡ eqb n 0
unfolding computing at_place turned_place every same
only-first n h = same-eq _ _ (every-at (λ i. same (at_place first (turned_place i)) (eqb i 0)) 128 refl n h)

module _ (m : Applications) (small : m.standard < 2 ^ 64) (low : m.user < 2 ^ 64) (d : Advertisement) (is : (n : ℕ) → at_place m (turned_place n) ≡ names n d) where
  -- whom it names is no retired application
  low-named : (n : ℕ) (b : Bool) → names n d ≡ b → b ≡ true → n < 96
  unfolding names
  low-named n b e t = go (ltb n 96) refl
    where
      go : (c : Bool) → ltb n 96 ≡ c → n < 96
      go true f = ltb-true n 96 f
      go false f = absurd (false≢true (sym (in-retired d.standard_mask d.user_mask n (ltb-false n 96 f)) ∙ e ∙ t))

  -- no other is named, each by itself
  others-unnamed : any (λ a. names a d) others ≡ false → (n : ℕ) → 1 ≤ n → n < 128 → names n d ≡ false
  unfolding others
  others-unnamed h n a b = go (names n d) refl
    where
      go : (x : Bool) → names n d ≡ x → x ≡ false
      go true e =
          let i : 1 + (n - 1) ≡ n = omega arith in
          absurd (false≢true (sym h ∙ mem-any (λ a. names a d) (numbers 1 95) (mem-numbers 95 1 (n - 1) (omega (arith, low-named n (names n d) refl e))) (ap (λ (x : ℕ). names x d) i ∙ e)))
      go false e = refl

  alone-places : names 0 d ≡ true → any (λ a. names a d) others ≡ false → (p : ℕ) → p < 128 → at_place m p ≡ at_place first p
  alone-places f h p l =
      let n = turned_place p in
      sym (place_of m p) ∙ is n ∙ by_number n (place-low p l) (eqb n 0) refl ∙ sym (only-first n (place-low p l)) ∙ place_of first p
    where
      by_number : (n : ℕ) → n < 128 → (b : Bool) → eqb n 0 ≡ b → names n d ≡ eqb n 0
      by_number n l true e = ap (λ (x : ℕ). names x d) (eqb-true n 0 e) ∙ f ∙ sym e
      by_number n l false e = let z = eqb-false n 0 e in others-unnamed h n (omega arith) l ∙ sym e

  alone-numbers : names 0 d ≡ true → any (λ a. names a d) others ≡ false → (m.standard ≡ 128) × (m.user ≡ 0)
  alone-numbers f h = (
    same-members 64 m.standard 128 small (omega arith) (λ i l. sym (sets.place-low m i l) ∙ alone-places f h i (omega arith) ∙ sets.place-low first i l),
    same-members 64 m.user 0 low (omega arith) (λ i l. sym (sets.place-high m i) ∙ alone-places f h (64 + i) (omega arith) ∙ sets.place-high first i),
  )

  numbers-alone : m.standard ≡ 128 → m.user ≡ 0 → (n : ℕ) → n < 128 → names n d ≡ eqb n 0
  numbers-alone a b n h = sym (is n) ∙ ap₂ (λ (x y : ℕ). at_place (record { standard = x; user = y }) (turned_place n)) a b ∙ only-first n h

  none-else : m.standard ≡ 128 → m.user ≡ 0 → any (λ a. names a d) others ≡ false
  unfolding others
  none-else a b =
      any-no (λ a. names a d) (numbers 1 95) (λ n i. let l = numbers-mem 1 95 i in numbers-alone a b n (omega (arith, l.1)) ∙ ne_eqb n 0 (λ z. omega (arith, l.0)))

  pub alone-is : rsvp_te_alone d ≡ eqb m.standard 128 && eqb m.user 0
  unfolding rsvp_te_alone
  alone-is = go (eqb m.standard 128) refl (eqb m.user 0) refl (names 0 d) refl (any (λ a. names a d) others) refl
    where
      go : (x : Bool) → eqb m.standard 128 ≡ x → (y : Bool) → eqb m.user 0 ≡ y → (b : Bool) → names 0 d ≡ b → (c : Bool) → any (λ a. names a d) others ≡ c
          → b && not c ≡ x && y
      go true p true q b e c f =
          let i = eqb-true m.standard 128 p in
          let j = eqb-true m.user 0 q in
          ap₂ (λ (b c : Bool). b && not c) (sym e ∙ numbers-alone i j 0 (omega arith)) (sym f ∙ none-else i j)
      go true p false q true e false f = absurd (eqb-false m.user 0 q (alone-numbers e f).1)
      go true p false q true e true f = refl
      go true p false q false e c f = refl
      go false p y q true e false f = absurd (eqb-false m.standard 128 p (alone-numbers e f).0)
      go false p y q true e true f = refl
      go false p y q false e c f = refl
