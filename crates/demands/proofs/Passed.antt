-- What a check that passed tells: none of its tests held. And the values of elements are together no longer than their run. Assumes nothing.
use mathlib.Core.Path.{◌≡◌, refl}
use mathlib.Core.Bool.{Bool, true, false, cond}
use mathlib.Core.List.{List}
use Prim.Native.Nat.{ℕ, ◌≤◌, ◌<◌, zero-le}
use native.Mathlib.Omega.{arith}
use lib.ListN.{length, length-drop}
use Rattle.linkstate.specs.Replies.{Run, Verdict, accepted, fault}
use Rattle.linkstate.specs.Elements.{Element, element, cut, size_of, elements}
use Rattle.linkstate.proofs.ElementLaws.{Framed, done, short, step, framed, value-length}
use Rattle.rivals.proofs.Sums.{sum_of}
use Rattle.rivals.proofs.Sizes.{not-refused}

-- A test that leads to a refusal did not hold.
pub unfaulted : (b : Bool) (n : ℕ) (run : Run) (at : ℕ) (w : Verdict) → cond b (fault n run at) w ≡ accepted → (b ≡ false) × (w ≡ accepted)
unfolding fault
unfaulted true n run at w h = not-refused _ h
unfaulted false n run at w h = (refl, h)

-- How many bytes the value of an element has.
unfoldable pub value_length : Element → ℕ
value_length (element at t v) = length v
value_length (cut at) = 0

values-in : {w at : ℕ} {s : List ℕ} {es : List Element} → Framed w at s es → sum_of value_length es ≤ length s
unfolding sum_of value_length size_of
values-in done = zero-le
values-in (short l) = zero-le
values-in {w} (step {s = s} l f) = omega (arith, values-in f, value-length w s l, length-drop (size_of w s) s)

-- The values of elements are no longer, together, than the bytes that they were read from.
pub values-within : (w : ℕ) → 0 < w → (at : ℕ) (s : List ℕ) → sum_of value_length (elements w at s) ≤ length s
values-within w p at s = values-in (framed w p at s)
