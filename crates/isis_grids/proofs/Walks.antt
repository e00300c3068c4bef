-- The turns of the loops over run A and over attribute lists, where the checks have passed.
use mathlib.Core.Path.{◌≡◌, sym, ap, ◌∙◌}
use mathlib.Core.List.{List, ◌++◌}
use Prim.Native.Nat.{ℕ, ◌+◌, ◌≤◌, ◌<◌}
use native.Mathlib.Omega.{arith}
use native.Mathlib.Nat.{add-zero}
use lib.ListN.{length, get_or}
use Rattle.linkstate.specs.Lists.{each}
use Rattle.linkstate.specs.Bytes.{bytes_at}
use Rattle.linkstate.specs.Replies.{Verdict, accepted, run_a}
use Rattle.linkstate.specs.Elements.{Element, element, elements, faults}
use Rattle.linkstate.proofs.WalkLaws.{left, type-one, length-one, faults-passed, each_turn}

-- ---- one turn

-- The element at a position: its offset in run A, its type byte, and its value by its length byte.
abbrev pub element_at : ℕ → List ℕ → ℕ → Element
element_at base s at = element (base + at) (get_or s at 0) (bytes_at s (at + 2) (get_or s (at + 1) 0))

module _ (check : ℕ → ℕ → List ℕ → Verdict) (base : ℕ) (s : List ℕ) (at : ℕ) (here : at < length s) (ok : faults run_a check (left 1 base s at) ≡ accepted) where
  passes : (at + 2 + get_or s (at + 1) 0 ≤ length s) × (check (base + at) (get_or s at 0) (bytes_at s (at + 2) (get_or s (at + 1) 0)) ≡ accepted) × (faults run_a check (left 1 base s (at + 2 + get_or s (at + 1) 0)) ≡ accepted)
  passes =
      let p = faults-passed run_a check 1 (omega arith) base s at (get_or s (at + 1) 0) (length-one s at) here ok in
      (p.0, ap (λ (t : ℕ). check (base + at) t (bytes_at s (at + 2) (get_or s (at + 1) 0))) (sym (type-one s at)) ∙ p.1, p.2)

  pub inside : at + 2 + get_or s (at + 1) 0 ≤ length s
  inside = passes.0

  pub passed : check (base + at) (get_or s at 0) (bytes_at s (at + 2) (get_or s (at + 1) 0)) ≡ accepted
  passed = passes.1

  pub rest_ok : faults run_a check (left 1 base s (at + 2 + get_or s (at + 1) 0)) ≡ accepted
  rest_ok = passes.2

  pub turn : {A : Type 0} (f : Element → List A) → each f (left 1 base s at) ≡ f (element_at base s at) ++ each f (left 1 base s (at + 2 + get_or s (at + 1) 0))
  turn f =
      each_turn f 1 (omega arith) base s at (get_or s (at + 1) 0) (length-one s at) inside
      ∙ ap (λ (t : ℕ). f (element (base + at) t (bytes_at s (at + 2) (get_or s (at + 1) 0))) ++ each f (left 1 base s (at + 2 + get_or s (at + 1) 0))) (type-one s at)

-- Where a walk begins.
pub left-all : (base : ℕ) (s : List ℕ) → left 1 base s 0 ≡ elements 1 base s
left-all base s = ap (λ (i : ℕ). elements 1 i s) (add-zero base)
