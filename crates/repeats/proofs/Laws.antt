-- Elements that stood before: what a look at them finds, and one turn of a loop that checks a list in which no known type stands twice. Assumes nothing.
use mathlib.Core.Path.{◌≡◌, refl, sym, ap, ap₂, ◌∙◌, subst}
use mathlib.Core.Bool.{Bool, true, false, ◌||◌, or-true, false≢true}
use mathlib.Core.List.{List, [], ◌∷◌}
use Prim.Native.Nat.{ℕ, zero, suc, ◌+◌, ◌-◌, ◌%◌, ◌≤◌, ◌<◌}
use native.Mathlib.Omega.{arith}
use borrow.Author.Tests.{eq-eqb, ne_eqb, eqb-true}
use lib.Dec.{eqb}
use lib.ListN.{length, take, drop, length-drop}
use lib.Seq.{drop-drop}
use Rattle.std.specs.List.{list_any}
use Rattle.std.proofs.lemmas.List.{drop-take, take-take, length-take-le}
use Rattle.linkstate.specs.Lists.{member}
use Rattle.linkstate.specs.Masks.{in_number}
use Rattle.linkstate.specs.Bytes.{number}
use Rattle.linkstate.specs.Elements.{Element, element, cut, type_of, length_of, size_of, elements}
use Rattle.linkstate.proofs.ElementLaws.{none_left, first-whole}
use Rattle.linkstate.proofs.ListLaws.{eqb-sym}
use Rattle.linkstate.proofs.WalkLaws.{length_at}
use Rattle.frames.specs.Uncut.{Uncut}
use Rattle.repeats.specs.Walked.{Walked, Remembers}

-- ---- a look at the elements before

pub member-head : (k t : ℕ) (ts : List ℕ) → k ≡ t → member k (t ∷ ts) ≡ true
unfolding member
member-head k t ts e = rw (eq-eqb k t e)

pub member-tail : (k t : ℕ) (ts : List ℕ) → (k ≡ t → ⊥) → member k (t ∷ ts) ≡ member k ts
unfolding member
member-tail k t ts n = rw (ne_eqb k t n)

pub member-none : (k : ℕ) → member k [] ≡ false
unfolding member
member-none k = refl

-- A part that stands in the first m bytes.
front-part : (d n m : ℕ) (s : List ℕ) → d + n ≤ m → take n (drop d (take m s)) ≡ take n (drop d s)
front-part d n m s h =
    let e : d + (m - d) ≡ m = omega arith in
    ap (λ (i : ℕ). take n (drop d (take i s))) (sym e) ∙ ap (take n) (drop-take d (m - d) s) ∙ take-take n (m - d) (drop d s) (omega arith)

front-type : (w m : ℕ) (s : List ℕ) → w ≤ m → type_of w (take m s) ≡ type_of w s
unfolding type_of
front-type w m s h = ap number (take-take w m s h)

front-length : (w m : ℕ) (s : List ℕ) → w + w ≤ m → length_of w (take m s) ≡ length_of w s
unfolding length_of
front-length w m s h = ap number (front-part w w m s h)

-- The first element of a list's front, which holds it and k bytes more, and those behind it.
front-first : (w : ℕ) → 0 < w → (at k : ℕ) (s : List ℕ) → size_of w s + k ≤ length s
    → ((v : List ℕ) × (elements w at (take (size_of w s + k) s) ≡ element at (type_of w s) v ∷ elements w (at + size_of w s) (take k (drop (size_of w s) s))))
unfolding size_of
front-first w p at k s h =
    let m : ℕ = w + w + length_of w s + k in
    let n : length_of w (take m s) ≡ length_of w s = front-length w m s (omega arith) in
    let z : size_of w (take m s) ≡ size_of w s = ap (λ (i : ℕ). w + w + i) n in (
      take (length_of w (take m s)) (drop (w + w) (take m s)),
      first-whole w p at (take m s) (omega (arith, length-take-le m s h))
          ∙ rw (z, front-type w m s (omega arith), drop-take (w + w + length_of w s) k s) refl,
    )

-- The element is of the type.
abbrev pub is_of : ℕ → Element → Bool
is_of k (element at t v) = eqb t k
is_of k (cut at) = false

module _ (w : ℕ) (p : 0 < w) (s : List ℕ) (end : ℕ) where
  walked_end : (at : ℕ) (ts : List ℕ) → Walked w s end at ts → at ≤ end
  walked_end at [] h = omega (arith, h)
  walked_end at (t ∷ ts) h = omega (arith, walked_end (at + (w + w) + length_at w s at) ts h.2)

  pub walked-none : (at k : ℕ) (ts : List ℕ) → Walked w s end at ts → at ≡ end → false ≡ member k ts
  walked-none at k [] h e = sym (member-none k)
  walked-none at k (t ∷ ts) h e = absurd (omega (arith, walked_end (at + (w + w) + length_at w s at) ts h.2))

  -- Where one stood, the end is a place of the list.
  pub walked-within : (at : ℕ) (ts : List ℕ) → Walked w s end at ts → (at ≡ end → ⊥) → (at ≤ end) × (end ≤ length s)
  walked-within at [] h n = absurd (n h)
  walked-within at (t ∷ ts) h n = (walked_end at (t ∷ ts) h, last at t ts h)
    where
      last : (at t : ℕ) (ts : List ℕ) → Walked w s end at (t ∷ ts) → end ≤ length s
      last at t [] h = omega (arith, h.1, h.2)
      last at t (u ∷ ts) h = last (at + (w + w) + length_at w s at) u ts h.2

  abbrev Shows : ℕ → List ℕ → List Element → Type 0
  Shows k ts es = Uncut es × (list_any (is_of k) es ≡ member k ts)

  next-is : (at : ℕ) → at + size_of w (drop at s) ≡ at + (w + w) + length_at w s at
  unfolding size_of
  next-is at = omega arith

  shows-step : (at n k t : ℕ) (ts : List ℕ) (next m : ℕ) → type_of w (drop at s) ≡ t → at + size_of w (drop at s) ≡ next → size_of w (drop at s) + m ≡ n → (v : List ℕ)
      → elements w at (take (size_of w (drop at s) + m) (drop at s))
      ≡ element at (type_of w (drop at s)) v ∷ elements w (at + size_of w (drop at s)) (take m (drop (size_of w (drop at s)) (drop at s)))
      → Shows k ts (elements w next (take m (drop next s))) → Shows k (t ∷ ts) (elements w at (take n (drop at s)))
  unfolding member
  shows-step at n k t ts next m a z i v e r =
      let d : drop (size_of w (drop at s)) (drop at s) ≡ drop next s = drop-drop (size_of w (drop at s)) at s ∙ ap (λ (j : ℕ). drop j s) z in
      let g : elements w at (take n (drop at s)) ≡ element at t v ∷ elements w next (take m (drop next s)) =
      ap (λ (j : ℕ). elements w at (take j (drop at s))) (sym i) ∙ e ∙ rw (a, z, d) refl in
      rw g (r.0, ap₂ (λ (x y : Bool). x || y) (eqb-sym t k) r.1)

  -- Those that stood, as elements: none is cut off, and one is of a type where that is among theirs.
  walked-elements : (at n k : ℕ) (ts : List ℕ) → at + n ≡ end → Walked w s end at ts → Shows k ts (elements w at (take n (drop at s)))
  walked-elements at zero k [] e h = rw (none_left w at) (refl, sym (member-none k))
  walked-elements at (suc n) k [] e h = absurd (omega (arith, h))
  walked-elements at n k (t ∷ ts) e h =
      let next : ℕ = at + (w + w) + length_at w s at in
      let z : at + size_of w (drop at s) ≡ next = next-is at in
      let q : next ≤ end = walked_end next ts h.2 in
      let b = walked-within at (t ∷ ts) h (λ d. omega (arith, q)) in
      let i : size_of w (drop at s) + (end - next) ≡ n = omega arith in
      let f = front-first w p at (end - next) (drop at s) (omega (arith, length-drop at s, b.1)) in
      let r = walked-elements next (end - next) k ts (omega arith) h.2 in
      shows-step at n k t ts next (end - next) h.0 z i f.0 f.1 r

  pub walked-list : (from k : ℕ) (ts : List ℕ) → Walked w s end from ts → Shows k ts (elements w from (drop from (take end s)))
  walked-list from k ts h =
      let q = walked_end from ts h in
      let e : from + (end - from) ≡ end = omega arith in
      subst (λ (l : List ℕ). Shows k ts (elements w from l)) (sym (drop-take from (end - from) s) ∙ ap (λ (i : ℕ). drop from (take i s)) e)
      (walked-elements from (end - from) k ts e h)

-- ---- the bits

pub remembers-more : (x y k : ℕ) (ts : List ℕ) → ((j : ℕ) → in_number y j ≡ in_number x j || eqb j (k % 64)) → Remembers x ts → Remembers y (k ∷ ts)
remembers-more x y k ts e h t m = go (eqb t k) refl
  where
    go : (b : Bool) → eqb t k ≡ b → in_number y (t % 64) ≡ true
    go true q = e (t % 64) ∙ ap (λ (b : Bool). in_number x (t % 64) || b) (eq-eqb (t % 64) (k % 64) (ap (λ (i : ℕ). i % 64) (eqb-true t k q))) ∙ or-true (in_number x (t % 64))
    go false q = e (t % 64) ∙ ap (λ (b : Bool). b || eqb (t % 64) (k % 64)) (h t (sym (member-tail t k ts (λ z. false≢true (sym q ∙ eq-eqb t k z))) ∙ m))
