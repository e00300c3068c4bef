-- What a loop over the elements that an iterator gives needs: one law for each way a turn goes, where es are those that were left before it. Assumes nothing.
use mathlib.Core.Path.{◌≡◌, refl, sym, ap, ◌∙◌, subst}
use mathlib.Core.Bool.{Bool, true, false}
use mathlib.Core.List.{List, [], ◌∷◌}
use Prim.Native.Nat.{ℕ, ◌+◌, ◌≤◌, ◌<◌}
use native.Mathlib.Omega.{arith}
use native.Mathlib.Nat.{zero-add}
use borrow.Author.Tests.{leb-true, leb-false}
use lib.Dec.{leb}
use lib.ListN.{length, drop, length-drop}
use Rattle.linkstate.specs.Bytes.{bytes_at}
use Rattle.linkstate.specs.Replies.{Run, Verdict, accepted, refused, Refusal, fault}
use Rattle.linkstate.specs.Elements.{Element, element, cut, length_of, size_of, elements, faults, faults_once}
use Rattle.linkstate.proofs.ElementLaws.{Framed, done, short, step, framed, value-length}
use Rattle.linkstate.proofs.WalkLaws.{type_at, length_at, left_end, left_cut, left-whole, then-passed, then-refused, then-first, then-second, not-accepted, once-faults}
use Rattle.octets.proofs.Laws.{length-bytes_at}
use Rattle.std.specs.Prelude.{Result}
use Rattle.std.specs.declared.result.Result.TheVariants.{Ok, Err}
use Rattle.frames.specs.declared.Element.{Element as Item}
use Rattle.frames.specs.declared.Cut.{Cut}
use Rattle.frames.specs.Left.{shown}
use Rattle.frames.specs.Uncut.{left, Uncut}
use Rattle.frames.proofs.Laws.{IsWhole, from_start}

-- ---- what an item says of those that were left

pub gave-whole : {es rest : List Element} {x : Result Item Cut} (e : Item) → x ≡ Ok e → es ≡ shown x ∷ rest → es ≡ element e.at e.kind e.value.now ∷ rest
gave-whole {rest = rest} e i g = g ∙ ap (λ (x : Result Item Cut). shown x ∷ rest) i

pub gave-cut : {es rest : List Element} {x : Result Item Cut} (c : Cut) → x ≡ Err c → es ≡ shown x ∷ rest → es ≡ cut c.at ∷ rest
gave-cut {rest = rest} c i g = g ∙ ap (λ (x : Result Item Cut). shown x ∷ rest) i

-- ---- a check of each element in turn

module _ (run : Run) (check : ℕ → ℕ → List ℕ → Verdict) {es : List Element} where
  pub checked-all : es ≡ [] → accepted ≡ faults run check es
  unfolding faults
  checked-all e = sym (ap (faults run check) e)

  module _ {at : ℕ} {rest : List Element} (e : es ≡ cut at ∷ rest) where
    pub check-cut : fault 3 run at ≡ faults run check es
    unfolding faults
    check-cut = sym (ap (faults run check) e)

  module _ {at t : ℕ} {v : List ℕ} {rest : List Element} (e : es ≡ element at t v ∷ rest) where
    pub check-passed : check at t v ≡ accepted → faults run check rest ≡ faults run check es
    unfolding faults
    check-passed a = sym (ap (faults run check) e ∙ then-passed _ _ a)

    pub check-refused : (r : Refusal) → check at t v ≡ refused r → refused r ≡ faults run check es
    unfolding faults
    check-refused r a = sym (ap (faults run check) e ∙ then-refused _ _ r a)

    -- where all was accepted
    pub passed-here : faults run check es ≡ accepted → check at t v ≡ accepted
    unfolding faults
    passed-here a = then-first _ _ (sym (ap (faults run check) e) ∙ a)

    pub passed-rest : faults run check es ≡ accepted → faults run check rest ≡ accepted
    unfolding faults
    passed-rest a = then-second _ _ (sym (ap (faults run check) e) ∙ a)

-- ---- a run that passed its checks has no element that is cut off

pub uncut : (run : Run) (check : ℕ → ℕ → List ℕ → Verdict) (es : List Element) → faults run check es ≡ accepted → Uncut es
unfolding faults
uncut run check [] a = refl
uncut run check (cut at ∷ es) a = absurd (not-accepted 3 run at a)
uncut run check (element at t v ∷ es) a = uncut run check es (then-second (check at t v) _ a)

pub once-uncut : (run : Run) (known : ℕ → Bool) (check : ℕ → ℕ → List ℕ → Verdict) (seen : List ℕ) (es : List Element)
    → faults_once run known check seen es ≡ accepted → Uncut es
once-uncut run known check seen es a = uncut run check es (once-faults run known check seen es a)

-- ---- places

-- A list that begins at a place of s and ends with it: its places are those of s.
pub left-behind : (w : ℕ) (s : List ℕ) (at : ℕ) → left w 0 s at ≡ elements w at (drop at s)
left-behind w s at = ap (λ (i : ℕ). elements w i (drop at s)) (zero-add at)

pub left-all : (w base : ℕ) (s : List ℕ) → left w base s 0 ≡ elements w base s
left-all = from_start

module _ (w : ℕ) (p : 0 < w) (base : ℕ) (s : List ℕ) (at : ℕ) where
  -- The element at a place, and what is left behind it.
  pub record Stands (o t : ℕ) (v : List ℕ) (rest : List Element) : Type 0 where
    pub place : o ≡ base + at
    pub whole : IsWhole w s at t (length v)
    pub value : v ≡ bytes_at s (at + (w + w)) (length v)
    pub behind : rest ≡ left w base s (at + (w + w) + length v)

  stands-by : {o t : ℕ} {v : List ℕ} {rest : List Element} → at + (w + w) + length_at w s at ≤ length s
      → element (base + at) (type_at w s at) (bytes_at s (at + (w + w)) (length_at w s at)) ∷ left w base s (at + (w + w) + length_at w s at) ≡ element o t v ∷ rest → Stands o t v rest
  stands-by {o} {t} {v} {rest} h e =
      let i : base + at ≡ o = cc in
      let j : type_at w s at ≡ t = cc in
      let k : bytes_at s (at + (w + w)) (length_at w s at) ≡ v = cc in
      let l : left w base s (at + (w + w) + length_at w s at) ≡ rest = cc in
      let n : length_at w s at ≡ length v = sym (length-bytes_at s (at + (w + w)) (length_at w s at) h) ∙ ap length k in
      record {
        place = sym i;
        whole = record { type = j; size = n; within = omega arith };
        value = sym k ∙ ap (bytes_at s (at + (w + w))) n;
        behind = sym l ∙ ap (λ (m : ℕ). left w base s (at + (w + w) + m)) n;
      }

  pub stands : {o t : ℕ} {v : List ℕ} {rest : List Element} → left w base s at ≡ element o t v ∷ rest → Stands o t v rest
  stands {o} {t} {v} {rest} e = go (leb (length s) at) refl (leb (at + (w + w) + length_at w s at) (length s)) refl
    where
      go : (b : Bool) → leb (length s) at ≡ b → (c : Bool) → leb (at + (w + w) + length_at w s at) (length s) ≡ c → Stands o t v rest
      go true h c g = absurd (nothing (sym (left_end w p base s at (leb-true (length s) at h)) ∙ e))
        where
          nothing : [] ≡ element o t v ∷ rest → ⊥
          nothing z = let y : ◌≡◌ {A = ℕ} 0 1 = cc in omega arith
      go false h true g =
          let k = leb-true (at + (w + w) + length_at w s at) (length s) g in
          stands-by k (sym (left-whole w p base s at (length_at w s at) refl k) ∙ e)
      go false h false g =
          absurd (not-cut (sym (left_cut w p base s at (leb-false (length s) at h) (leb-false (at + (w + w) + length_at w s at) (length s) g)) ∙ e))
        where
          not-cut : cut (base + at) ∷ [] ≡ element o t v ∷ rest → ⊥
          not-cut z = let y : ◌≡◌ {A = ℕ} 0 1 = cc in omega arith

  -- Behind an element that is cut off there is none.
  pub cut-last : {o : ℕ} {rest : List Element} → left w base s at ≡ cut o ∷ rest → rest ≡ []
  cut-last {o} {rest} e = go (leb (length s) at) refl (leb (at + (w + w) + length_at w s at) (length s)) refl
    where
      go : (b : Bool) → leb (length s) at ≡ b → (c : Bool) → leb (at + (w + w) + length_at w s at) (length s) ≡ c → rest ≡ []
      go true h c g = absurd (nothing (sym (left_end w p base s at (leb-true (length s) at h)) ∙ e))
        where
          nothing : [] ≡ cut o ∷ rest → ⊥
          nothing z = let y : ◌≡◌ {A = ℕ} 0 1 = cc in omega arith
      go false h true g =
          absurd (whole (sym (left-whole w p base s at (length_at w s at) refl (leb-true (at + (w + w) + length_at w s at) (length s) g)) ∙ e))
        where
          whole : {t : ℕ} {v : List ℕ} {es : List Element} → element (base + at) t v ∷ es ≡ cut o ∷ rest → ⊥
          whole z = let y : ◌≡◌ {A = ℕ} 0 1 = cc in omega arith
      go false h false g =
          let z = sym (left_cut w p base s at (leb-false (length s) at h) (leb-false (at + (w + w) + length_at w s at) (length s) g)) ∙ e in cc

-- ---- bounds

-- Each element stands in what ends at an offset of the run.
abbrev pub Within : ℕ → ℕ → List Element → Type 0
Within w end [] = Unit
Within w end (element at t v ∷ es) = (at + (w + w) + length v ≤ end) × Within w end es
Within w end (cut at ∷ es) = (at ≤ end) × Within w end es

module _ (w : ℕ) (p : 0 < w) where
  framed-within : {at : ℕ} {s : List ℕ} {es : List Element} (end : ℕ) → at + length s ≡ end → Framed w at s es → Within w end es
  unfolding size_of
  framed-within end e done = tt
  framed-within end e (short h) = (omega arith, tt)
  framed-within {at} {s} end e (step h f) =
      (omega (arith, value-length w s h), framed-within end (omega (arith, length-drop (w + w + length_of w s) s)) f)

  pub within : (at end : ℕ) (s : List ℕ) → at + length s ≡ end → Within w end (elements w at s)
  within at end s e = framed-within end e (framed w p at s)

-- Where a walk begins.
pub within-start : (w end : ℕ) {es : List Element} (at : ℕ) (s : List ℕ) → es ≡ elements w at s → 0 < w → at + length s ≡ end → Within w end es
within-start w end {es} at s e p f = subst (Within w end) (sym e) (within w p at end s f)

-- What each turn of a walk that checks elements needs.
pub ruleset walking = (gave-whole, gave-cut, checked-all, check-cut, check-passed, check-refused, within-start)
