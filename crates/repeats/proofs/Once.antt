-- A loop over elements that checks a list in which no known type stands twice: one law for each way a turn goes. Assumes nothing.
use mathlib.Core.Path.{◌≡◌, refl, sym, ap, ◌∙◌}
use mathlib.Core.Bool.{Bool, true, false, cond, ◌&&◌, ◌||◌, and-false, false≢true}
use mathlib.Core.List.{List, [], ◌∷◌, ◌++◌}
use Prim.Native.Nat.{ℕ, ◌+◌, ◌-◌, ◌%◌, ◌<◌}
use native.Mathlib.Omega.{arith}
use lib.Dec.{eqb}
use lib.ListN.{length}
use Rattle.linkstate.specs.Lists.{member}
use Rattle.linkstate.specs.Masks.{in_number}
use Rattle.linkstate.specs.Replies.{Run, Verdict, accepted, refused, Refusal, refusal_at, fault, ◌then◌}
use Rattle.linkstate.specs.Elements.{Element, element, cut, faults_once}
use Rattle.linkstate.proofs.WalkLaws.{length_at, then-passed, then-refused}
use Rattle.frames.specs.Uncut.{left}
use Rattle.frames.proofs.Laws.{IsWhole}
use Rattle.frames.proofs.Walks.{Stands, stands}
use Rattle.repeats.specs.Walked.{Walked, Remembers}
use Rattle.repeats.proofs.Laws.{member-none}

-- One element more has stood.
walked_more : (w : ℕ) (s : List ℕ) (at t n : ℕ) → IsWhole w s at t n → (from : ℕ) (ts : List ℕ) → Walked w s at from ts → Walked w s (at + (w + w) + n) from (ts ++ (t ∷ []))
walked_more w s at t n f from [] h = rw h (f.type, rw f.size f.within, rw f.size)
walked_more w s at t n f from (x ∷ ts) h = (h.0, h.1, walked_more w s at t n f (from + (w + w) + length_at w s from) ts h.2)

member-last : (k t : ℕ) (ts : List ℕ) → member k (ts ++ (t ∷ [])) ≡ member k (t ∷ ts)
unfolding member
member-last k t [] = refl
member-last k t (x ∷ ts) = ap (λ (b : Bool). eqb k x || b) (member-last k t ts) ∙ swap (eqb k x) (eqb k t) (member k ts)
  where
    swap : (a b c : Bool) → a || (b || c) ≡ b || (a || c)
    swap true true c = refl
    swap true false c = refl
    swap false b c = refl

member-both : (k t : ℕ) (xs ys : List ℕ) → member k xs ≡ member k ys → member k (t ∷ xs) ≡ member k (t ∷ ys)
unfolding member
member-both k t xs ys e = ap (λ (b : Bool). eqb k t || b) e

module _ (run : Run) (known : ℕ → Bool) (check : ℕ → ℕ → List ℕ → Verdict) (w : ℕ) (p : 0 < w) (base : ℕ) (s : List ℕ) (from : ℕ) where
  -- A check that began at `from` has es left: the place where they begin; which types stood, in their order and as the definition has them; the bits remember
  -- them; what is left decides as the whole does.
  pub record Once (whole : Verdict) (bits : ℕ) (es : List Element) : Type 0 where
    pub at : ℕ
    pub begins : es ≡ left w base s at
    pub order : List ℕ
    pub seen : List ℕ
    pub walked : Walked w s at from order
    pub same : (k : ℕ) → member k order ≡ member k seen
    pub kept : Remembers bits seen
    pub verdict : faults_once run known check seen es ≡ whole

  pub once-start : (es : List Element) → es ≡ left w base s from → Once (faults_once run known check [] es) 0 es
  once-start es e =
      record { at = from; begins = e; order = []; seen = []; walked = refl; same = λ k. refl; kept = λ t h. absurd (false≢true (sym (member-none t) ∙ h)); verdict = refl }

module _ {run : Run} {known : ℕ → Bool} {check : ℕ → ℕ → List ℕ → Verdict} {w : ℕ} {p : 0 < w} {base : ℕ} {s : List ℕ} {from : ℕ} where
  module _ {whole : Verdict} {bits : ℕ} {es : List Element} (o : Once run known check w p base s from whole bits es) where
    pub once-end : es ≡ [] → accepted ≡ whole
    unfolding faults_once
    once-end e = sym (ap (faults_once run known check o.seen) e) ∙ o.verdict

    pub once-cut : {at : ℕ} {rest : List Element} → es ≡ cut at ∷ rest → fault 3 run at ≡ whole
    unfolding faults_once
    once-cut {at} {rest} e = sym (ap (faults_once run known check o.seen) e) ∙ o.verdict

    module _ {at t : ℕ} {v : List ℕ} {rest : List Element} (e : es ≡ element at t v ∷ rest) where
      here : Stands w p base s o.at at t v rest
      here = stands w p base s o.at (sym o.begins ∙ e)

      -- the offset of the element, and those that stood before it
      pub once-place : at ≡ base + o.at
      once-place = here.place

      pub once-before : Walked w s (at - base) from o.order
      once-before = let z : at - base ≡ o.at = omega (arith, here.place) in rw z o.walked

      turn : check at t v then cond (known t && member t o.seen) (fault 8 run at) accepted then faults_once run known check (t ∷ o.seen) rest ≡ whole
      unfolding faults_once
      turn = sym (ap (faults_once run known check o.seen) e) ∙ o.verdict

      pub once-wrong : (r : Refusal) → check at t v ≡ refused r → refused r ≡ whole
      once-wrong r a = sym (then-refused _ _ r a) ∙ turn

      module _ (passed : check at t v ≡ accepted) where
        -- whether a known type stood before
        pub once-twice : (b : Bool) → b ≡ known t && member t o.order → b ≡ true → fault 8 run at ≡ whole
        unfolding fault
        once-twice b i h =
            let q : known t && member t o.seen ≡ true = ap (λ (m : Bool). known t && m) (sym (o.same t)) ∙ sym i ∙ h in
            sym (then-passed _ _ passed ∙ then-refused _ _ (refusal_at 8 run at) (rw q)) ∙ turn

        -- the next element
        next : (new : ℕ) → ((ts : List ℕ) → Remembers bits ts → Remembers new (t ∷ ts)) → known t && member t o.seen ≡ false → Once run known check w p base s from whole new rest
        next new more q =
            record {
              at = o.at + (w + w) + length v;
              begins = here.behind;
              order = o.order ++ (t ∷ []);
              seen = t ∷ o.seen;
              walked = walked_more w s o.at t (length v) here.whole from o.order o.walked;
              same = λ k. member-last k t o.order ∙ member-both k t o.order o.seen (o.same k);
              kept = more o.seen o.kept;
              verdict = sym (then-passed _ _ passed ∙ then-passed _ _ (rw q)) ∙ turn;
            }

        module _ (new : ℕ) (more : (ts : List ℕ) → Remembers bits ts → Remembers new (t ∷ ts)) where
          pub once-new : (b : Bool) → b ≡ in_number bits (t % 64) → b ≡ false → Once run known check w p base s from whole new rest
          once-new b i h = next new more (ap (λ (m : Bool). known t && m) (go (member t o.seen) refl) ∙ and-false (known t))
            where
              go : (m : Bool) → member t o.seen ≡ m → m ≡ false
              go true j = absurd (false≢true (sym h ∙ i ∙ o.kept t j))
              go false j = refl

          pub once-other : (b : Bool) → b ≡ known t && member t o.order → b ≡ false → Once run known check w p base s from whole new rest
          once-other b i h = next new more (ap (λ (m : Bool). known t && m) (sym (o.same t)) ∙ sym i ∙ h)
