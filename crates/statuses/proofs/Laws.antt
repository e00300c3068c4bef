-- Numbers above 63 ask alike; the bits of a bandwidth matter to no other answer; the bytes at the place that is told are the value's.
use mathlib.Core.Path.{◌≡◌, refl}
use mathlib.Core.Bool.{Bool, true, false, cond}
use mathlib.Core.List.{List, [], ◌∷◌}
use Prim.Native.Nat.{ℕ}
use native.Mathlib.Omega.{arith}
use lib.Dec.{eqb, ltb}
use lib.Ieee.{Float}
use lib.ListN.{length, get_or}
use borrow.Author.Tests.{ne_eqb, ltb-true, lt-ltb}
use lib.Seq.{take-length}
use Rattle.linkstate.specs.Bytes.{bytes_at}
use Rattle.linkstate.specs.Replies.{Verdict, accepted, refused, refused_if, ◌then◌, unless, fault_of_call, fault, whole, pair, bandwidth, part, count, Reply, absent, found, ask_refused, Run, place}
use Rattle.linkstate.specs.Attributes.{Attribute, of_kind}
use Rattle.linkstate.specs.Why.{Why, unless_ask_refused}
use Rattle.linkstate.specs.Questions.{Source, Subject, generally, standard_no, user_no, number_too_high, before_answer, given, ask, value, bytes_of_first}
use Rattle.statuses.specs.Words.{nothing, placed, whom_of, least, reply_words, ask_words, place_words, value_words}

-- ---- numbers above 63

-- Two subjects whose numbers are too high ask alike.
module _ (s : Source) (k : ℕ) (v w : Subject) (hv : number_too_high v ≡ true) (hw : number_too_high w ≡ true) where
  before-high : before_answer s v k ≡ before_answer s w k
  unfolding before_answer refused_if fault_of_call fault ◌then◌
  before-high = rw (hv, hw)

  refused-high : before_answer s v k ≡ fault 6 Rattle.linkstate.specs.Replies.run_a 0
  unfolding before_answer refused_if fault_of_call fault ◌then◌
  refused-high = rw hv

  ask-high : (list : List ℕ) → ask s v k list ≡ ask s w k list
  unfolding ask unless fault
  ask-high list = rw (← before-high, refused-high)

  value-high : value s v k ≡ value s w k
  unfolding value unless fault
  value-high = rw (← before-high, refused-high)

  place-high : value_words s v k ≡ value_words s w k
  unfolding value_words unless fault
  place-high = rw (← before-high, refused-high)

  why-high : (x y : Why) → unless_ask_refused s v k x ≡ unless_ask_refused s w k y
  unfolding unless_ask_refused unless fault
  why-high x y = rw (← before-high, refused-high)

-- ---- whom a call asks about

pub nobody : (who number : ℕ) → (who ≡ 0 → ⊥) → (who ≡ 1 → ⊥) → (who ≡ 2 → ⊥) → standard_no 64 ≡ whom_of who number
nobody who number z o t = rw (ne_eqb who 0 z, ne_eqb who 1 o, ne_eqb who 2 t)

-- Asked by a lowered number, any question is what it is by the number itself.
module _ {A : Type 0} (f : Subject → A) (alike : (v w : Subject) → number_too_high v ≡ true → number_too_high w ≡ true → f v ≡ f w) where
  low : (who n : ℕ) → f (whom_of who (least n)) ≡ f (whom_of who n)
  unfolding number_too_high
  low who n = go (ltb 63 n) refl
    where
      of : ltb 63 n ≡ true → (x y z : Bool)
          → f (cond x generally (cond y (standard_no 64) (cond z (user_no 64) (standard_no 64)))) ≡ f
          (cond x generally (cond y (standard_no n) (cond z (user_no n) (standard_no 64))))
      of h true y z = refl
      of h false true z = alike (standard_no 64) (standard_no n) refl h
      of h false false true = alike (user_no 64) (user_no n) refl (let l = ltb-true 63 n h in lt-ltb 31 n (omega arith))
      of h false false false = refl

      go : (b : Bool) → ltb 63 n ≡ b → f (whom_of who (cond b 64 n)) ≡ f (whom_of who n)
      go true h = of h (eqb who 0) (eqb who 1) (eqb who 2)
      go false h = refl

module _ (s : Source) (k : ℕ) where
  pub asked_low : (list : List ℕ) (who n : ℕ) → ask s (whom_of who (least n)) k list ≡ ask s (whom_of who n) k list
  asked_low list = low (λ v. ask s v k list) (λ v w hv hw. ask-high s k v w hv hw list)

  pub value_low : (who n : ℕ) → value s (whom_of who (least n)) k ≡ value s (whom_of who n) k
  value_low = low (λ v. value s v k) (λ v w hv hw. value-high s k v w hv hw)

  pub ask-words-low : (list : List ℕ) (who n : ℕ) → ask_words s (whom_of who (least n)) k list ≡ ask_words s (whom_of who n) k list
  unfolding ask_words
  ask-words-low list who n = rw (asked_low list who n, value_low who n)

  pub why-low : (f : Subject → Why) (who n : ℕ)
      → unless_ask_refused s (whom_of who (least n)) k (f (whom_of who (least n))) ≡ unless_ask_refused s (whom_of who n) k (f (whom_of who n))
  why-low f = low (λ v. unless_ask_refused s v k (f v)) (λ v w hv hw. why-high s k v w hv hw (f v) (f w))

  pub value-words-low : (who n : ℕ) → value_words s (whom_of who (least n)) k ≡ value_words s (whom_of who n) k
  value-words-low = low (λ v. value_words s v k) (λ v w hv hw. place-high s k v w hv hw)

-- ---- the bits of a bandwidth

-- A part that is the whole run.
pub whole_run : (v : List ℕ) (n : ℕ) → length v ≡ n → bytes_at v 0 n ≡ v
unfolding bytes_at
whole_run v n e = rw (← e) (take-length v)

-- Only a bandwidth has bits.
pub no_bits : (x : Reply) (m n : ℕ) → (get_or (reply_words m x) 0 0 ≡ 3 → ⊥) → reply_words m x ≡ reply_words n x
no_bits absent m n h = refl
no_bits (found (whole i)) m n h = refl
no_bits (found (pair i j)) m n h = refl
no_bits (found (bandwidth x)) m n h = absurd (h refl)
no_bits (found (part p i)) m n h = refl
no_bits (found (count i)) m n h = refl
no_bits (ask_refused r) m n h = refl

pub record IsBandwidth (x : Reply) : Type 0 where
  pub float : Float
  pub is : x ≡ found (bandwidth float)

pub status-3 : (x : Reply) (m : ℕ) → get_or (reply_words m x) 0 0 ≡ 3 → IsBandwidth x
status-3 absent m h = absurd (omega arith)
status-3 (found (whole i)) m h = absurd (omega arith)
status-3 (found (pair i j)) m h = absurd (omega arith)
status-3 (found (bandwidth x)) m h = record { float = x; is = refl }
status-3 (found (part p i)) m h = absurd (omega arith)
status-3 (found (count i)) m h = absurd (omega arith)
status-3 (ask_refused r) m h = absurd (omega arith)

-- ---- the place of a value

-- The bytes at the place that the value functions tell are those that `value` hands back; where they tell none, it hands back none.
module _ (s : Source) (run : Run) (own : s.spot ≡ place run) (whom : Subject) (k : ℕ) where
  of-first : (p n : ℕ) (ts : List Attribute) → place_words s.spot ts ≡ placed 4 p n run → bytes_at s.bytes p n ≡ bytes_of_first s.bytes ts
  unfolding place_words bytes_of_first place
  of-first p n [] e = absurd (let z : ◌≡◌ {A = ℕ} 0 4 = cc in omega arith)
  of-first p n (t ∷ ts) e =
      let f = rw own at e in
      let x : t.at ≡ p = cc in let y : t.len ≡ n = cc in rw (x, y)

  pub value-stands : (p n : ℕ) → value_words s whom k ≡ placed 4 p n run → bytes_at s.bytes p n ≡ value s whom k
  unfolding value_words value unless
  value-stands p n = go (before_answer s whom k) (eqb k 1096)
    where
      go : (v : Verdict) (b : Bool) → unless v (λ r. nothing) (cond b nothing (place_words s.spot (of_kind k (given s whom k)))) ≡ placed 4 p n run
          → bytes_at s.bytes p n ≡ unless v (λ r. []) (cond b [] (bytes_of_first s.bytes (of_kind k (given s whom k))))
      go (refused r) b e = absurd (let z : ◌≡◌ {A = ℕ} 0 4 = cc in omega arith)
      go accepted true e = absurd (let z : ◌≡◌ {A = ℕ} 0 4 = cc in omega arith)
      go accepted false e = of-first p n (of_kind k (given s whom k)) e

  of_none : (ts : List Attribute) → place_words s.spot ts ≡ nothing → [] ≡ bytes_of_first s.bytes ts
  unfolding place_words bytes_of_first
  of_none [] e = refl
  of_none (t ∷ ts) e = absurd (let z : ◌≡◌ {A = ℕ} 0 4 = cc in omega arith)

  pub value_none : value_words s whom k ≡ nothing → [] ≡ value s whom k
  unfolding value_words value unless
  value_none = go (before_answer s whom k) (eqb k 1096)
    where
      go : (v : Verdict) (b : Bool) → unless v (λ r. nothing) (cond b nothing (place_words s.spot (of_kind k (given s whom k)))) ≡ nothing
          → [] ≡ unless v (λ r. []) (cond b [] (bytes_of_first s.bytes (of_kind k (given s whom k))))
      go (refused r) b e = refl
      go accepted true e = refl
      go accepted false e = of_none (of_kind k (given s whom k)) e
