-- Place and length of an attribute give its value back: what holds of every attribute of run A whose checks have passed, and so of every row of a grid.
use mathlib.Core.Path.{◌≡◌, refl, sym, ap, ap₂, ◌∙◌, subst}
use mathlib.Core.Bool.{Bool, true, false, cond}
use mathlib.Core.List.{List, [], ◌∷◌, ◌++◌, Memᴰ}
use Prim.Native.Nat.{ℕ, ◌+◌, ◌-◌, ◌≤◌, ◌<◌}
use native.Mathlib.Omega.{arith}
use borrow.Author.Tests.{eqb-true, eqb-false}
use lib.Dec.{eqb}
use lib.ListN.{length, take, drop, length-take, length-drop}
use lib.Seq.{take-length, take-take, drop_at, length-take-le}
use Rattle.linkstate.specs.Lists.{each, keep, empty}
use Rattle.linkstate.specs.Bytes.{bytes_at}
use Rattle.linkstate.specs.Replies.{Verdict, accepted, run_a, fault}
use Rattle.linkstate.specs.Elements.{Element, element, cut, elements, faults}
use Rattle.linkstate.specs.Attributes.{Attribute, attribute, of_kind, first_value, value_of}
use Rattle.linkstate.specs.Sides.{of_live}
use Rattle.linkstate.proofs.ElementLaws.{at-place}
use Rattle.linkstate.proofs.WalkLaws.{then-first, then-second, not-accepted}
use Rattle.isis_kinds.proofs.Computing.{computing}
use Rattle.octets.proofs.Laws.{bytes_at-add}
use Rattle.isis.specs.Types.{code_of_type, wrong_in_a}
use Rattle.isis.specs.MaskHeader.{header_length}
use Rattle.isis.specs.RunA.{list_elements, check_attribute, check_asla, check_a, attributes_of, asla_advertisements, side_a}
use Rattle.isis.proofs.TypeLaws.{wrong_of_code, right-code, metric-type}
use Rattle.isis_grids.specs.declared.Which.{Which}
use Rattle.isis_grids.specs.Grid.{row_of, bgpls_value}
use Rattle.std.specs.Prelude.{is_none}
use Rattle.octets.specs.Spans.{found_in}
use Rattle.isis_grids.specs.Selected.{selects, selected}
use Rattle.isis_grids.proofs.Grids.{All, all-member, all-each}
use Rattle.isis_grids.proofs.Aslas.{headed, list-ok, all-selected, live_all}

-- An attribute of run A: its value stands at its place, has a right length, and is the run's own bytes, with a zero in front of a TE metric.
pub record Stands (a : List ℕ) (t : Attribute) : Type 0 where
  pub placed : 0 < t.at
  pub right : wrong_of_code t.code t.len ≡ false
  pub there : length (bytes_at a t.at t.len) ≡ t.len
  pub value : t.value ≡ bgpls_value t.code (bytes_at a t.at t.len)

-- ---- elements that passed their checks

abbrev Passed : (ℕ → ℕ → List ℕ → Verdict) → Element → Type 0
Passed check (element at t v) = check at t v ≡ accepted
Passed check (cut at) = Unit {0}

all-passed : (check : ℕ → ℕ → List ℕ → Verdict) (es : List Element) → faults run_a check es ≡ accepted → All (Passed check) es
unfolding faults
all-passed check [] h = tt
all-passed check (cut at ∷ es) h = absurd (not-accepted 3 run_a at h)
all-passed check (element at t v ∷ es) h = (then-first (check at t v) (faults run_a check es) h, all-passed check es (then-second (check at t v) (faults run_a check es) h))

right-attribute : (at t : ℕ) (v : List ℕ) → check_attribute at t v ≡ accepted → wrong_of_code (code_of_type t) (length v) ≡ false
unfolding check_attribute
right-attribute at t v h = right-code (length v) t (go (wrong_in_a t (length v)) h)
  where
    go : (b : Bool) → cond b (fault 4 run_a at) accepted ≡ accepted → b ≡ false
    go true e = absurd (not-accepted 4 run_a at e)
    go false e = refl

asla-unknown : (n : ℕ) → wrong_of_code (code_of_type 16) n ≡ false
unfolding computing wrong_of_code
asla-unknown n = refl

right-element : (at t : ℕ) (v : List ℕ) → check_a at t v ≡ accepted → wrong_of_code (code_of_type t) (length v) ≡ false
unfolding check_a
right-element at t v h = go (eqb t 16) refl h
  where
    go : (b : Bool) → eqb t 16 ≡ b → cond b (check_asla at v) (check_attribute at t v) ≡ accepted → wrong_of_code (code_of_type t) (length v) ≡ false
    go true e h = ap (λ (x : ℕ). wrong_of_code (code_of_type x) (length v)) (eqb-true t 16 e) ∙ asla-unknown (length v)
    go false e h = right-attribute at t v h

-- ---- lists that stand in run A

module _ (check : ℕ → ℕ → List ℕ → Verdict) (right : (at t : ℕ) (v : List ℕ) → check at t v ≡ accepted → wrong_of_code (code_of_type t) (length v) ≡ false) (a : List ℕ) where
  stands_one : (at t : ℕ) (v : List ℕ) → check at t v ≡ accepted → bytes_at a (at + 2) (length v) ≡ v → All (Stands a) (attributes_of (element at t v))
  unfolding attributes_of attribute bgpls_value
  stands_one at t v h e = (
    record {
      placed = omega arith;
      right = right at t v h;
      there = ap length e;
      value = ap₂ (λ (b : Bool) (l : List ℕ). cond b (0 ∷ l) l) (metric-type t) (sym e);
    },
    tt,
  )

  stands-element : (e : Element) → Passed check e → ((at t : ℕ) (v : List ℕ) → e ≡ element at t v → bytes_at a (at + 2) (length v) ≡ v) → All (Stands a) (attributes_of e)
  unfolding attributes_of
  stands-element (element at t v) h p = stands_one at t v h (p at t v refl)
  stands-element (cut at) h p = tt

  pub stands-list : (base : ℕ) (s : List ℕ) → bytes_at a base (length s) ≡ s → faults run_a check (elements 1 base s) ≡ accepted → All (Stands a) (each attributes_of (elements 1 base s))
  stands-list base s e h =
      all-each (Stands a) attributes_of (elements 1 base s)
      (λ x m. stands-element x (all-member (Passed check) (elements 1 base s) (all-passed check (elements 1 base s) h) x m)
      (λ at t v i. at-place 1 (omega arith) a base s e at t v (subst (λ (y : Element). Memᴰ y (elements 1 base s)) i m)))

whole_run : (a : List ℕ) → bytes_at a 0 (length a) ≡ a
unfolding bytes_at
whole_run a = take-length a

-- What follows a position of a part stands behind it.
tail-place : (a : List ℕ) (p k : ℕ) (v : List ℕ) → k ≤ length v → bytes_at a p (length v) ≡ v → bytes_at a (p + k) (length (drop k v)) ≡ drop k v
unfolding bytes_at
tail-place a p k v h e =
    let m = length v - k in
    let n : k + m ≡ length v = omega arith in
    let split : v ≡ take k (drop p a) ++ bytes_at a (p + k) m = sym e ∙ ap (λ (i : ℕ). bytes_at a p i) (sym n) ∙ bytes_at-add a p k m in
    let front : length (take k (drop p a)) ≡ k = ap length (sym (take-take k (length v) (drop p a) h) ∙ ap (take k) e) ∙ length-take-le k v h in
    ap (λ (i : ℕ). bytes_at a (p + k) i) (length-drop k v)
    ∙ sym (ap (drop k) split ∙ drop_at (take k (drop p a)) (bytes_at a (p + k) m) k front)

-- ---- side A

module _ (a : List ℕ) (ok : faults run_a check_a (elements 1 0 a) ≡ accepted) where
  pub legacy-stands : All (Stands a) (side_a a).legacy
  unfolding side_a
  legacy-stands = stands-list check_a right-element a 0 a (whole_run a) ok

  asla-stands : (w : Which) (at t : ℕ) (v : List ℕ) → check_a at t v ≡ accepted → bytes_at a (at + 2) (length v) ≡ v → All (Stands a) (selected w (element at t v))
  unfolding check_a list_elements
  asla-stands w at t v h e =
      all-selected (Stands a) w at t v
      (λ i l m.
      let p : check_asla at v ≡ accepted = rw i at h in
      stands-list check_attribute right-attribute a (at + 2 + header_length v) (drop (header_length v) v)
      (tail-place a (at + 2) (header_length v) v ((headed at v p).1 m) e) (list-ok at v p m l))

  element-stands : (w : Which) (e : Element) → Passed check_a e → ((at t : ℕ) (v : List ℕ) → e ≡ element at t v → bytes_at a (at + 2) (length v) ≡ v) → All (Stands a) (selected w e)
  unfolding selected asla_advertisements each keep
  element-stands w (element at t v) h p = asla-stands w at t v h (p at t v refl)
  element-stands w (cut at) h p = tt

  pub live-stands : (w : Which) → All (Stands a) (of_live (selects w) (side_a a))
  live-stands w =
      subst (All (Stands a)) (sym (live_all w a))
      (all-each (Stands a) (selected w) (elements 1 0 a)
      (λ x m. element-stands w x (all-member (Passed check_a) (elements 1 0 a) (all-passed check_a (elements 1 0 a) ok) x m)
      (λ at t v i. at-place 1 (omega arith) a 0 a (whole_run a) at t v (subst (λ (y : Element). Memᴰ y (elements 1 0 a)) i m))))

-- ---- one row

-- The first attribute of a code, if there is one.
pub data First (a : List ℕ) (c : ℕ) (ts : List Attribute) : Type 0 where
  absent : of_kind c ts ≡ [] → First a c ts
  present : (t : Attribute) (us : List Attribute) → of_kind c ts ≡ t ∷ us → t.code ≡ c → Stands a t → First a c ts

pub first-of : (a : List ℕ) (c : ℕ) (ts : List Attribute) → All (Stands a) ts → First a c ts
unfolding of_kind keep
first-of a c [] h = absent refl
first-of a c (t ∷ ts) h = go (eqb c t.code) refl (first-of a c ts h.1)
  where
    go : (b : Bool) → eqb c t.code ≡ b → First a c ts → First a c (t ∷ ts)
    go true e f = present t (keep (λ x. eqb c x.code) ts) (ap (λ (b : Bool). cond b (t ∷ keep (λ x. eqb c x.code) ts) (keep (λ x. eqb c x.code) ts)) e) (sym (eqb-true c t.code e)) h.0
    go false e (absent i) = absent (ap (λ (b : Bool). cond b (t ∷ keep (λ x. eqb c x.code) ts) (keep (λ x. eqb c x.code) ts)) e ∙ i)
    go false e (present u us i j k) = present u us (ap (λ (b : Bool). cond b (t ∷ keep (λ x. eqb c x.code) ts) (keep (λ x. eqb c x.code) ts)) e ∙ i) j k

-- A known code's value has at least one byte, and lies inside the run.
module _ (a : List ℕ) (t : Attribute) (s : Stands a t) where
  pub some_bytes : wrong_of_code t.code 0 ≡ true → 0 < t.len
  some_bytes h = go (eqb t.len 0) refl
    where
      go : (b : Bool) → eqb t.len 0 ≡ b → 0 < t.len
      go true e =
          let i : wrong_of_code t.code 0 ≡ false = ap (wrong_of_code t.code) (sym (eqb-true t.len 0 e)) ∙ s.right in
          let z : ◌≡◌ {A = ℕ} 0 1 = cc in absurd (omega arith)
      go false e = let n = eqb-false t.len 0 e in omega arith

  pub within : 0 < t.len → t.at + t.len ≤ length a
  unfolding bytes_at
  within h = omega (arith, s.there, length-take t.len (drop t.at a), length-drop t.at a)

-- A known code has no value exactly where its row is absent.
pub value_none : (a : List ℕ) (c : ℕ) (ts : List Attribute) → eqb c 1096 ≡ false → wrong_of_code c 0 ≡ true → All (Stands a) ts → empty (value_of c ts) ≡ is_none (row_of c ts)
unfolding value_of found_in first_value empty bgpls_value
value_none a c ts n w h = rw n (go (first-of a c ts h))
  where
    some : (l : List ℕ) → 0 < length l → empty l ≡ false
    some [] k = absurd (omega arith)
    some (x ∷ l) k = refl

    more : (b : Bool) (l : List ℕ) → 0 < length l → 0 < length (cond b (0 ∷ l) l)
    more true l k = omega arith
    more false l k = k

    go : First a c ts → empty (first_value (of_kind c ts)) ≡ is_none (found_in (of_kind c ts))
    go (absent e) = rw e
    go (present t us e i s) =
        let k : 0 < t.len = some_bytes a t s (ap (λ (x : ℕ). wrong_of_code x 0) i ∙ w) in
        rw (e, s.value)
        (some (bgpls_value t.code (bytes_at a t.at t.len)) (more (eqb t.code 1092) (bytes_at a t.at t.len) (omega (arith, s.there))))
