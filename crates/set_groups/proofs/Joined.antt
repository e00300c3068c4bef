-- The named applications that join one by one, ascending, make the groups of the export (rules L3, L7). Assumes nothing.
use mathlib.Core.Path.{◌≡◌, refl, sym, ◌∙◌, ap, ap₂}
use mathlib.Core.Bool.{Bool, true, false, cond, ◌&&◌, ◌||◌, false≢true}
use mathlib.Core.List.{List, [], ◌∷◌, ◌++◌, map, Memᴰ, append-nil}
use Prim.Native.Nat.{ℕ, zero, suc, ◌+◌, ◌-◌, ◌≤◌, ◌<◌}
use native.Mathlib.Omega.{arith}
use native.Mathlib.Nat.{add-zero}
use borrow.Author.Tests.{eqb-true, eqb-false, eq-eqb, ne_eqb, lt-ltb, le-ltb, ltb-true, ltb-false}
use lib.Dec.{eqb, ltb}
use Rattle.linkstate.proofs.MaskLaws.{number_same}
use Rattle.linkstate.proofs.ListLaws.{and_l, and_r, keep_append, keep-mem, map-append, map-ext, numbers-mem, rows_refl, rows_eq}
use Rattle.linkstate.specs.Lists.{numbers, keep, lookup, same_rows}
use Rattle.linkstate.specs.Masks.{user, others, as_number, in_number}
use Rattle.linkstate.specs.Meaning.{Meaning, row}
use Rattle.linkstate.specs.Export.{leader, in_group}
use Rattle.rivals.proofs.Groups.{leader-row}
use Rattle.masks.specs.Sets.{turned_place}
use Rattle.masks.proofs.Laws.{in-number, number_of}
use Rattle.masks.proofs.Steps.{zero-none}
use Rattle.set_groups.specs.Groups.{Group, group, added, join, group_below, groups_below}

-- ---- the first number that passes a test

apart : (p : ℕ → Bool) (i k : ℕ) → p i ≡ false → p k ≡ true → (i ≡ k → ⊥)
apart p i k e f q = false≢true (sym e ∙ ap p q ∙ f)

pub first : (p : ℕ → Bool) (n from k : ℕ) → from ≤ k → k < from + n → p k ≡ true
    → (from ≤ lookup p (λ b. b) 0 (numbers from n)) × (lookup p (λ b. b) 0 (numbers from n) ≤ k) × (p (lookup p (λ b. b) 0 (numbers from n)) ≡ true)
unfolding lookup numbers
first p zero from k a b e = absurd (omega arith)
first p (suc n) from k a b e = go (p from) refl (λ l. first p n (suc from) k l (omega arith) e)
  where
    rest : ℕ
    rest = lookup p (λ b. b) 0 (numbers (suc from) n)

    go : (t : Bool) → p from ≡ t → (suc from ≤ k → (suc from ≤ rest) × (rest ≤ k) × (p rest ≡ true)) → (from ≤ cond t from rest) × (cond t from rest ≤ k) × (p (cond t from rest) ≡ true)
    go true f r = (omega arith, a, f)
    go false f r =
        let d = apart p from k f e in
        let q = r (omega arith) in
        (omega arith, q.1, q.2)

-- ---- leaders

pub record Led (m : Meaning) (n : ℕ) : Type 0 where
  pub named : m.named (leader m n) ≡ true
  pub same : row (m.set (leader m n)) ≡ row (m.set n)
  pub low : 1 ≤ leader m n
  pub high : leader m n ≤ n

-- Only applications other than RSVP-TE are named.
abbrev pub NamesOthers : Meaning → Type 0
NamesOthers m = (n : ℕ) → m.named n ≡ true → (1 ≤ n) × (n < 96)

module _ (m : Meaning) (only : NamesOthers m) where
  led : (n : ℕ) → m.named n ≡ true → Led m n
  unfolding leader others
  led n e =
      let o = only n e in
      let test : ℕ → Bool = λ b. m.named b && same_rows (row (m.set b)) (row (m.set n)) in
      let self : test n ≡ true = rw (e, rows_refl (row (m.set n))) in
      let f = first test 95 1 n o.0 (omega (arith, o.1)) self in
      record {
        named = and_l (m.named (leader m n)) _ f.2;
        same = rows_eq (row (m.set (leader m n))) (row (m.set n)) (and_r (m.named (leader m n)) _ f.2);
        low = f.0;
        high = f.1;
      }

  -- A leader has n's set if it leads n.
  same-leader : (l n : ℕ) → in_group m l l ≡ true → m.named n ≡ true → same_rows (row (m.set l)) (row (m.set n)) ≡ eqb (leader m n) l
  unfolding in_group
  same-leader l n i e = go (same_rows (row (m.set l)) (row (m.set n))) refl
    where
      go : (b : Bool) → same_rows (row (m.set l)) (row (m.set n)) ≡ b → b ≡ eqb (leader m n) l
      go true f = sym (eq-eqb (leader m n) l (leader-row m n l (sym (rows_eq (row (m.set l)) (row (m.set n)) f)) ∙ eqb-true (leader m l) l (and_r (m.named l) (eqb (leader m l) l) i)))
      go false f =
          sym (ne_eqb (leader m n) l (λ q.
          let s : row (m.set l) ≡ row (m.set n) = ap (λ (x : ℕ). row (m.set x)) (sym q) ∙ (led n e).same in
          false≢true (sym f ∙ rw s (rows_refl (row (m.set n))))))

  leads-itself : (n : ℕ) → m.named n ≡ true → in_group m (leader m n) (leader m n) ≡ true
  unfolding in_group
  leads-itself n e = let d = led n e in rw (d.named, leader-row m (leader m n) n d.same, eq-eqb (leader m n) (leader m n) refl)

  -- Nobody before n is in the group that n leads.
  none_before : (n k : ℕ) → ltb k n && in_group m n k ≡ false
  unfolding in_group
  none_before n k = go (ltb k n) refl (m.named k) refl
    where
      go : (b : Bool) → ltb k n ≡ b → (t : Bool) → m.named k ≡ t → b && (t && eqb (leader m k) n) ≡ false
      go false e t f = refl
      go true e false f = refl
      go true e true f = let h = ltb-true k n e in let l = (led k f).high in ne_eqb (leader m k) n (λ q. omega arith)

-- ---- the members below a number

or-false : (b : Bool) → b || false ≡ b
or-false true = refl
or-false false = refl

module _ (g : ℕ → Bool) (n k : ℕ) where
  abbrev next : Bool
  next = ltb k (n + 1) && g k

  below_in : g n ≡ true → (ltb k n && g k) || eqb k n ≡ next
  below_in e = go (ltb k n) refl (eqb k n) refl
    where
      go : (b : Bool) → ltb k n ≡ b → (t : Bool) → eqb k n ≡ t → (b && g k) || t ≡ next
      go true f true h = let a = ltb-true k n f in let q = eqb-true k n h in absurd (omega arith)
      go true f false h = let a = ltb-true k n f in rw (lt-ltb k (n + 1) (omega arith)) (or-false (g k))
      go false f true h = let q = eqb-true k n h in rw (lt-ltb k (n + 1) (omega arith)) (sym (ap g q ∙ e))
      go false f false h = let a = ltb-false k n f in let q = eqb-false k n h in rw (le-ltb k (n + 1) (omega arith))

  below_out : g n ≡ false → ltb k n && g k ≡ next
  below_out e = go (ltb k n) refl (eqb k n) refl
    where
      go : (b : Bool) → ltb k n ≡ b → (t : Bool) → eqb k n ≡ t → b && g k ≡ next
      go true f t h = let a = ltb-true k n f in rw (lt-ltb k (n + 1) (omega arith))
      go false f true h = let q = eqb-true k n h in rw (lt-ltb k (n + 1) (omega arith)) (sym (ap g q ∙ e))
      go false f false h = let a = ltb-false k n f in let q = eqb-false k n h in rw (le-ltb k (n + 1) (omega arith))

-- As numbers, by the application that t says of a bit: the standard one, or the user one.
module _ (t : ℕ → ℕ) (g : ℕ → Bool) (n : ℕ) where
  abbrev before : ℕ → Bool
  before = λ i. ltb (t i) n && g (t i)

  abbrev after : ℕ → Bool
  after = λ i. ltb (t i) (n + 1) && g (t i)

  number_in : g n ≡ true → as_number (λ k. in_number (as_number before) k || eqb (t k) n) ≡ as_number after
  number_in e = number_same _ after (λ k h. ap (λ (b : Bool). b || eqb (t k) n) (in-number before k h) ∙ below_in g n (t k) e)

  number-out : g n ≡ false → as_number before ≡ as_number after
  number-out e = number_same before after (λ k h. below_out g n (t k) e)

  number-none : ((k : ℕ) → ltb k n && g k ≡ false) → as_number before ≡ 0
  number-none e = number_same before (in_number 0) (λ k h. e (t k) ∙ sym (zero-none k)) ∙ number_of 0 (omega arith)

-- ---- the groups of the applications below a number

module _ (m : Meaning) where
  pub values-below : (k l : ℕ) → (group_below m k l).values ≡ row (m.set l)
  unfolding group_below group
  values-below k l = refl

  module _ (n l : ℕ) where
    group-in : in_group m l n ≡ true → added n (group_below m n l) ≡ group_below m (n + 1) l
    unfolding group_below group added
    group-in e = ap₂ (λ (s u : ℕ). group (row (m.set l)) s u) (number_in turned_place (in_group m l) n e) (number_in (λ i. user (turned_place i)) (in_group m l) n e)

    group-out : in_group m l n ≡ false → group_below m n l ≡ group_below m (n + 1) l
    unfolding group_below
    group-out e = ap₂ (λ (s u : ℕ). group (row (m.set l)) s u) (number-out turned_place (in_group m l) n e) (number-out (λ i. user (turned_place i)) (in_group m l) n e)

  group-none : (n : ℕ) → ((k : ℕ) → ltb k n && in_group m n k ≡ false) → group_below m n n ≡ group (row (m.set n)) 0 0
  unfolding group_below
  group-none n e = ap₂ (λ (s u : ℕ). group (row (m.set n)) s u) (number-none turned_place (in_group m n) n e) (number-none (λ i. user (turned_place i)) (in_group m n) n e)

  group-new : (n : ℕ) → ((k : ℕ) → ltb k n && in_group m n k ≡ false) → in_group m n n ≡ true → added n (group (row (m.set n)) 0 0) ≡ group_below m (n + 1) n
  group-new n e f = ap (added n) (sym (group-none n e)) ∙ group-in n n f

-- ---- joining

module _ (n : ℕ) (vs : List (List ℕ)) (f : ℕ → Group) (p : ℕ → Bool) (l : ℕ) where
  -- Of the numbers from one on, those that pass the test have the values if they are l.
  abbrev Only : ℕ → ℕ → Type 0
  Only from c = (i : ℕ) → from ≤ i → i < from + c → p i ≡ true → same_rows (f i).values vs ≡ eqb l i

  abbrev joined : ℕ → Group
  joined i = cond (eqb l i) (added n (f i)) (f i)

  join_last : (c from : ℕ) → Only from c → from + c ≤ l → join n vs (map f (keep p (numbers from c))) ≡ map f (keep p (numbers from c)) ++ (added n (group vs 0 0) ∷ [])
  unfolding join keep numbers
  join_last zero from o h = refl
  join_last (suc c) from o h = go (p from) refl (join_last c (suc from) (λ i a b e. o i (omega arith) (omega arith) e) (omega arith))
    where
      rest : List ℕ
      rest = keep p (numbers (suc from) c)

      go : (b : Bool) → p from ≡ b → join n vs (map f rest) ≡ map f rest ++ (added n (group vs 0 0) ∷ [])
          → join n vs (map f (cond b (from ∷ rest) rest)) ≡ map f (cond b (from ∷ rest) rest) ++ (added n (group vs 0 0) ∷ [])
      go true e r = rw (o from (omega arith) (omega arith) e ∙ ne_eqb l from (λ q. omega arith)) (ap (λ (gs : List Group). f from ∷ gs) r)
      go false e r = r

  join-found : (c from : ℕ) → Only from c → from ≤ l → l < from + c → p l ≡ true → join n vs (map f (keep p (numbers from c))) ≡ map joined (keep p (numbers from c))
  unfolding join keep numbers
  join-found zero from o a b e = absurd (omega arith)
  join-found (suc c) from o a b e = go (p from) refl (eqb l from) refl (λ h. join-found c (suc from) (λ i x y z. o i (omega arith) (omega arith) z) h (omega arith) e)
    where
      rest : List ℕ
      rest = keep p (numbers (suc from) c)

      later : l ≡ from → map f rest ≡ map joined rest
      later q =
          map-ext f joined rest (λ i mem.
          let k = numbers-mem (suc from) c (keep-mem p (numbers (suc from) c) mem).1 in
          sym (ap (λ (b : Bool). cond b (added n (f i)) (f i)) (ne_eqb l i (λ z. omega arith))))

      go : (b : Bool) → p from ≡ b → (t : Bool) → eqb l from ≡ t → (suc from ≤ l → join n vs (map f rest) ≡ map joined rest)
          → join n vs (map f (cond b (from ∷ rest) rest)) ≡ map joined (cond b (from ∷ rest) rest)
      go true x true y r = rw (o from (omega arith) (omega arith) x ∙ y, y) (ap (λ (gs : List Group). added n (f from) ∷ gs) (later (eqb-true l from y)))
      go true x false y r =
          let d = eqb-false l from y in
          rw (o from (omega arith) (omega arith) x ∙ y, y) (ap (λ (gs : List Group). f from ∷ gs) (r (omega arith)))
      go false x true y r = absurd (false≢true (sym x ∙ ap p (sym (eqb-true l from y)) ∙ e))
      go false x false y r = let d = eqb-false l from y in r (omega arith)

pub numbers-last : (n from : ℕ) → numbers from (suc n) ≡ numbers from n ++ ((from + n) ∷ [])
unfolding numbers
numbers-last zero from = rw (add-zero from)
numbers-last (suc n) from = let e : from + suc n ≡ suc from + n = omega arith in rw (e, sym (numbers-last n (suc from)))

module _ (m : Meaning) where
  abbrev leads : ℕ → Bool
  leads = λ a. in_group m a a

  abbrev leaders_below : ℕ → List ℕ
  leaders_below n = keep leads (numbers 1 (n - 1))

  leaders-next : (n : ℕ) → 1 ≤ n → leaders_below (n + 1) ≡ leaders_below n ++ keep leads (n ∷ [])
  leaders-next n h =
      let e : n + 1 - 1 ≡ suc (n - 1) = omega arith in
      let f : 1 + (n - 1) ≡ n = omega arith in
      ap (λ (k : ℕ). keep leads (numbers 1 k)) e
      ∙ ap (keep leads) (numbers-last (n - 1) 1)
      ∙ keep_append leads (numbers 1 (n - 1)) ((1 + (n - 1)) ∷ [])
      ∙ ap (λ (k : ℕ). leaders_below n ++ keep leads (k ∷ [])) f

  abbrev lastly : ℕ → Bool → List Group
  lastly n b = map (group_below m (n + 1)) (cond b (n ∷ []) [])

  groups-next : (n : ℕ) → 1 ≤ n → groups_below m (n + 1) ≡ map (group_below m (n + 1)) (leaders_below n) ++ lastly n (leads n)
  unfolding groups_below keep
  groups-next n h = ap (map (group_below m (n + 1))) (leaders-next n h) ∙ map-append (group_below m (n + 1)) (leaders_below n) (keep leads (n ∷ []))

  below-is : (n : ℕ) → groups_below m n ≡ map (group_below m n) (leaders_below n)
  unfolding groups_below
  below-is n = refl

  stays : (n : ℕ) → ((l : ℕ) → Memᴰ l (leaders_below n) → in_group m l n ≡ false) → groups_below m n ≡ map (group_below m (n + 1)) (leaders_below n)
  stays n out = below-is n ∙ map-ext (group_below m n) (group_below m (n + 1)) (leaders_below n) (λ l mem. group-out m n l (out l mem))

  -- Who leads n, by its name.
  named_in : (l n : ℕ) → m.named n ≡ true → in_group m l n ≡ eqb (leader m n) l
  unfolding in_group
  named_in l n e = rw e

  unnamed-out : (l n : ℕ) → m.named n ≡ false → in_group m l n ≡ false
  unfolding in_group
  unnamed-out l n e = rw e

  -- The leaders below n, and that they lead.
  below : (n i : ℕ) → Memᴰ i (leaders_below n) → (1 ≤ i) × (i < 1 + (n - 1)) × (in_group m i i ≡ true)
  below n i mem = let k = keep-mem leads (numbers 1 (n - 1)) mem in let j = numbers-mem 1 (n - 1) k.1 in (j.0, j.1, k.0)

module _ (m : Meaning) where
  -- One that is not named changes nothing.
  skip : (n : ℕ) → 1 ≤ n → m.named n ≡ false → groups_below m n ≡ groups_below m (n + 1)
  skip n h e = stay ∙ sym (groups-next m n h ∙ ap (λ (b : Bool). map (group_below m (n + 1)) (leaders_below m n) ++ lastly m n b) (out n) ∙ append-nil (map (group_below m (n + 1)) (leaders_below m n)))
    where
      out : (l : ℕ) → in_group m l n ≡ false
      out l = unnamed-out m l n e

      stay : groups_below m n ≡ map (group_below m (n + 1)) (leaders_below m n)
      stay = stays m n (λ l mem. out l)

  pub skips : (d n : ℕ) → 1 ≤ n → ((j : ℕ) → n ≤ j → j < n + d → m.named j ≡ false) → groups_below m n ≡ groups_below m (n + d)
  skips zero n h e = ap (groups_below m) (sym (add-zero n))
  skips (suc d) n h e =
      let f : n + 1 + d ≡ n + suc d = omega arith in
      skip n h (e n (omega arith) (omega arith)) ∙ skips d (n + 1) (omega arith) (λ j a b. e j (omega arith) (omega arith)) ∙ ap (groups_below m) f

  -- One that is named joins.
  pub joins : NamesOthers m → (n : ℕ) → m.named n ≡ true → join n (row (m.set n)) (groups_below m n) ≡ groups_below m (n + 1)
  joins only n e = go (eqb (leader m n) n) refl
    where
      vs : List (List ℕ)
      vs = row (m.set n)

      d : Led m n
      d = led m only n e

      test : Only n vs (group_below m n) (leads m) (leader m n) 1 (n - 1)
      test i a b f = ap (λ (x : List (List ℕ)). same_rows x vs) (values-below m n i) ∙ same-leader m only i n f e

      go : (b : Bool) → eqb (leader m n) n ≡ b → join n vs (groups_below m n) ≡ groups_below m (n + 1)
      go true f =
          let q = eqb-true (leader m n) n f in
          let o = only n e in
          let t : leads m n ≡ true = named_in m n n e ∙ f in
          ap (join n vs) (below-is m n)
          ∙ join_last n vs (group_below m n) (leads m) (leader m n) (n - 1) 1 test (omega arith)
          ∙ ap₂ (λ (x y : List Group). x ++ y)
          (sym (below-is m n) ∙ stays m n (λ l mem. let z = below m n l mem in named_in m l n e ∙ ne_eqb (leader m n) l (λ w. omega arith)))
          (ap (λ (g : Group). g ∷ []) (group-new m n (none_before m only n) t) ∙ ap (lastly m n) (sym t))
          ∙ sym (groups-next m n o.0)
      go false f =
          let q = eqb-false (leader m n) n f in
          let o = only n e in
          let low = d.low in
          let high = d.high in
          let t : leads m n ≡ false = named_in m n n e ∙ f in
          ap (join n vs) (below-is m n)
          ∙ join-found n vs (group_below m n) (leads m) (leader m n) (n - 1) 1 test d.low (omega arith) (leads-itself m only n e)
          ∙ map-ext (joined n vs (group_below m n) (leads m) (leader m n)) (group_below m (n + 1)) (leaders_below m n) (λ l mem. one l (eqb (leader m n) l) (named_in m l n e))
          ∙ sym (append-nil (map (group_below m (n + 1)) (leaders_below m n)))
          ∙ ap (λ (b : Bool). map (group_below m (n + 1)) (leaders_below m n) ++ lastly m n b) (sym t)
          ∙ sym (groups-next m n o.0)
        where
          one : (l : ℕ) (b : Bool) → in_group m l n ≡ b → cond b (added n (group_below m n l)) (group_below m n l) ≡ group_below m (n + 1) l
          one l true i = group-in m n l i
          one l false i = group-out m n l i
